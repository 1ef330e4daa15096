-- What a past holds open is open on the disk to which it led, so its calls may be made.
use Rattle.std.proofs.Common.{◌≡◌, ◌≢◌, ℕ, List, [], ◌∷◌, Option, Some, None, IsSome, refl, sym, ap, ◌∙◌, subst, ⊎_elim}
use Rattle.std.specs.Prelude.{IsSomeAnd, option_map}
use Rattle.call_fs.specs.declared.calls.CallData.{CallData}
use Rattle.call_fs.specs.declared.calls.CallData.TheVariants as call
use Rattle.call_fs.specs.declared.calls.Answer.{Answer}
use Rattle.call_fs.specs.declared.calls.Answer.TheVariants as told
use Rattle.call_fs.specs.declared.calls.FsError.TheVariants.{NotThere, Fault, Memory}
use Rattle.call_fs.specs.declared.past.NeedData.{NeedData}
use Rattle.call_fs.specs.declared.past.NeedData.TheVariants as needs
use Rattle.call_fs.specs.declared.past.GotData.{GotData}
use Rattle.call_fs.specs.declared.past.GotData.TheVariants as got
use Rattle.call_fs.specs.declared.past.Own.{Own}
use Rattle.call_fs.specs.Maps.{put}
use Rattle.call_fs.specs.Disk.{Disk, File, Open}
use Rattle.call_fs.specs.declared.modes.Mode.{Mode}
use Rattle.call_fs.specs.declared.calls.How.{How}
use Rattle.call_fs.specs.Apply.{effect, changed, with_new, with_open, without_open, Fits, MayCall, Apply}
use Rattle.call_fs.specs.Columns.{HasRoomFor}
use Rattle.call_fs.specs.Past.{LeadsTo, Makes, held, held_by, held_after, Uses, Backs}
use Rattle.call_fs.proofs.Maps.{put_cases}

-- A disk on which no descriptor is open but those of `d`
module _ (d e : Disk) (h : ℕ → Option Mode) where
  -- a descriptor that wasn't open is, and is held
  one_more : (fd n : ℕ) (mode : Mode) → d.opens fd ≡ None → e.opens ≡ put d.opens fd (Some (record { number = n; mode = mode })) → Backs d h → Backs e (put h fd (Some mode))
  one_more fd n mode new opens backs q other is = ⊎_elim
      (λ at. let same : ◌≡◌ {A = Option Mode} (Some mode) (Some other) = sym at.1 ∙ is in let modes : mode ≡ other = cc in
      (n, ap (λ (m : ℕ → Option Open). m q) opens ∙ put_at_key at.0 ∙ ap (λ (m : Mode). Some (record { number = n; mode = m })) modes))
      (λ off. let b = backs q other (sym off.1 ∙ is) in (b.0, ap (λ (m : ℕ → Option Open). m q) opens ∙ put_off off.0 ∙ b.1))
      (put_cases h fd (Some mode) q) where
        put_at_key : q ≡ fd → put d.opens fd (Some (record { number = n; mode = mode })) q ≡ Some (record { number = n; mode = mode })
        put_at_key here = ⊎_elim (λ a. a.1) (λ a. absurd (a.0 here)) (put_cases d.opens fd (Some (record { number = n; mode = mode })) q)

        put_off : q ≢ fd → put d.opens fd (Some (record { number = n; mode = mode })) q ≡ d.opens q
        put_off apart = ⊎_elim (λ a. absurd (apart a.0)) (λ a. a.1) (put_cases d.opens fd (Some (record { number = n; mode = mode })) q)

  one_less : (fd : ℕ) → e.opens ≡ put d.opens fd None → Backs d h → Backs e (put h fd None)
  one_less fd opens backs q mode is = ⊎_elim
      (λ at. let none : ◌≡◌ {A = Option Mode} None (Some mode) = sym at.1 ∙ is in absurd (cc))
      (λ off. let b = backs q mode (sym off.1 ∙ is) in (b.0, ap (λ (m : ℕ → Option Open). m q) opens ∙ put_off off.0 ∙ b.1))
      (put_cases h fd None q) where
        put_off : q ≢ fd → put d.opens fd None q ≡ d.opens q
        put_off apart = ⊎_elim (λ a. absurd (apart a.0)) (λ a. a.1) (put_cases d.opens fd None q)

same_changed : (d : Disk) (o : Option Open) (f : File → File) (h : ℕ → Option Mode) → Backs d h → Backs (changed d o f) h
same_changed d None f h backs = backs
same_changed d (Some o) f h backs = backs

backs_opened : (d : Disk) (name : List ℕ) (how : How) (fd : ℕ) (h : ℕ → Option Mode) (number : Option ℕ) → d.names name ≡ number → IsSome number → d.opens fd ≡ None
    → Backs d h → Backs (with_open d name how fd) (put h fd (Some (Mode.Opened how)))
backs_opened d name how fd h None is some new backs = let none = some in absurd (cc)
backs_opened d name how fd h (Some n) is some new backs =
    one_more d (with_open d name how fd) h fd n (Mode.Opened how) new
    (ap (λ (o : Option ℕ). put d.opens fd (option_map (λ m. record { number = m; mode = Mode.Opened how }) o)) is) backs

-- of a call, by its answer
backs_fits : (d : Disk) (now : ℕ) (c : CallData) (answer : Answer) (w : ℕ) (h : ℕ → Option Mode)
    → Fits d c answer w → Backs d h → Backs (effect d now c answer w) (held_after h c answer)
backs_fits d now (call.CreateExcl name) (told.Created fd n) w h fits backs = one_more d (with_new d now name fd.0 n) h fd.0 n Mode.Created fits.not_open refl backs
backs_fits d now (call.CreateExcl name) (told.Refused why) w h fits backs = backs
backs_fits d now (call.CreateExcl name) answer w h fits backs = absurd fits
backs_fits d now (call.Open name how) (told.Opened fd) w h fits backs = backs_opened d name how fd.0 h (d.names name) refl fits.there fits.not_open backs
backs_fits d now (call.Open name how) (told.Refused NotThere) w h fits backs = backs
backs_fits d now (call.Open name how) (told.Refused Fault) w h fits backs = backs
backs_fits d now (call.Open name how) (told.Refused Memory) w h fits backs = backs
backs_fits d now (call.Open name how) answer w h fits backs = absurd fits
backs_fits d now (call.ReadAt fd at len) (told.Count n) w h fits backs = backs
backs_fits d now (call.ReadAt fd at len) (told.Refused why) w h fits backs = backs
backs_fits d now (call.ReadAt fd at len) answer w h fits backs = absurd fits
backs_fits d now (call.WriteAt fd at bytes) told.Done w h fits backs = same_changed d (d.opens fd.0) _ h backs
backs_fits d now (call.WriteAt fd at bytes) (told.Refused Fault) w h fits backs = same_changed d (d.opens fd.0) _ h backs
backs_fits d now (call.WriteAt fd at bytes) (told.Refused Memory) w h fits backs = backs
backs_fits d now (call.WriteAt fd at bytes) answer w h fits backs = absurd fits
backs_fits d now (call.Append fd bytes) told.Done w h fits backs = same_changed d (d.opens fd.0) _ h backs
backs_fits d now (call.Append fd bytes) (told.Refused Fault) w h fits backs = same_changed d (d.opens fd.0) _ h backs
backs_fits d now (call.Append fd bytes) (told.Refused Memory) w h fits backs = backs
backs_fits d now (call.Append fd bytes) answer w h fits backs = absurd fits
backs_fits d now (call.Truncate fd len) told.Done w h fits backs = same_changed d (d.opens fd.0) _ h backs
backs_fits d now (call.Truncate fd len) (told.Refused why) w h fits backs = backs
backs_fits d now (call.Truncate fd len) answer w h fits backs = absurd fits
backs_fits d now (call.Sync fd) told.Done w h fits backs = same_changed d (d.opens fd.0) _ h backs
backs_fits d now (call.Sync fd) (told.Refused why) w h fits backs = backs
backs_fits d now (call.Sync fd) answer w h fits backs = absurd fits
backs_fits d now (call.Close fd) told.Done w h fits backs = one_less d (without_open d fd.0) h fd.0 refl backs
backs_fits d now (call.Close fd) answer w h fits backs = absurd fits
backs_fits d now (call.Link old new) told.Done w h fits backs = backs
backs_fits d now (call.Link old new) (told.Refused why) w h fits backs = backs
backs_fits d now (call.Link old new) answer w h fits backs = absurd fits
backs_fits d now (call.Unlink name) told.Done w h fits backs = backs
backs_fits d now (call.Unlink name) (told.Refused why) w h fits backs = backs
backs_fits d now (call.Unlink name) answer w h fits backs = absurd fits
backs_fits d now (call.Stat name) (told.Stat stat) w h fits backs = backs
backs_fits d now (call.Stat name) (told.Refused why) w h fits backs = backs
backs_fits d now (call.Stat name) answer w h fits backs = absurd fits
backs_fits d now (call.NextName dir last) (told.Name name) w h fits backs = backs
backs_fits d now (call.NextName dir last) told.NoName w h fits backs = backs
backs_fits d now (call.NextName dir last) (told.Refused why) w h fits backs = backs
backs_fits d now (call.NextName dir last) answer w h fits backs = absurd fits

pub backs_call : (d e : Disk) (now : ℕ) (c : CallData) (answer : Answer) (h : ℕ → Option Mode) → Apply d now c answer e → Backs d h → Backs e (held_after h c answer)
backs_call d e now c answer h (w, fits, is) backs = subst (λ x. Backs x (held_after h c answer)) (sym is) (backs_fits d now c answer w h fits backs)

-- of any event
pub backs_event : (d e : Disk) (read : ℕ) (due : NeedData) (came : GotData) (h : ℕ → Option Mode) → Makes d read due came e → Backs d h → Backs e (held_by h due came)
backs_event d e read (needs.File c) (got.Answered told) h made backs = backs_call d e read c told.answer h made.0 backs
backs_event d e read (needs.File c) (got.Took bytes) h same backs = subst (λ x. Backs x h) (sym same) backs
backs_event d e read (needs.File c) got.End h same backs = subst (λ x. Backs x h) (sym same) backs
backs_event d e read (needs.File c) (got.Ended status) h same backs = subst (λ x. Backs x h) (sym same) backs
backs_event d e read (needs.File c) got.Crashed h same backs = subst (λ x. Backs x h) (sym same) backs
backs_event d e read (needs.File c) got.Gave h same backs = subst (λ x. Backs x h) (sym same) backs
backs_event d e read (needs.File c) (got.Started pid) h same backs = subst (λ x. Backs x h) (sym same) backs
backs_event d e read (needs.File c) got.Failed h same backs = subst (λ x. Backs x h) (sym same) backs
backs_event d e read (needs.File c) got.Memory h same backs = subst (λ x. Backs x h) (sym same) backs
backs_event d e read (needs.Take port) came h same backs = subst (λ x. Backs x h) (sym same) backs
backs_event d e read (needs.Give port bytes) came h same backs = subst (λ x. Backs x h) (sym same) backs
backs_event d e read (needs.Start child) came h same backs = subst (λ x. Backs x h) (sym same) backs
backs_event d e read (needs.Command bytes) came h same backs = subst (λ x. Backs x h) (sym same) backs
backs_event d e read needs.Wait came h same backs = subst (λ x. Backs x h) (sym same) backs
backs_event d e read (needs.Ended status) came h same backs = subst (λ x. Backs x h) (sym same) backs

-- of a whole past
pub backs_past : (first last : Disk) (past : List Own) → LeadsTo first past last → Backs last (held past)
backs_past first last [] led = λ fd mode is. absurd (cc)
backs_past first last (event ∷ before) (mid, led, made) = backs_event mid last event.read event.due event.came (held before) made (backs_past first mid before led)

-- so a call that uses only what is held may be made

module _ (d : Disk) (h : ℕ → Option Mode) (backs : Backs d h) where
  is_open : (fd : ℕ) → IsSome (h fd) → IsSome (d.opens fd)
  is_open fd some = by (h fd) refl some where
    by : (o : Option Mode) → h fd ≡ o → IsSome o → IsSome (d.opens fd)
    by None is none = let no = none in absurd (cc)
    by (Some mode) is some = let b = backs fd mode is in subst IsSome (sym b.1) refl

  opened_for : (fd : ℕ) (P : Mode → Type 0) → IsSomeAnd (h fd) P → (o : Open) × (d.opens fd ≡ Some o) × P o.mode
  opened_for fd P some = by (h fd) refl some where
    by : (o : Option Mode) → h fd ≡ o → IsSomeAnd o P → (o : Open) × (d.opens fd ≡ Some o) × P o.mode
    by None is none = absurd none
    by (Some mode) is p = let b = backs fd mode is in (record { number = b.0; mode = mode }, b.1, p)

  pub may_call : (c : CallData) → Uses h c → MayCall d c
  may_call (call.CreateExcl name) uses = tt
  may_call (call.Open name how) uses = tt
  may_call (call.ReadAt fd at len) uses = is_open fd.0 uses.0
  may_call (call.WriteAt fd at bytes) uses = opened_for fd.0 _ uses
  may_call (call.Append fd bytes) uses = opened_for fd.0 _ uses
  may_call (call.Truncate fd len) uses = opened_for fd.0 _ uses
  may_call (call.Sync fd) uses = is_open fd.0 uses
  may_call (call.Close fd) uses = is_open fd.0 uses
  may_call (call.Link old new) uses = tt
  may_call (call.Unlink name) uses = tt
  may_call (call.Stat name) uses = tt
  may_call (call.NextName dir last) uses = tt

pub has_room : (h : ℕ → Option Mode) (c : CallData) → Uses h c → HasRoomFor 8192 c
has_room h (call.CreateExcl name) uses = tt
has_room h (call.Open name how) uses = tt
has_room h (call.ReadAt fd at len) uses = uses.1
has_room h (call.WriteAt fd at bytes) uses = tt
has_room h (call.Append fd bytes) uses = tt
has_room h (call.Truncate fd len) uses = tt
has_room h (call.Sync fd) uses = tt
has_room h (call.Close fd) uses = tt
has_room h (call.Link old new) uses = tt
has_room h (call.Unlink name) uses = tt
has_room h (call.Stat name) uses = tt
has_room h (call.NextName dir last) uses = tt
