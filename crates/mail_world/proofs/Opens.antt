-- What a call opens or closes, and that what a past holds stays open, and its own.
use Rattle.std.proofs.Common.{◌≡◌, ◌≢◌, ◌⊎◌, inl, inr, ℕ, List, [], ◌∷◌, ◌++◌, Option, Some, None, IsSome, refl, sym, ap, ◌∙◌, subst, ⊎_elim}
use Rattle.std.specs.Prelude.{option_map}
use Rattle.call_fs.specs.declared.calls.Fd.{Fd}
use Rattle.call_fs.specs.declared.calls.How.{How}
use Rattle.call_fs.specs.declared.calls.FsError.TheVariants.{NotThere, Exists, Fault, Memory}
use Rattle.call_fs.specs.declared.calls.CallData.{CallData}
use Rattle.call_fs.specs.declared.calls.CallData.TheVariants as call
use Rattle.call_fs.specs.declared.calls.Answer.{Answer}
use Rattle.call_fs.specs.declared.calls.Answer.TheVariants as told
use Rattle.call_fs.specs.Disk.{Disk, File, Open}
use Rattle.call_fs.specs.declared.modes.Mode.{Mode}
use Rattle.call_fs.specs.Maps.{put}
use Rattle.call_fs.specs.Apply.{effect, changed, with_open, Fits}
use Rattle.call_fs.specs.Past.{held_after, Uses, Backs}
use Rattle.call_fs.proofs.Maps.{put_cases, put_other}
use Rattle.mail_world.specs.History.{held_by}
use Rattle.mail_world.specs.Inside.{IsOwn, Owns}
use Rattle.mail_world.specs.Acting.{open_after, without}

-- the open descriptors and their holders stay
pub record OpensNone (d e : Disk) (h g : ℕ → Option (List ℕ)) (c : CallData) (answer : Answer) : Type 0 where
  pub opens : e.opens ≡ d.opens
  pub holder : g ≡ h
  pub held : (m : ℕ → Option Mode) → held_after m c answer ≡ m
  pub list : (fds : List Fd) → open_after fds c answer ≡ fds

-- a descriptor that wasn't open is, in that actor's hands
pub record OpensOne (d e : Disk) (h g : ℕ → Option (List ℕ)) (a : List ℕ) (c : CallData) (answer : Answer) : Type 0 where
  pub fd : Fd
  pub file : Open
  pub new : d.opens fd.0 ≡ None
  pub opens : e.opens ≡ put d.opens fd.0 (Some file)
  pub holder : g ≡ put h fd.0 (Some a)
  pub held : (m : ℕ → Option Mode) → held_after m c answer ≡ put m fd.0 (Some file.mode)
  pub list : (fds : List Fd) → open_after fds c answer ≡ fds ++ fd ∷ []

-- a descriptor isn't open any more
pub record ClosesOne (d e : Disk) (h g : ℕ → Option (List ℕ)) (c : CallData) (answer : Answer) : Type 0 where
  pub fd : Fd
  pub is : c ≡ call.Close fd
  pub opens : e.opens ≡ put d.opens fd.0 None
  pub holder : g ≡ put h fd.0 None
  pub held : (m : ℕ → Option Mode) → held_after m c answer ≡ put m fd.0 None
  pub list : (fds : List Fd) → open_after fds c answer ≡ without fd.0 fds

abbrev pub Opens : Disk → Disk → (ℕ → Option (List ℕ)) → (ℕ → Option (List ℕ)) → List ℕ → CallData → Answer → Type 0
Opens d e h g a c answer = OpensNone d e h g c answer ⊎ (OpensOne d e h g a c answer ⊎ ClosesOne d e h g c answer)

changed_opens : (d : Disk) (o : Option Open) (f : File → File) → (changed d o f).opens ≡ d.opens
changed_opens d None f = refl
changed_opens d (Some o) f = refl

opened_by : (d : Disk) (name : List ℕ) (how : How) (fd : Fd) (h : ℕ → Option (List ℕ)) (a : List ℕ) (number : Option ℕ) → d.names name ≡ number → IsSome number → d.opens fd.0 ≡ None
    → Opens d (with_open d name how fd.0) h (put h fd.0 (Some a)) a (call.Open name how) (told.Opened fd)
opened_by d name how fd h a None is some new = let none = some in absurd (cc)
opened_by d name how fd h a (Some n) is some new = inr (inl (record {
  fd = fd;
  file = record { number = n; mode = Mode.Opened how };
  new = new;
  opens = ap (λ (o : Option ℕ). put d.opens fd.0 (option_map (λ m. record { number = m; mode = Mode.Opened how }) o)) is;
  holder = refl;
  held = λ m. refl;
  list = λ fds. refl;
}))

pub opens_by : (d : Disk) (now : ℕ) (c : CallData) (answer : Answer) (w : ℕ) (h : ℕ → Option (List ℕ)) (a : List ℕ)
    → Fits d c answer w → Opens d (effect d now c answer w) h (held_by h a c answer) a c answer
opens_by d now (call.CreateExcl name) (told.Created fd n) w h a fits = inr (inl (record { fd = fd; file = record { number = n; mode = Mode.Created }; new = fits.not_open; opens = refl; holder = refl; held = λ m. refl; list = λ fds. refl }))
opens_by d now (call.CreateExcl name) (told.Refused why) w h a fits = inl (record { opens = refl; holder = refl; held = λ m. refl; list = λ fds. refl })
opens_by d now (call.CreateExcl name) answer w h a fits = absurd fits
opens_by d now (call.Open name how) (told.Opened fd) w h a fits = opened_by d name how fd h a (d.names name) refl fits.there fits.not_open
opens_by d now (call.Open name how) (told.Refused why) w h a fits = inl (record { opens = refl; holder = refl; held = λ m. refl; list = λ fds. refl })
opens_by d now (call.Open name how) answer w h a fits = absurd fits
opens_by d now (call.ReadAt fd at len) (told.Count n) w h a fits = inl (record { opens = refl; holder = refl; held = λ m. refl; list = λ fds. refl })
opens_by d now (call.ReadAt fd at len) (told.Refused why) w h a fits = inl (record { opens = refl; holder = refl; held = λ m. refl; list = λ fds. refl })
opens_by d now (call.ReadAt fd at len) answer w h a fits = absurd fits
opens_by d now (call.WriteAt fd at bytes) told.Done w h a fits = inl (record { opens = changed_opens d (d.opens fd.0) _; holder = refl; held = λ m. refl; list = λ fds. refl })
opens_by d now (call.WriteAt fd at bytes) (told.Refused NotThere) w h a fits = absurd fits
opens_by d now (call.WriteAt fd at bytes) (told.Refused Exists) w h a fits = absurd fits
opens_by d now (call.WriteAt fd at bytes) (told.Refused Fault) w h a fits = inl (record { opens = changed_opens d (d.opens fd.0) _; holder = refl; held = λ m. refl; list = λ fds. refl })
opens_by d now (call.WriteAt fd at bytes) (told.Refused Memory) w h a fits = inl (record { opens = refl; holder = refl; held = λ m. refl; list = λ fds. refl })
opens_by d now (call.WriteAt fd at bytes) answer w h a fits = absurd fits
opens_by d now (call.Append fd bytes) told.Done w h a fits = inl (record { opens = changed_opens d (d.opens fd.0) _; holder = refl; held = λ m. refl; list = λ fds. refl })
opens_by d now (call.Append fd bytes) (told.Refused NotThere) w h a fits = absurd fits
opens_by d now (call.Append fd bytes) (told.Refused Exists) w h a fits = absurd fits
opens_by d now (call.Append fd bytes) (told.Refused Fault) w h a fits = inl (record { opens = changed_opens d (d.opens fd.0) _; holder = refl; held = λ m. refl; list = λ fds. refl })
opens_by d now (call.Append fd bytes) (told.Refused Memory) w h a fits = inl (record { opens = refl; holder = refl; held = λ m. refl; list = λ fds. refl })
opens_by d now (call.Append fd bytes) answer w h a fits = absurd fits
opens_by d now (call.Truncate fd len) told.Done w h a fits = inl (record { opens = changed_opens d (d.opens fd.0) _; holder = refl; held = λ m. refl; list = λ fds. refl })
opens_by d now (call.Truncate fd len) (told.Refused why) w h a fits = inl (record { opens = refl; holder = refl; held = λ m. refl; list = λ fds. refl })
opens_by d now (call.Truncate fd len) answer w h a fits = absurd fits
opens_by d now (call.Sync fd) told.Done w h a fits = inl (record { opens = changed_opens d (d.opens fd.0) _; holder = refl; held = λ m. refl; list = λ fds. refl })
opens_by d now (call.Sync fd) (told.Refused why) w h a fits = inl (record { opens = refl; holder = refl; held = λ m. refl; list = λ fds. refl })
opens_by d now (call.Sync fd) answer w h a fits = absurd fits
opens_by d now (call.Close fd) told.Done w h a fits = inr (inr (record { fd = fd; is = refl; opens = refl; holder = refl; held = λ m. refl; list = λ fds. refl }))
opens_by d now (call.Close fd) answer w h a fits = absurd fits
opens_by d now (call.Link old new) told.Done w h a fits = inl (record { opens = refl; holder = refl; held = λ m. refl; list = λ fds. refl })
opens_by d now (call.Link old new) (told.Refused why) w h a fits = inl (record { opens = refl; holder = refl; held = λ m. refl; list = λ fds. refl })
opens_by d now (call.Link old new) answer w h a fits = absurd fits
opens_by d now (call.Unlink name) told.Done w h a fits = inl (record { opens = refl; holder = refl; held = λ m. refl; list = λ fds. refl })
opens_by d now (call.Unlink name) (told.Refused why) w h a fits = inl (record { opens = refl; holder = refl; held = λ m. refl; list = λ fds. refl })
opens_by d now (call.Unlink name) answer w h a fits = absurd fits
opens_by d now (call.Stat name) (told.Stat stat) w h a fits = inl (record { opens = refl; holder = refl; held = λ m. refl; list = λ fds. refl })
opens_by d now (call.Stat name) (told.Refused why) w h a fits = inl (record { opens = refl; holder = refl; held = λ m. refl; list = λ fds. refl })
opens_by d now (call.Stat name) answer w h a fits = absurd fits
opens_by d now (call.NextName dir last) (told.Name name) w h a fits = inl (record { opens = refl; holder = refl; held = λ m. refl; list = λ fds. refl })
opens_by d now (call.NextName dir last) told.NoName w h a fits = inl (record { opens = refl; holder = refl; held = λ m. refl; list = λ fds. refl })
opens_by d now (call.NextName dir last) (told.Refused why) w h a fits = inl (record { opens = refl; holder = refl; held = λ m. refl; list = λ fds. refl })
opens_by d now (call.NextName dir last) answer w h a fits = absurd fits

-- Whose they are

-- what is held may be used
pub owns_backs : (d : Disk) (h : ℕ → Option (List ℕ)) (a : List ℕ) (m : ℕ → Option Mode) → Owns d h a m → Backs d m
owns_backs d h a m owns fd mode is = let own = owns fd mode is in (own.number, own.is)

-- a close is of a descriptor of its own
abbrev pub ClosesOwn : (ℕ → Option (List ℕ)) → List ℕ → CallData → Type 0
ClosesOwn h a c = (fd : Fd) → c ≡ call.Close fd → h fd.0 ≡ Some a

pub closes_own : (d : Disk) (h : ℕ → Option (List ℕ)) (a : List ℕ) (m : ℕ → Option Mode) (c : CallData) → Owns d h a m → Uses m c → ClosesOwn h a c
closes_own d h a m c owns uses fd is = by (m fd.0) refl (subst (Uses m) is uses) where
  by : (o : Option Mode) → m fd.0 ≡ o → IsSome (m fd.0) → h fd.0 ≡ Some a
  by None none some = let no = subst IsSome none some in absurd (cc)
  by (Some mode) is some = (owns fd.0 mode is).held

-- a descriptor whose holder and file stay is whose it was
own_by : (d e : Disk) (h g : ℕ → Option (List ℕ)) (b : List ℕ) (fd : ℕ) (mode : Mode) → g fd ≡ h fd → e.opens fd ≡ d.opens fd → IsOwn d h b fd mode → IsOwn e g b fd mode
own_by d e h g b fd mode holder opens own = record { held = holder ∙ own.held; number = own.number; is = opens ∙ own.is }

-- what is put at another place changes nothing here
off_put : {V : Type 0} (m n : ℕ → V) (k : ℕ) (v : V) (q : ℕ) → n ≡ put m k v → q ≢ k → n q ≡ m q
off_put {V} m n k v q is apart = ap (λ (f : ℕ → V). f q) is ∙ put_other m k v q apart

-- what another actor has stays its own
pub own_stays : (d e : Disk) (h g : ℕ → Option (List ℕ)) (a b : List ℕ) (c : CallData) (answer : Answer) (fd : ℕ) (mode : Mode) → Opens d e h g a c answer
    → ClosesOwn h a c → b ≢ a → IsOwn d h b fd mode → IsOwn e g b fd mode
own_stays d e h g a b c answer fd mode (inl s) closes apart own =
    own_by d e h g b fd mode (ap (λ (m : ℕ → Option (List ℕ)). m fd) s.holder) (ap (λ (m : ℕ → Option Open). m fd) s.opens) own
own_stays d e h g a b c answer fd mode (inr (inl s)) closes apart own =
    let new = s.new in
    let is = own.is in
    let off : fd ≢ s.fd.0 = λ same. let both = sym new ∙ ap d.opens (sym same) ∙ is in absurd (cc) in
    own_by d e h g b fd mode (off_put h g s.fd.0 (Some a) fd s.holder off) (off_put d.opens e.opens s.fd.0 (Some s.file) fd s.opens off) own
own_stays d e h g a b c answer fd mode (inr (inr s)) closes apart own =
    let off : fd ≢ s.fd.0 = λ same. let both : ◌≡◌ {A = Option (List ℕ)} (Some b) (Some a) = sym own.held ∙ ap h same ∙ closes s.fd s.is in apart (cc) in
    own_by d e h g b fd mode (off_put h g s.fd.0 None fd s.holder off) (off_put d.opens e.opens s.fd.0 None fd s.opens off) own

-- and what an actor holds after its call is its own
pub owns_after : (d e : Disk) (h g : ℕ → Option (List ℕ)) (a : List ℕ) (c : CallData) (answer : Answer) (m : ℕ → Option Mode) → Opens d e h g a c answer
    → Owns d h a m → Owns e g a (held_after m c answer)
owns_after d e h g a c answer m (inl s) owns fd mode is =
    own_by d e h g a fd mode (ap (λ (m : ℕ → Option (List ℕ)). m fd) s.holder) (ap (λ (m : ℕ → Option Open). m fd) s.opens)
    (owns fd mode (ap (λ (m : ℕ → Option Mode). m fd) (sym (s.held m)) ∙ is))
owns_after d e h g a c answer m (inr (inl s)) owns fd mode is =
    let now = ap (λ (m : ℕ → Option Mode). m fd) (sym (s.held m)) ∙ is in ⊎_elim
    (λ at.
    let modes : ◌≡◌ {A = Option Mode} (Some s.file.mode) (Some mode) = sym at.1 ∙ now in
    let same : s.file.mode ≡ mode = cc in
    record {
      held = ap (λ (m : ℕ → Option (List ℕ)). m fd) s.holder ∙ here h s.fd.0 (Some a) fd at.0;
      number = s.file.number;
      is = ap (λ (m : ℕ → Option Open). m fd) s.opens ∙ here d.opens s.fd.0 (Some s.file) fd at.0 ∙ ap (λ (mode : Mode). Some (record { number = s.file.number; mode = mode })) same;
    })
    (λ off.
    own_by d e h g a fd mode (off_put h g s.fd.0 (Some a) fd s.holder off.0) (off_put d.opens e.opens s.fd.0 (Some s.file) fd s.opens off.0)
    (owns fd mode (sym off.1 ∙ now)))
    (put_cases m s.fd.0 (Some s.file.mode) fd) where
      here : {V : Type 0} (m : ℕ → V) (k : ℕ) (v : V) (q : ℕ) → q ≡ k → put m k v q ≡ v
      here {V} m k v q at = ⊎_elim (λ f. f.1) (λ f. absurd (f.0 at)) (put_cases m k v q)
owns_after d e h g a c answer m (inr (inr s)) owns fd mode is =
    let now = ap (λ (m : ℕ → Option Mode). m fd) (sym (s.held m)) ∙ is in ⊎_elim
    (λ at. let none : ◌≡◌ {A = Option Mode} None (Some mode) = sym at.1 ∙ now in absurd (cc))
    (λ off.
    own_by d e h g a fd mode (off_put h g s.fd.0 None fd s.holder off.0) (off_put d.opens e.opens s.fd.0 None fd s.opens off.0)
    (owns fd mode (sym off.1 ∙ now)))
    (put_cases m s.fd.0 None fd)
