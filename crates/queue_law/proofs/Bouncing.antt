-- What a sender does to the bounce file of a message: a create, an append, a sync, an unlink.
use Rattle.std.proofs.Common.{◌≡◌, ◌≢◌, inr, ℕ, List, [], ◌++◌, Option, Some, None, refl, sym, ap, ◌∙◌, subst, ⊎_elim, codes}
use Rattle.address_rules.specs.declared.controls.Controls.{Controls}
use Rattle.address_rules.specs.Nuls.{HaveNoNul}
use Rattle.call_fs.specs.declared.calls.Answer.{Answer}
use Rattle.call_fs.specs.declared.calls.Answer.TheVariants as answer
use Rattle.call_fs.specs.declared.calls.Fd.{Fd}
use Rattle.call_fs.specs.declared.calls.FsError.{FsError}
use Rattle.call_fs.specs.declared.calls.FsError.TheVariants.{Fault, Memory}
use Rattle.call_fs.specs.Maps.{put}
use Rattle.call_fs.specs.Apply.{IsNew, changed, grown, grown_part, synced}
use Rattle.call_fs.specs.Disk.{File, Among, Open}
use Rattle.call_fs.proofs.Maps.{put_same, put_other}
use Rattle.queue_paths.specs.Names.{Part, path}
use Rattle.queue_paths.specs.Names.Name.{Of}
use Rattle.queue_paths.specs.Names.Part.{Mess, Intd, Todo, Info, Local, Remote, Bounce}
use Rattle.queue_paths.proofs.Parts.{intd_far, todo_far, intd_same, todo_same}
use Rattle.send_known.specs.declared.channel.Channel.{Channel}
use Rattle.send_known.specs.declared.channel.Channel.TheVariants as channel
use Rattle.queue_law.specs.Books.{Injection, with_line, entered_in, spot_in}
use Rattle.queue_law.specs.Bouncing.{BounceBegins, BounceGrows, BouncesBegin, BouncesCover, BouncesDrop, BouncesGo, BouncesGrow, ClosesEnter, HoldsBounce, IsBegunAs, MayNote, MayUnlink, NoteLeads, NotesSync}
use Rattle.queue_law.specs.Ledgers.{Bounced, IsUnreturned, Line, Named, line_in}
use Rattle.queue_law.specs.Ledgers.Line.{Drops, Notes}
use Rattle.queue_law.specs.Marks.{HasItsSpots}
use Rattle.queue_law.specs.Notes.{HasNotes, NotesState, with_noted}
use Rattle.queue_law.specs.Notes.NotesDone.{Dropped, Injected, Nothing}
use Rattle.queue_law.specs.Notes.NotesState.{Gone, There}
use Rattle.queue_law.specs.Numbers.{Queue, Entry, look, Suits, About, about, file_in, LaneState, IsPreprocessed, Phase, Sound}
use Rattle.queue_law.specs.Numbers.LaneState.{LaneThere, LaneGone}
use Rattle.queue_law.specs.Numbers.Phase.{Free, Queued, Sorted, Finished}
use Rattle.queue_law.specs.Numbers.Role.{AsPart}
use Rattle.queue_law.specs.Rests.{IsClosed}
use Rattle.queue_law.specs.Routes.{lane_part, sender_of}
use Rattle.queue_law.specs.Senders.{HasLane, LeadsOn}
use Rattle.queue_law.specs.Steps.{Elsewhere}
use Rattle.queue_law.proofs.Closed.{bytes_elsewhere, bytes_old, bytes_outside, bytes_suit, gone, leads_on, new_elsewhere, new_other, part_elsewhere, part_gone, part_other, part_outside, part_suits, taken_same, with_fds, fds_elsewhere}
use Rattle.queue_law.proofs.Deeds.{made, made_old, made_outside, made_same, made_suits, written}
use Rattle.queue_law.proofs.Frame.{outside_same}
use Rattle.queue_law.proofs.Looks.{find_far, find_near, find_none, found}
use Rattle.queue_law.proofs.Lines.{more_marked}
use Rattle.queue_law.proofs.Marks.{lane_grown, marked_grown}
use Rattle.queue_law.proofs.Notes.{notes_account, notes_stay}
use Rattle.queue_law.proofs.Sends.{entered_living, entered_phase, lined, lined_leads, sorted_of_lane}
use Rattle.queue_law.proofs.Tests.{off}

-- a number that has a bounce file is preprocessed
sorted_of_bounce : (w : About) (y : Entry) → w.parts Bounce ≡ Some y → Phase w → IsPreprocessed w
sorted_of_bounce w y there (Free h) = let none = h.unsorted Bounce refl in absurd (cc)
sorted_of_bounce w y there (Queued h) = let none = h.no_bounce in absurd (cc)
sorted_of_bounce w y there (Sorted h) = h
sorted_of_bounce w y there (Finished h) = let none = h.unsorted Bounce refl in absurd (cc)

-- and closed to injectors
closed_of : (now : ℕ) (q : Queue) (n : ℕ) → IsPreprocessed (about q n) → IsClosed now q n
closed_of now q n h = record {
  mess = h.taken.mess;
  there = h.taken.mess_there;
  shut = inr (record { injection = h.taken.injection; lives = h.taken.lives; accepted = h.taken.accepted });
}

-- a file that was made as the bounce file of a number has no other name
bounce_only : (q : Queue) → Sound q → (n j : ℕ) → q.role j ≡ AsPart Bounce n → (P : Part) → P ≢ Bounce → (z : Entry) → look q (Of P n) ≡ Some z → z.number ≢ j
bounce_only q G n j made P far z there same = by P (G.suits (Of P n) z there).0 far
  where
    role : q.role z.number ≡ AsPart Bounce n
    role = ap q.role same ∙ made

    by : (P : Part) → Suits (Of P n) z.number (q.role z.number) → P ≢ Bounce → ⊥
    by Mess h far = let w = h.1.2 in let v = role in absurd (cc)
    by Intd h far = let w : AsPart Todo n ≡ AsPart Bounce n = sym h ∙ role in cc
    by Todo h far = let w : AsPart Todo n ≡ AsPart Bounce n = sym h ∙ role in cc
    by Info h far = let w : AsPart Info n ≡ AsPart Bounce n = sym h ∙ role in cc
    by Local h far = let w : AsPart Local n ≡ AsPart Bounce n = sym h ∙ role in cc
    by Remote h far = let w : AsPart Remote n ≡ AsPart Bounce n = sym h ∙ role in cc
    by Bounce h far = far refl
    by other h far = absurd h

lane_apart : (ch : Channel) → lane_part ch ≢ Bounce
lane_apart channel.Local s = cc
lane_apart channel.Remote s = cc

-- A number stays preprocessed of which the bounce file alone changed, with this line more in its ledger or none

lane_same : (w v : About) (i : Injection) (ch : Channel) → v.parts (lane_part ch) ≡ w.parts (lane_part ch) → LaneState w i ch → LaneState v i ch
lane_same w v i ch same (LaneThere y there marked) = LaneThere y (same ∙ there) marked
lane_same w v i ch same (LaneGone none all) = LaneGone (same ∙ none) all

lane_line : (w v : About) (i : Injection) (line : Line) → (line_in line i.ledger).routes ≡ i.ledger.routes → (ch : Channel) → v.parts (lane_part ch) ≡ w.parts (lane_part ch) → LaneState w i ch
    → LaneState v (with_line line i) ch
lane_line w v i line routed ch same (LaneThere y there marked) = LaneThere y (same ∙ there) (marked_grown i line routed ch y.file marked)
lane_line w v i line routed ch same (LaneGone none all) = LaneGone (same ∙ none) (lane_grown i line routed ch all)

rebounced : (w v : About) → ((P : Part) → P ≢ Bounce → v.parts P ≡ w.parts P) → v.living ≡ w.living → (h : IsPreprocessed w)
    → NotesState h.taken.injection (file_in (v.parts Bounce)) → IsPreprocessed v
rebounced w v same living h notes = record {
  taken = taken_same w v living (same Mess (λ s. cc)) h.taken;
  no_todo = todo_same w.parts v.parts (λ part is. same part (todo_far part Bounce is refl)) ∙ h.no_todo;
  no_intd = intd_same w.parts v.parts (λ part is. same part (intd_far part Bounce is refl)) ∙ h.no_intd;
  no_nul = h.no_nul;
  info = h.info;
  info_there = same Info (λ s. cc) ∙ h.info_there;
  text = h.text;
  lanes = λ ch. lane_same w v h.taken.injection ch (same (lane_part ch) (lane_apart ch)) (h.lanes ch);
  notes = notes;
  unsettled = λ ch there. h.unsettled ch (λ none. there (same (lane_part ch) (lane_apart ch) ∙ none));
}

-- so it is with a line more, if that leaves the message's spots and what was returned
rebounced_with : (w v : About) (line : Line) → ((P : Part) → P ≢ Bounce → v.parts P ≡ w.parts P) → (h : IsPreprocessed w)
    → v.living ≡ Some (with_line line h.taken.injection) → (line_in line h.taken.injection.ledger).routes ≡ h.taken.injection.ledger.routes
    → HasItsSpots (with_line line h.taken.injection)
    → ((ch : Channel) → w.parts (lane_part ch) ≢ None → IsUnreturned (with_line line h.taken.injection).ledger)
    → NotesState (with_line line h.taken.injection) (file_in (v.parts Bounce)) → IsPreprocessed v
rebounced_with w v line same h lives routed spots unreturned notes = record {
  taken = record {
    injection = with_line line h.taken.injection;
    lives = lives;
    accepted = h.taken.accepted;
    mess = h.taken.mess;
    mess_there = same Mess (λ s. cc) ∙ h.taken.mess_there;
    message = h.taken.message;
    valid = h.taken.valid;
    spots = spots;
  };
  no_todo = todo_same w.parts v.parts (λ part is. same part (todo_far part Bounce is refl)) ∙ h.no_todo;
  no_intd = intd_same w.parts v.parts (λ part is. same part (intd_far part Bounce is refl)) ∙ h.no_intd;
  no_nul = subst HaveNoNul (sym routed) h.no_nul;
  info = h.info;
  info_there = same Info (λ s. cc) ∙ h.info_there;
  text = h.text;
  lanes = λ ch. lane_line w v h.taken.injection line routed ch (same (lane_part ch) (lane_apart ch)) (h.lanes ch);
  notes = notes;
  unsettled = λ ch there. unreturned ch (λ none. there (same (lane_part ch) (lane_apart ch) ∙ none));
}

-- Notes are of the file that the name leads to

notes_there : (i : Injection) (o : Option Entry) (y : Entry) → o ≡ Some y → NotesState i (file_in o) → HasNotes i y.file
notes_there i o y there h = by (subst (λ (e : Option Entry). NotesState i (file_in e)) there h)
  where
    by : NotesState i (Some y.file) → HasNotes i y.file
    by (There f is has) = let same : y.file ≡ f = cc in subst (HasNotes i) (sym same) has
    by (Gone is settled) = let w : ◌≡◌ {A = Option File} (Some y.file) None = is in absurd (cc)

notes_none : (i : Injection) (o : Option Entry) → o ≡ None → IsUnreturned i.ledger → NotesState i (file_in o) → i.ledger.noted ≡ []
notes_none i o none u h = by (subst (λ (e : Option Entry). NotesState i (file_in e)) none h)
  where
    by : NotesState i None → i.ledger.noted ≡ []
    by (There f is has) = let w : ◌≡◌ {A = Option File} None (Some f) = is in absurd (cc)
    by (Gone is (Injected x among covers)) = absurd (subst (λ (xs : List Bounced). Among x xs) u.none among)
    by (Gone is (Dropped dropped from)) = absurd (off (sym u.kept ∙ dropped))
    by (Gone is (Nothing unnoted)) = unnoted

module _ (now : ℕ) (q : Queue) (a : List ℕ) (G : Sound q) (n : ℕ) (h : IsPreprocessed (about q n)) where
  abbrev shut : IsClosed now q n
  shut = closed_of now q n h

  -- nothing changed
  pub stays_closed : LeadsOn now a (Some n) q (record { disk = q.disk; holder = q.holder; books = q.books; role = q.role })
  stays_closed =
      let r = with_fds q q.disk.opens q.holder in
      leads_on now a q r G n (fds_elsewhere now a q G.suits n shut q.disk.opens q.holder (λ _ _ _ _ k. k)) G.suits (Sorted h) G.over (outside_same q.disk q.disk.opens)
      (record { files = λ _ _ _ _. refl; roles = λ _ _ _. refl })

  -- the file is made
  pub begun_leads : (ch : Channel) → HasLane (about q n) ch → (fd i read : ℕ) → IsNew q.disk (path (Of Bounce n)) fd i
      → LeadsOn now a (Some n) q (made q a (Of Bounce n) fd i read (AsPart Bounce n))
  begun_leads ch lane fd i read new =
      let x = Of Bounce n in
      let role = AsPart Bounce n in
      let r = made q a x fd i read role in
      let other = new_other now a q G.suits n shut Bounce fd i read new in
      let none : look q x ≡ None = find_none q.disk.names q.disk.files x new.free in
      let there = lane.there in
      let some : (about q n).parts (lane_part ch) ≢ None = (λ lost. let w : ◌≡◌ {A = Option Entry} (Some lane.file) None = sym there ∙ lost in absurd (cc)) in
      let unnoted = notes_none h.taken.injection (look q x) none (h.unsettled ch some) h.notes in
      let notes : NotesState h.taken.injection (file_in (look r x)) =
      subst (λ (o : Option Entry). NotesState h.taken.injection (file_in o)) (sym (made_same q x a fd i read role new)) (notes_account.created h.taken.injection read unnoted) in
      leads_on now a q r G n (new_elsewhere now a q G.suits n shut Bounce fd i read new)
      (made_suits now q G.suits x a fd i read role new (refl, tt))
      (Sorted (rebounced (about q n) (about r n) other refl h notes))
      G.over (made_outside q x fd i read new) (made_old q a x fd i read role new)

  -- the file is written
  module _ (y : Entry) (there : look q (Of Bounce n) ≡ Some y) (f : File) where
    abbrev after : Queue
    after = written q y.number f

    pub mine : q.role y.number ≡ AsPart Bounce n
    mine = (G.suits (Of Bounce n) y there).0

    pub written_other : (P : Part) → P ≢ Bounce → look after (Of P n) ≡ look q (Of P n)
    written_other P far = find_far q.disk.names q.disk.files (Of P n) y.number f (bounce_only q G n y.number mine P far)

    pub written_there : look after (Of Bounce n) ≡ Some (record { number = y.number; file = f })
    written_there = find_near q.disk.names q.disk.files (Of Bounce n) y f there

    pub written_elsewhere : Elsewhere now a (Some n) q after
    written_elsewhere = bytes_elsewhere now a q G.suits n shut Bounce y f there mine

    -- with the notes that it had
    pub notes_leads : HasNotes h.taken.injection f → LeadsOn now a (Some n) q after
    notes_leads has =
        let notes : NotesState h.taken.injection (file_in (look after (Of Bounce n))) =
        subst (λ (o : Option Entry). NotesState h.taken.injection (file_in o)) (sym written_there) (There f refl has) in
        leads_on now a q after G n written_elsewhere (bytes_suit now a q G.suits n shut Bounce y f there mine)
        (Sorted (rebounced (about q n) (about after n) written_other refl h notes))
        G.over (bytes_outside now a q G.suits n shut Bounce y f there mine) (bytes_old now a q G.suits n shut Bounce y f there mine)

    -- with one more, which the ledger tells
    pub noted_leads : (s : Named) → Among s.spot h.taken.injection.ledger.failed → HasNotes (with_noted s h.taken.injection) f
        → LeadsOn now a (Some n) q (lined now q a G n (Notes s) after)
    noted_leads s failed has =
        let i = h.taken.injection in
        let r = lined now q a G n (Notes s) after in
        let notes : NotesState (with_line (Notes s) i) (file_in (look r (Of Bounce n))) =
        subst (λ (o : Option Entry). NotesState (with_line (Notes s) i) (file_in o)) (sym written_there) (There f refl has) in
        let spots : HasItsSpots (with_line (Notes s) i) = record {
          delivered = h.taken.spots.delivered;
          failed = h.taken.spots.failed;
          noted = λ t among. ⊎_elim
              (λ (same : t ≡ s). subst (λ (z : Named). Among z.spot i.ledger.failed) (sym same) failed)
              (λ (old : Among t i.ledger.noted). h.taken.spots.noted t old)
              among;
          marked = λ t among. more_marked i.ledger (with_noted s i).ledger (λ z was. was) (λ z was. inr was) t (h.taken.spots.marked t among);
          bounced = h.taken.spots.bounced;
        } in
        lined_leads now q a G n (Notes s) after written_elsewhere (bytes_suit now a q G.suits n shut Bounce y f there mine)
        (Sorted (rebounced_with (about q n) (about r n) (Notes s) written_other h (entered_living now q a G n (Notes s) i h.taken.lives) refl spots
        (λ ch some. let u = h.unsettled ch some in record { none = u.none; kept = u.kept }) notes))
        (bytes_outside now a q G.suits n shut Bounce y f there mine) (bytes_old now a q G.suits n shut Bounce y f there mine)

  -- the file goes
  pub gone_leads_on : NotesState h.taken.injection None → LeadsOn now a (Some n) q (gone q n Bounce)
  gone_leads_on state =
      let r = gone q n Bounce in
      let notes : NotesState h.taken.injection (file_in (look r (Of Bounce n))) =
      subst (λ (o : Option Entry). NotesState h.taken.injection (file_in o)) (sym (part_gone q n Bounce)) state in
      leads_on now a q r G n (part_elsewhere now a q G.suits n shut Bounce) (part_suits q G.suits n Bounce)
      (Sorted (rebounced (about q n) (about r n) (part_other q n Bounce) refl h notes))
      G.over (part_outside q n Bounce) (record { files = λ _ _ _ _. refl; roles = λ _ _ _. refl })

  -- it is dropped, which the ledger tells
  pub dropped_leads : ((ch : Channel) → (about q n).parts (lane_part ch) ≡ None) → sender_of h.taken.injection.args ≡ codes "#@[]"
      → LeadsOn now a (Some n) q (lined now q a G n Drops (gone q n Bounce))
  dropped_leads bare from =
      let i = h.taken.injection in
      let r = lined now q a G n Drops (gone q n Bounce) in
      let notes : NotesState (with_line Drops i) (file_in (look r (Of Bounce n))) =
      subst (λ (o : Option Entry). NotesState (with_line Drops i) (file_in o)) (sym (part_gone q n Bounce)) (notes_account.dropped i from) in
      let spots : HasItsSpots (with_line Drops i) = record {
        delivered = h.taken.spots.delivered;
        failed = h.taken.spots.failed;
        noted = h.taken.spots.noted;
        marked = h.taken.spots.marked;
        bounced = h.taken.spots.bounced;
      } in
      lined_leads now q a G n Drops (gone q n Bounce) (part_elsewhere now a q G.suits n shut Bounce) (part_suits q G.suits n Bounce)
      (Sorted (rebounced_with (about q n) (about r n) Drops (part_other q n Bounce) h (entered_living now q a G n Drops i h.taken.lives) refl spots
      (λ ch some. absurd (some (bare ch))) notes))
      (part_outside q n Bounce) (record { files = λ _ _ _ _. refl; roles = λ _ _ _. refl })

-- The laws

-- what a create leads to that was refused
unbegun : (now : ℕ) (q : Queue) (a : List ℕ) (read n : ℕ) (why : FsError) (wrote : ℕ) → Sound q → IsPreprocessed (about q n)
    → BounceBegins now q a read n (answer.Refused why) wrote
unbegun now q a read n why wrote G h = record {
  role = q.role;
  leads = stays_closed now q a G n h;
  others = λ part far. refl;
  begins = λ fd i is. absurd (cc);
}

pub bounces_begin : BouncesBegin
bounces_begin now q a read n ch (answer.Created fd i) wrote G lane new =
    let h = sorted_of_lane (about q n) ch (G.fine n) lane in
    let x = Of Bounce n in
    record {
      role = put q.role i (AsPart Bounce n);
      leads = begun_leads now q a G n h ch lane fd.0 i read new;
      others = new_other now a q G.suits n (closed_of now q n h) Bounce fd.0 i read new;
      begins = λ given j is.
          let same_fd : fd ≡ given = cc in
          let same : i ≡ j = cc in
          subst (λ (k : ℕ). IsBegunAs (made q a x fd.0 i read (AsPart Bounce n)) a n read given.0 k) same
          (subst (λ (d : Fd). IsBegunAs (made q a x fd.0 i read (AsPart Bounce n)) a n read d.0 i) same_fd (record {
            there = made_same q x a fd.0 i read (AsPart Bounce n) new;
            opened = record { opened = put_same q.disk.opens fd.0 _; held = put_same q.holder fd.0 (Some a) };
          }));
    }
bounces_begin now q a read n ch (answer.Refused why) wrote G lane fits =
    unbegun now q a read n why wrote G (sorted_of_lane (about q n) ch (G.fine n) lane)
bounces_begin now q a read n ch told wrote G lane fits = absurd fits

module _ (now : ℕ) (q : Queue) (a : List ℕ) (G : Sound q) (n : ℕ) (fd : ℕ) (held : HoldsBounce q a n fd) where
  its : IsPreprocessed (about q n)
  its = sorted_of_bounce (about q n) held.file held.there (G.fine n)

  file_is : held.file.file ≡ q.disk.files held.file.number
  file_is = ap (λ (z : Entry). z.file) (found q.disk.names q.disk.files (Of Bounce n) held.file held.there).1

  has : HasNotes its.taken.injection held.file.file
  has = notes_there its.taken.injection (look q (Of Bounce n)) held.file held.there its.notes

  -- a call that writes changes the file of its descriptor
  behind : (P : Queue → Type 0) (g : File → File) → P (written q held.file.number (g (q.disk.files held.file.number)))
      → P (record { disk = changed q.disk (q.disk.opens fd) g; holder = q.holder; books = q.books; role = q.role })
  behind P g leads = subst (λ (o : Option Open). P (record { disk = changed q.disk o g; holder = q.holder; books = q.books; role = q.role })) (sym held.opened.opened) leads

  -- put at its end
  grows_so : (more : List ℕ) (told : Answer) (g : File → File) → HasNotes its.taken.injection (g held.file.file)
      → (told ≡ answer.Done → (g held.file.file).bytes ≡ held.file.file.bytes ++ more)
      → BounceGrows now q (record { disk = changed q.disk (q.disk.opens fd) g; holder = q.holder; books = q.books; role = q.role }) a n fd held more told
  grows_so more told g keeps reads = behind (λ (r : Queue). BounceGrows now q r a n fd held more told) g (record {
    leads = notes_leads now q a G n its held.file held.there f (subst (λ (z : File). HasNotes its.taken.injection (g z)) file_is keeps);
    others = written_other now q a G n its held.file held.there f;
    opens = λ k how h. h;
    file = f;
    there = written_there now q a G n its held.file held.there f;
    reads = λ is. ap (λ (z : File). (g z).bytes) (sym file_is) ∙ reads is;
  })
    where
      f : File
      f = g (q.disk.files held.file.number)

  same_so : (more : List ℕ) (told : Answer) → (told ≡ answer.Done → ⊥)
      → BounceGrows now q (record { disk = q.disk; holder = q.holder; books = q.books; role = q.role }) a n fd held more told
  same_so more told never = record {
    leads = stays_closed now q a G n its;
    others = λ part far. refl;
    opens = λ k how h. h;
    file = held.file.file;
    there = held.there;
    reads = λ is. absurd (never is);
  }

pub bounces_grow : BouncesGrow
bounces_grow now q a read n fd more answer.Done wrote G held fits =
    grows_so now q a G n fd.0 held more answer.Done (grown read more)
    (notes_stay.grows (its now q a G n fd.0 held).taken.injection more read held.file.file (has now q a G n fd.0 held)) (λ is. refl)
bounces_grow now q a read n fd more (answer.Refused Fault) wrote G held fits =
    grows_so now q a G n fd.0 held more (answer.Refused Fault) (grown_part read more wrote)
    (notes_stay.grows_in_part (its now q a G n fd.0 held).taken.injection more read wrote held.file.file (has now q a G n fd.0 held)) (λ is. absurd (cc))
bounces_grow now q a read n fd more (answer.Refused Memory) wrote G held fits = same_so now q a G n fd.0 held more (answer.Refused Memory) (λ is. cc)
bounces_grow now q a read n fd more told wrote G held fits = absurd fits

-- a sync: the note at its end is that of one recipient more
module _ (by : Controls) (now : ℕ) (q : Queue) (a : List ℕ) (G : Sound q) (n : ℕ) (fd : ℕ) (may : MayNote by q a n fd) where
  abbrev at : Named
  at = record { spot = spot_in may.injection may.recipient; by = by }

  abbrev bouncing : IsPreprocessed (about q n)
  bouncing = its now q a G n fd may.held

  same_injection : may.injection ≡ bouncing.taken.injection
  same_injection = let w = may.lives in let v = bouncing.taken.lives in cc

  synced_leads : LeadsOn now a (Some n) q (lined now q a G n (Notes at) (written q may.held.file.number (synced (q.disk.files may.held.file.number))))
  synced_leads =
      let file = file_is now q a G n fd may.held in
      let one : HasNotes (with_noted at may.injection) (synced may.held.file.file) =
      notes_stay.entered by may.injection may.recipient may.base may.report may.held.file.file may.covers may.reads in
      let here : HasNotes (with_noted at may.injection) (synced (q.disk.files may.held.file.number)) = subst (λ (z : File). HasNotes (with_noted at may.injection) (synced z)) file one in
      let has_one = subst (λ (z : Injection). HasNotes (with_noted at z) (synced (q.disk.files may.held.file.number))) same_injection here in
      let failed = subst (λ (z : Injection). Among at.spot z.ledger.failed) same_injection may.failed in
      noted_leads now q a G n bouncing may.held.file may.held.there (synced (q.disk.files may.held.file.number)) at failed has_one

pub notes_sync : NotesSync
notes_sync by now q a read n fd answer.Done wrote G may fits =
    let books = entered_in q.books n (Notes (at by now q a G n fd.0 may)) in
    let on = λ (o : Option Open). NoteLeads now q (record { disk = changed q.disk o synced; holder = q.holder; books = books; role = q.role }) a n in
    subst on (sym may.held.opened.opened) (record {
      leads = synced_leads by now q a G n fd.0 may;
      others = written_other now q a G n (bouncing by now q a G n fd.0 may) may.held.file may.held.there (synced (q.disk.files may.held.file.number));
      opens = λ k how h. h;
    })
notes_sync by now q a read n fd (answer.Refused Fault) wrote G may fits = record {
  leads = stays_closed now q a G n (bouncing by now q a G n fd.0 may);
  others = λ part far. refl;
  opens = λ k how h. h;
}
notes_sync by now q a read n fd told wrote G may fits = absurd fits

-- the notes were returned
returned_state : (q : Queue) (n : ℕ) (may : MayUnlink (about q n)) (h : IsPreprocessed (about q n)) → NotesState h.taken.injection None
returned_state q n may h =
    let same : may.injection ≡ h.taken.injection = (let w = may.lives in let v = h.taken.lives in cc) in
    let among = subst (λ (z : Injection). Among may.bounce z.ledger.bounced) same may.accepted in
    let notes = subst (λ (o : Option Entry). NotesState h.taken.injection (file_in o)) may.there h.notes in
    notes_account.returned h.taken.injection may.bounce may.file.file among may.notes notes

pub bounces_go : BouncesGo
bounces_go now q a read n answer.Done wrote G may fits =
    let h = sorted_of_bounce (about q n) may.file may.there (G.fine n) in
    gone_leads_on now q a G n h (returned_state q n may h)
bounces_go now q a read n (answer.Refused why) wrote G may fits =
    stays_closed now q a G n (sorted_of_bounce (about q n) may.file may.there (G.fine n))
bounces_go now q a read n told wrote G may fits = absurd fits

pub bounces_drop : BouncesDrop
bounces_drop now q a read n answer.Done wrote G may fits =
    let h = sorted_of_bounce (about q n) may.file may.there (G.fine n) in
    let same : may.injection ≡ h.taken.injection = (let w = may.lives in let v = h.taken.lives in cc) in
    dropped_leads now q a G n h may.gone (subst (λ (z : Injection). sender_of z.args ≡ codes "#@[]") same may.sender)
bounces_drop now q a read n (answer.Refused why) wrote G may fits =
    stays_closed now q a G n (sorted_of_bounce (about q n) may.file may.there (G.fine n))
bounces_drop now q a read n told wrote G may fits = absurd fits

pub bounces_cover : BouncesCover
bounces_cover q n y G there =
    let h = sorted_of_bounce (about q n) y there (G.fine n) in
    record {
      no_todo = h.no_todo;
      info = h.info;
      info_there = h.info_there;
      injection = h.taken.injection;
      lives = h.taken.lives;
      covers = λ z is. (notes_stay.named h.taken.injection z.file (notes_there h.taken.injection (look q (Of Bounce n)) z is h.notes)).0;
    }

pub closes_enter : ClosesEnter
closes_enter now q a read n fd line answer.Done wrote G may holds fits =
    let opens = put q.disk.opens fd.0 None in
    let holder = put q.holder fd.0 None in
    let shut : IsClosed now q n = record {
      mess = may.mess;
      there = may.there;
      shut = inr (record { injection = may.injection; lives = may.lives; accepted = may.accepted });
    } in
    lined_leads now q a G n line (with_fds q opens holder)
    (fds_elsewhere now a q G.suits n shut opens holder (λ o k how other h.
    let far : k ≢ fd.0 = λ same. let v : Some o ≡ Some a = sym h.held ∙ ap q.holder same ∙ holds in other (cc) in
    record { opened = put_other q.disk.opens fd.0 None k far ∙ h.opened; held = put_other q.holder fd.0 None k far ∙ h.held }))
    G.suits (entered_phase now q a G n line may (G.fine n)) (outside_same q.disk opens) (record { files = λ _ _ _ _. refl; roles = λ _ _ _. refl })
closes_enter now q a read n fd line told wrote G may holds fits = absurd fits
