-- What a sender does to the queue: it reads, marks records, takes files away, and enters what was delivered.
use Rattle.std.proofs.Common.{◌≡◌, ◌≢◌, inl, inr, ℕ, List, [], ◌∷◌, true, false, Option, Some, None, option_map, refl, sym, ap, ◌∙◌, subst, ⊎_elim}
use Rattle.address_rules.specs.Nuls.{HaveNoNul}
use Rattle.call_fs.specs.declared.calls.CallData.{CallData}
use Rattle.call_fs.specs.declared.calls.CallData.TheVariants.{Open, ReadAt, WriteAt, Close, Unlink, Stat, NextName}
use Rattle.call_fs.specs.declared.calls.Answer.{Answer}
use Rattle.call_fs.specs.declared.calls.Answer.TheVariants as answer
use Rattle.call_fs.specs.declared.calls.Fd.{Fd}
use Rattle.call_fs.specs.declared.calls.How.TheVariants.{Write}
use Rattle.call_fs.specs.declared.modes.Mode.{Mode}
use Rattle.call_fs.specs.declared.calls.FsError.TheVariants.{Fault, Memory}
use Rattle.call_fs.specs.Maps.{put}
use Rattle.call_fs.specs.Disk.{File, Open as OpenFile, Among, IsSynced}
use Rattle.call_fs.specs.Apply.{changed, overwritten, overwritten_part, Fits}
use Rattle.call_fs.proofs.Maps.{put_cases, put_same, put_other, put_at_cases, put_at_other}
use Rattle.queue_inject.specs.Texts.{message_text}
use Rattle.queue_paths.specs.Names.{Name, Part, path}
use Rattle.queue_paths.specs.Names.Name.{Of}
use Rattle.queue_paths.specs.Names.Part.{Mess, Intd, Todo, Info, Local, Remote, Bounce, SplitIntd, SplitTodo}
use Rattle.queue_paths.specs.Parts.{in_todo}
use Rattle.queue_paths.proofs.Parts.{intd_apart, todo_apart, intd_same, todo_same}
use Rattle.queue_law.proofs.Waits.{intd_early, todo_early}
use Rattle.send_known.specs.declared.channel.Channel.{Channel}
use Rattle.send_known.specs.declared.channel.Channel.TheVariants as channel
use Rattle.queue_law.specs.Ledgers.{Line, Named, line_in}
use Rattle.queue_law.specs.Ledgers.Line.{Marks}
use Rattle.queue_law.specs.Books.{Injection, IsInjected, IsLater, begun, with_line, entered_in}
use Rattle.queue_law.specs.Routes.{Recipient, lane_part}
use Rattle.queue_law.specs.Marks.{IsDone, AllMarked, IsLaneDone, HasItsSpots, MayBeMarked}
use Rattle.queue_law.specs.Notes.{NotesDone, NotesState}
use Rattle.queue_law.specs.Notes.NotesState.{Gone, There}
use Rattle.queue_law.specs.Numbers.{Entry, Role, Queue, look, Suits, IsRecent, About, about, NamesSuit, file_in, is_later, IsUnsorted, IsTaken, LaneState, IsPreprocessed, Phase, Sound}
use Rattle.queue_law.specs.Numbers.Role.{AsPart}
use Rattle.queue_law.specs.Numbers.Phase.{Free, Queued, Sorted, Finished}
use Rattle.queue_law.specs.Numbers.LaneState.{LaneThere, LaneGone}
use Rattle.queue_law.specs.Injectors.{IsHeld}
use Rattle.queue_law.specs.Steps.{Concerns, Apart, Elsewhere, IsForeignRole, LeavesOld, Outside}
use Rattle.queue_law.specs.Senders.{called_queue, LeadsOn, OnlyReads, HasLane, MayMark, MayDrop, MayEnd, MayEnter, MayReturn, LineFits, entered_queue, MarksKeep, marked_queue}
use Rattle.queue_law.proofs.Tests.{off, tells_number}
use Rattle.queue_law.proofs.Looks.{find_far, find_near, find_gone, found}
use Rattle.queue_law.proofs.Frame.{outside_same, still_there, about_same}
use Rattle.queue_law.proofs.Deeds.{written, named, at_number, made_for, its_number, named_other, named_suits, written_suits, written_old}
use Rattle.queue_law.proofs.Growth.{line_grows, grown_on}
use Rattle.queue_law.proofs.Lines.{done_on, notes_on, spots_on, unreturned_on, fresh_on, fresh_spots, routes_on}
use Rattle.queue_law.proofs.Marks.{lane_grown, marked_over, marked_part, marked_grown}
use Rattle.queue_law.proofs.Places.{reads_done}

-- no injector may touch a number whose message is accepted, while its file is there
pub accepted_apart : (now : ℕ) (q : Queue) (a : List ℕ) (n : ℕ) (i : Injection) → look q (Of Mess n) ≢ None → q.books.living n ≡ Some i → i.accepted ≡ true
    → Apart now q a (Some n)
accepted_apart now q a n i there lives accepted o args other soon x y h his touches same =
    let w : n ≡ y.number = cc in
    ⊎_elim
    (λ (none : look q (Of Mess y.number) ≡ None). there (ap (λ k. look q (Of Mess k)) w ∙ none))
    (λ (begins : q.books.living y.number ≡ Some (begun o args y.number)).
    let s : Some i ≡ Some (begun o args y.number) = sym lives ∙ ap q.books.living w ∙ begins in
    let e : i ≡ begun o args y.number = cc in
    off (sym (ap (λ (z : Injection). z.accepted) e) ∙ accepted))
    touches

is_there : {A : Type 0} (o : Option A) (x : A) → o ≡ Some x → o ≢ None
is_there o x h none = let w = h in cc

taken_apart : (now : ℕ) (q : Queue) (a : List ℕ) (n : ℕ) → IsTaken (about q n) → Apart now q a (Some n)
taken_apart now q a n h = accepted_apart now q a n h.injection (is_there (look q (Of Mess n)) h.mess h.mess_there) h.lives h.accepted

lane_later : (ch : Channel) → is_later (lane_part ch) ≡ true
lane_later channel.Local = refl
lane_later channel.Remote = refl

-- a file that was made for a channel of a number has no other name
pub lane_role : (P : Part) (n i : ℕ) (role : Role) (ch : Channel) → Suits (Of P n) i role → role ≡ AsPart (lane_part ch) n → P ≡ lane_part ch
lane_role Mess n i role ch h e = let w = h.1.2 in absurd (cc)
lane_role Intd n i role channel.Local h e = let w : AsPart Todo n ≡ AsPart Local n = sym h ∙ e in absurd (cc)
lane_role Intd n i role channel.Remote h e = let w : AsPart Todo n ≡ AsPart Remote n = sym h ∙ e in absurd (cc)
lane_role Todo n i role ch h e = let w : AsPart Todo n ≡ AsPart (lane_part ch) n = sym h ∙ e in cc
lane_role Info n i role ch h e = let w : AsPart Info n ≡ AsPart (lane_part ch) n = sym h ∙ e in cc
lane_role Local n i role ch h e = let w : AsPart Local n ≡ AsPart (lane_part ch) n = sym h ∙ e in cc
lane_role Remote n i role ch h e = let w : AsPart Remote n ≡ AsPart (lane_part ch) n = sym h ∙ e in cc
lane_role SplitIntd n i role ch h e = absurd h
lane_role SplitTodo n i role ch h e = absurd h
lane_role Bounce n i role ch h e = let w : AsPart Bounce n ≡ AsPart (lane_part ch) n = sym h ∙ e in cc

lane_suits : (ch : Channel) (n i : ℕ) (role : Role) → Suits (Of (lane_part ch) n) i role → role ≡ AsPart (lane_part ch) n
lane_suits channel.Local n i role h = h
lane_suits channel.Remote n i role h = h

-- What isn't this channel's file is as it was
module _ (ch : Channel) (w v : About) (same : (P : Part) → P ≢ lane_part ch → v.parts P ≡ w.parts P) where
  lane_kept : (i : Injection) (c : Channel) → lane_part c ≢ lane_part ch → LaneState w i c → LaneState v i c
  lane_kept i c far (LaneThere y there marked) = LaneThere y (same (lane_part c) far ∙ there) marked
  lane_kept i c far (LaneGone none all) = LaneGone (same (lane_part c) far ∙ none) all

  early_far : (P : Part) → is_later P ≡ false → P ≢ lane_part ch
  early_far P early e = off (sym early ∙ ap is_later e ∙ lane_later ch)

notes_kept : (w v : About) (i : Injection) → v.parts Bounce ≡ w.parts Bounce → NotesState i (file_in (w.parts Bounce))
    → NotesState i (file_in (v.parts Bounce))
notes_kept w v i same h = subst (λ (o : Option Entry). NotesState i (file_in o)) (sym same) h

lanes_of : (ch : Channel) (w v : About) → ((P : Part) → P ≢ lane_part ch → v.parts P ≡ w.parts P) → (i : Injection)
    → ((c : Channel) → LaneState w i c) → LaneState v i ch → (c : Channel) → LaneState v i c
lanes_of channel.Local w v same i old new channel.Local = new
lanes_of channel.Local w v same i old new channel.Remote = lane_kept channel.Local w v same i channel.Remote (λ s. cc) (old channel.Remote)
lanes_of channel.Remote w v same i old new channel.Local = lane_kept channel.Remote w v same i channel.Local (λ s. cc) (old channel.Local)
lanes_of channel.Remote w v same i old new channel.Remote = new

other_parts : (ch : Channel) → (Info ≢ lane_part ch) × (Bounce ≢ lane_part ch)
other_parts channel.Local = ((λ s. cc), (λ s. cc))
other_parts channel.Remote = ((λ s. cc), (λ s. cc))

-- a channel file that is there was there before
still_lane : (ch : Channel) (w v : About) → ((P : Part) → P ≢ lane_part ch → v.parts P ≡ w.parts P) → (v.parts (lane_part ch) ≢ None → w.parts (lane_part ch) ≢ None)
    → (c : Channel) → v.parts (lane_part c) ≢ None → w.parts (lane_part c) ≢ None
still_lane channel.Local w v same was channel.Local there = was there
still_lane channel.Local w v same was channel.Remote there = λ none. there (same Remote (λ s. cc) ∙ none)
still_lane channel.Remote w v same was channel.Local there = λ none. there (same Local (λ s. cc) ∙ none)
still_lane channel.Remote w v same was channel.Remote there = was there

-- so a number stays preprocessed whose channel's file changed
resorted : (ch : Channel) (w v : About) → ((P : Part) → P ≢ lane_part ch → v.parts P ≡ w.parts P) → v.living ≡ w.living
    → (h : IsPreprocessed w) → LaneState v h.taken.injection ch → (v.parts (lane_part ch) ≢ None → w.parts (lane_part ch) ≢ None) → IsPreprocessed v
resorted ch w v same living h new was =
    let far = other_parts ch in
    let early = early_far ch w v same in
    record {
      taken = record {
        injection = h.taken.injection;
        lives = living ∙ h.taken.lives;
        accepted = h.taken.accepted;
        mess = h.taken.mess;
        mess_there = same Mess (early Mess refl) ∙ h.taken.mess_there;
        message = h.taken.message;
        valid = h.taken.valid;
        spots = h.taken.spots;
      };
      no_todo = todo_same w.parts v.parts (λ part is. same part (early part (todo_early part is))) ∙ h.no_todo;
      no_intd = intd_same w.parts v.parts (λ part is. same part (early part (intd_early part is))) ∙ h.no_intd;
      no_nul = h.no_nul;
      info = h.info;
      info_there = same Info far.0 ∙ h.info_there;
      text = h.text;
      lanes = lanes_of ch w v same h.taken.injection h.lanes new;
      notes = notes_kept w v h.taken.injection (same Bounce far.1) h.notes;
      unsettled = λ c there. h.unsettled c (still_lane ch w v same was c there);
    }

-- a number that has a channel's file, and no todo, is preprocessed
pub sorted_of_lane : (w : About) (ch : Channel) → Phase w → HasLane w ch → IsPreprocessed w
sorted_of_lane w ch (Free h) l = let there = l.there in let none = h.unsorted (lane_part ch) (lane_later ch) in absurd (cc)
sorted_of_lane w ch (Queued h) l = let none = l.no_todo in let there = h.todo_there in absurd (cc)
sorted_of_lane w ch (Sorted h) l = h
sorted_of_lane w ch (Finished h) l = let there = l.there in let none = h.unsorted (lane_part ch) (lane_later ch) in absurd (cc)

-- what is there of its file
pub lane_there : (w : About) (i : Injection) (ch : Channel) (y : Entry) → w.parts (lane_part ch) ≡ Some y → LaneState w i ch
    → AllMarked i ch y.file
lane_there w i ch y there (LaneThere z is marked) = let same : z ≡ y = cc in subst (λ (v : Entry). AllMarked i ch v.file) same marked
lane_there w i ch y there (LaneGone none all) = absurd (cc)

-- A mark may be written that the ledger has: the descriptor is the actor's own, opened for this on the channel file.
pub record MayWrite (q : Queue) (a : List ℕ) (n : ℕ) (ch : Channel) (fd place : ℕ) : Type 0 where
  pub lane : HasLane (about q n) ch
  pub opened : IsHeld q.disk.opens q.holder a fd (record { number = lane.file.number; mode = Mode.Opened Write })
  pub done : IsDone lane.injection.ledger ch place

module _ (now : ℕ) (q : Queue) (a : List ℕ) (G : Sound q) where
  -- other descriptors are open, and all else is as it was
  pub opens_leads : (opens : ℕ → Option OpenFile) (holder : ℕ → Option (List ℕ))
      → ((o : List ℕ) (fd : ℕ) (how : OpenFile) → o ≢ a → IsHeld q.disk.opens q.holder o fd how → IsHeld opens holder o fd how)
      → LeadsOn now a None q (record {
        disk = record { dirs = q.disk.dirs; names = q.disk.names; files = q.disk.files; opens = opens };
        holder = holder;
        books = q.books;
        role = q.role;
      })
  opens_leads opens holder others = record {
    sound = record { suits = G.suits; fine = G.fine; over = G.over };
    elsewhere = record {
      looks = λ _ _. refl;
      living = λ _ _. refl;
      opens = others;
      roles = λ _ _ _. refl;
      apart = λ _ _ _ _ _ _ _ _ _ h. absurd (cc);
      accepted = λ i h _. still_there q.books i h;
    };
    outside = outside_same q.disk opens;
    old = record { files = λ _ _ _ _. refl; roles = λ _ _ _. refl };
  }

  abbrev Stays : Option ℕ → Type 0
  Stays m = LeadsOn now a m q (record { disk = q.disk; holder = q.holder; books = q.books; role = q.role })

  stays : Stays None
  stays = opens_leads q.disk.opens q.holder (λ _ _ _ _ h. h)

  -- a step that changed nothing leaves all but any number that nobody else may touch
  stays_but : (n : ℕ) → Apart now q a (Some n) → Stays (Some n)
  stays_but n apart = record {
    sound = record { suits = G.suits; fine = G.fine; over = G.over };
    elsewhere = record {
      looks = λ _ _. refl;
      living = λ _ _. refl;
      opens = λ _ _ _ _ h. h;
      roles = λ _ _ _. refl;
      apart = apart;
      accepted = λ i h _. still_there q.books i h;
    };
    outside = outside_same q.disk q.disk.opens;
    old = record { files = λ _ _ _ _. refl; roles = λ _ _ _. refl };
  }

  pub reads_keep : (read : ℕ) (call : CallData) (told : Answer) (wrote : ℕ) → OnlyReads q a call → Fits q.disk call told wrote
      → LeadsOn now a None q (called_queue q a read call told wrote q.role)
  reads_keep read (Open name how) (answer.Opened fd) wrote may fits = opens_leads _ _ (λ o k how other h.
      let w = fits.not_open in
      let far : k ≢ fd.0 = λ same. let v : q.disk.opens k ≡ q.disk.opens fd.0 = ap q.disk.opens same in let u = h.opened in absurd (cc) in
      record { opened = put_other q.disk.opens fd.0 _ k far ∙ h.opened; held = put_other q.holder fd.0 _ k far ∙ h.held })
  reads_keep read (Open name how) (answer.Refused why) wrote may fits = stays
  reads_keep read (Open name how) told wrote may fits = absurd fits
  reads_keep read (ReadAt fd at len) (answer.Count count) wrote may fits = stays
  reads_keep read (ReadAt fd at len) (answer.Refused why) wrote may fits = stays
  reads_keep read (ReadAt fd at len) told wrote may fits = absurd fits
  reads_keep read (Close fd) answer.Done wrote may fits = opens_leads _ _ (λ o k how other h.
      let far : k ≢ fd.0 = λ same. let v : Some o ≡ Some a = sym h.held ∙ ap q.holder same ∙ may in other (cc) in
      record { opened = put_other q.disk.opens fd.0 _ k far ∙ h.opened; held = put_other q.holder fd.0 _ k far ∙ h.held })
  reads_keep read (Close fd) told wrote may fits = absurd fits
  reads_keep read (Stat name) (answer.Stat stat) wrote may fits = stays
  reads_keep read (Stat name) (answer.Refused why) wrote may fits = stays
  reads_keep read (Stat name) told wrote may fits = absurd fits
  reads_keep read (NextName dir after) (answer.Name name) wrote may fits = stays
  reads_keep read (NextName dir after) answer.NoName wrote may fits = stays
  reads_keep read (NextName dir after) (answer.Refused why) wrote may fits = stays
  reads_keep read (NextName dir after) told wrote may fits = absurd fits
  reads_keep read call told wrote may fits = absurd may

  -- a file of this number changed, and it alone
  phase_by : (m : ℕ) (r : Queue) → Elsewhere now a (Some m) q r → Phase (about r m) → (k : ℕ) → Phase (about r k)
  phase_by m r E fine k = ⊎_elim
      (λ (here : ◌≡◌ {A = Option ℕ} (Some m) (Some k)). at_number r (Phase) m fine k here)
      (λ far. subst Phase (sym (about_same now a (Some m) q r E k far)) (G.fine k))
      (tells_number (Some m) k)

  pub written_leads : (x : Name) (j : ℕ) (f : File) (n : ℕ) → q.disk.names (path x) ≡ Some j → made_for j (q.role j) ≡ n → (IsForeignRole (q.role j) → ⊥) → Apart now q a (Some n)
      → IsRecent f (q.role j) → Phase (about (written q j f) n) → LeadsOn now a (Some n) q (written q j f)
  written_leads x j f n there own new apart recent fine =
      let E : Elsewhere now a (Some n) q (written q j f) = record {
        looks = λ y far. find_far q.disk.names q.disk.files y j f (λ z h same.
            far (subst (λ k. Concerns q y (Some k)) (ap (λ k. made_for k (q.role k)) same ∙ own) (its_number now q G.suits y z h)));
        living = λ _ _. refl;
        opens = λ _ _ _ _ h. h;
        roles = λ _ _ _. refl;
        apart = apart;
        accepted = λ i h _. still_there q.books i h;
      } in
      record {
        sound = record { suits = written_suits now q G.suits j f recent; fine = phase_by n (written q j f) E fine; over = G.over };
        elsewhere = E;
        outside = record {
          names = λ _ _. refl;
          files = λ k out. put_other q.disk.files j f k (λ same. out.unqueued x (there ∙ ap Some (sym same)));
          unqueued = λ k out y is. out.unqueued y is;
        };
        old = written_old q j f new;
      }

  -- a name of this number went
  pub gone_leads : (x : Name) (n : ℕ) → Concerns q x (Some n) → Apart now q a (Some n) → Phase (about (named q x None q.books) n)
      → LeadsOn now a (Some n) q (named q x None q.books)
  gone_leads x n concerns apart fine =
      let E : Elsewhere now a (Some n) q (named q x None q.books) = record {
        looks = λ y far. named_other q x None q.books y (λ same. far (subst (λ z. Concerns q z (Some n)) (sym same) concerns));
        living = λ _ _. refl;
        opens = λ _ _ _ _ h. h;
        roles = λ _ _ _. refl;
        apart = apart;
        accepted = λ i h _. still_there q.books i h;
      } in
      record {
        sound = record {
          suits = named_suits now q G.suits x None q.books (λ z h. let w = find_gone q.disk.names q.disk.files x in absurd (cc));
          fine = phase_by n (named q x None q.books) E fine;
          over = G.over;
        };
        elsewhere = E;
        outside = record {
          names = λ name far. put_at_other q.disk.names (path x) None name (λ same. far x (sym same));
          files = λ _ _. refl;
          unqueued = λ k out y is. ⊎_elim
              (λ c. let w = sym c.1 ∙ is in absurd (cc))
              (λ c. out.unqueued y (sym c.1 ∙ is))
              (put_at_cases q.disk.names (path x) None (path y));
        };
        old = record { files = λ _ _ _ _. refl; roles = λ _ _ _. refl };
      }

  -- A mark that the ledger has already
  module _ (n : ℕ) (ch : Channel) (fd place : ℕ) (may : MayWrite q a n ch fd place) where
    abbrev j : ℕ
    j = may.lane.file.number

    pub marking : IsPreprocessed (about q n)
    marking = sorted_of_lane (about q n) ch (G.fine n) may.lane

    pub lane_name : q.disk.names (path (Of (lane_part ch) n)) ≡ Some j
    lane_name = (found q.disk.names q.disk.files (Of (lane_part ch) n) may.lane.file may.lane.there).0

    pub lane_file : may.lane.file.file ≡ q.disk.files j
    lane_file = ap (λ (y : Entry). y.file) (found q.disk.names q.disk.files (Of (lane_part ch) n) may.lane.file may.lane.there).1

    pub lane_made : q.role j ≡ AsPart (lane_part ch) n
    lane_made = lane_suits ch n j (q.role j) (G.suits (Of (lane_part ch) n) may.lane.file may.lane.there).0

    pub same_injection : may.lane.injection ≡ marking.taken.injection
    same_injection = let w = may.lane.lives in let v = marking.taken.lives in cc

    -- every version of the file keeps to the rule when this is written
    mark_leads : (g : File → File) → ((f : File) → IsDone marking.taken.injection.ledger ch place → AllMarked marking.taken.injection ch f
        → AllMarked marking.taken.injection ch (g f)) → LeadsOn now a (Some n) q (written q j (g (q.disk.files j)))
    mark_leads g keeps =
        let f = g (q.disk.files j) in
        let done = subst (λ (i : Injection). IsDone i.ledger ch place) same_injection may.done in
        let old = lane_there (about q n) marking.taken.injection ch may.lane.file may.lane.there (marking.lanes ch) in
        let marked = keeps (q.disk.files j) done (subst (AllMarked marking.taken.injection ch) lane_file old) in
        let others = λ (P : Part) (far : P ≢ lane_part ch). find_far q.disk.names q.disk.files (Of P n) j f (λ z h same.
        far (lane_role P n z.number (q.role z.number) ch (G.suits (Of P n) z h).0 (ap q.role same ∙ lane_made))) in
        let there = find_near q.disk.names q.disk.files (Of (lane_part ch) n) may.lane.file f may.lane.there in
        written_leads (Of (lane_part ch) n) j f n lane_name (ap (made_for j) lane_made) (λ was. subst IsForeignRole lane_made was) (taken_apart now q a n marking.taken)
        (subst (IsRecent f) (sym lane_made) tt)
        (Sorted (resorted ch (about q n) (about (written q j f) n) others refl marking (LaneThere (record { number = j; file = f }) there marked)
        (λ _. is_there (look q (Of (lane_part ch) n)) may.lane.file may.lane.there)))

    behind : (g : File → File) → LeadsOn now a (Some n) q (written q j (g (q.disk.files j)))
        → LeadsOn now a (Some n) q (record { disk = changed q.disk (q.disk.opens fd) g; holder = q.holder; books = q.books; role = q.role })
    behind g leads =
        let by = λ (o : Option OpenFile). LeadsOn now a (Some n) q (record { disk = changed q.disk o g; holder = q.holder; books = q.books; role = q.role }) in
        subst by (sym may.opened.opened) leads

  pub writes_keep : (read n : ℕ) (ch : Channel) (fd : Fd) (place : ℕ) (told : Answer) (wrote : ℕ) → MayWrite q a n ch fd.0 place
      → Fits q.disk (WriteAt fd place (68 ∷ [])) told wrote → LeadsOn now a (Some n) q (called_queue q a read (WriteAt fd place (68 ∷ [])) told wrote q.role)
  writes_keep read n ch fd place answer.Done wrote may fits =
      behind n ch fd.0 place may (overwritten read place (68 ∷ []))
      (mark_leads n ch fd.0 place may (overwritten read place (68 ∷ []))
      (λ f d m. marked_over (marking n ch fd.0 place may).taken.injection ch f read place d m))
  writes_keep read n ch fd place (answer.Refused Fault) wrote may fits =
      behind n ch fd.0 place may (overwritten_part read place (68 ∷ []) wrote)
      (mark_leads n ch fd.0 place may (overwritten_part read place (68 ∷ []) wrote)
      (λ f d m. marked_part (marking n ch fd.0 place may).taken.injection ch f read place wrote d m))
  writes_keep read n ch fd place (answer.Refused Memory) wrote may fits = stays_but n (taken_apart now q a n (marking n ch fd.0 place may).taken)
  writes_keep read n ch fd place told wrote may fits = absurd fits

  -- A channel file goes
  drop_phase : (n : ℕ) (ch : Channel) (may : MayDrop (about q n) ch) (h : IsPreprocessed (about q n))
      → Phase (about (named q (Of (lane_part ch) n) None q.books) n)
  drop_phase n ch may h =
      let x = Of (lane_part ch) n in
      let same : may.lane.injection ≡ h.taken.injection = (let w = may.lane.lives in let v = h.taken.lives in cc) in
      let marked = lane_there (about q n) h.taken.injection ch may.lane.file may.lane.there (h.lanes ch) in
      let all = subst (λ (i : Injection). AllMarked i ch may.lane.file.file → IsLaneDone i ch) same
      (λ (m : AllMarked may.lane.injection ch may.lane.file.file) (r : Recipient may.lane.injection.args) on.
      ⊎_elim (λ reads. reads_done may.lane.injection ch may.lane.file.file.bytes m.present r on reads) (λ done. done) (may.each r on))
      marked in
      Sorted (resorted ch (about q n) (about (named q x None q.books) n)
      (λ P far. named_other q x None q.books (Of P n) (λ s. far (cc)))
      refl h (LaneGone (find_gone q.disk.names q.disk.files x) all)
      (λ there. absurd (there (find_gone q.disk.names q.disk.files x))))

  pub drops_keep : (read n : ℕ) (ch : Channel) (told : Answer) (wrote : ℕ) → MayDrop (about q n) ch → Fits q.disk (Unlink (path (Of (lane_part ch) n))) told wrote
      → LeadsOn now a (Some n) q (called_queue q a read (Unlink (path (Of (lane_part ch) n))) told wrote q.role)
  drops_keep read n ch answer.Done wrote may fits =
      let h = sorted_of_lane (about q n) ch (G.fine n) may.lane in
      gone_leads (Of (lane_part ch) n) n refl (taken_apart now q a n h.taken) (drop_phase n ch may h)
  drops_keep read n ch (answer.Refused why) wrote may fits =
      stays_but n (taken_apart now q a n (sorted_of_lane (about q n) ch (G.fine n) may.lane).taken)
  drops_keep read n ch told wrote may fits = absurd fits

  -- Info goes
  sorted_of_info : (w : About) → Phase w → MayEnd w → IsPreprocessed w
  sorted_of_info w (Free h) may = let there = may.there in let none = h.unsorted Info refl in absurd (cc)
  sorted_of_info w (Queued h) may = let none = may.no_todo in let there = h.todo_there in absurd (cc)
  sorted_of_info w (Sorted h) may = h
  sorted_of_info w (Finished h) may = let there = may.there in let none = h.unsorted Info refl in absurd (cc)

  lane_over : (w : About) (i : Injection) (ch : Channel) → w.parts (lane_part ch) ≡ None → LaneState w i ch → IsLaneDone i ch
  lane_over w i ch none (LaneThere y there marked) = absurd (cc)
  lane_over w i ch none (LaneGone gone all) = all

  notes_over : (w : About) (i : Injection) → w.parts Bounce ≡ None → NotesState i (file_in (w.parts Bounce)) → NotesDone i
  notes_over w i none (There f is has) = let w : ◌≡◌ {A = Option File} None (Some f) = ap file_in (sym none) ∙ is in absurd (cc)
  notes_over w i none (Gone is settled) = settled

  end_phase : (n : ℕ) → MayEnd (about q n) → (h : IsPreprocessed (about q n)) → Phase (about (named q (Of Info n) None q.books) n)
  end_phase n may h =
      let x = Of Info n in
      let other = named_other q x None q.books in
      Finished (record {
        injection = h.taken.injection;
        lives = h.taken.lives;
        accepted = h.taken.accepted;
        message = λ y e.
            let w = h.taken.mess_there in
            let v = sym (other (Of Mess n) (λ s. cc)) ∙ e in
            let same : h.taken.mess ≡ y = cc in
            subst (λ (z : Entry). IsSynced z.file (message_text h.taken.injection.args).bytes) same h.taken.message;
        no_todo = todo_same (about q n).parts (about (named q x None q.books) n).parts (λ part is. other (Of part n) (todo_apart part n x is refl)) ∙ h.no_todo;
        no_intd = intd_same (about q n).parts (about (named q x None q.books) n).parts (λ part is. other (Of part n) (intd_apart part n x is refl)) ∙ h.no_intd;
        unsorted = later;
        settled = record {
          valid = h.taken.valid;
          spots = h.taken.spots;
          all = λ ch. lane_over (about q n) h.taken.injection ch (may.gone ch) (h.lanes ch);
          notes = notes_over (about q n) h.taken.injection may.no_bounce h.notes;
        };
      })
    where
      later : IsUnsorted (about (named q (Of Info n) None q.books) n)
      later Info is = find_gone q.disk.names q.disk.files (Of Info n)
      later Local is = named_other q (Of Info n) None q.books (Of Local n) (λ s. cc) ∙ may.gone channel.Local
      later Remote is = named_other q (Of Info n) None q.books (Of Remote n) (λ s. cc) ∙ may.gone channel.Remote
      later Bounce is = named_other q (Of Info n) None q.books (Of Bounce n) (λ s. cc) ∙ may.no_bounce
      later other is = absurd (off is)

  pub ends_keep : (read n : ℕ) (told : Answer) (wrote : ℕ) → MayEnd (about q n) → Fits q.disk (Unlink (path (Of Info n))) told wrote
      → LeadsOn now a (Some n) q (called_queue q a read (Unlink (path (Of Info n))) told wrote q.role)
  ends_keep read n answer.Done wrote may fits =
      let h = sorted_of_info (about q n) (G.fine n) may in
      gone_leads (Of Info n) n refl (taken_apart now q a n h.taken) (end_phase n may h)
  ends_keep read n (answer.Refused why) wrote may fits = stays_but n (taken_apart now q a n (sorted_of_info (about q n) (G.fine n) may).taken)
  ends_keep read n told wrote may fits = absurd fits

  -- A line is entered
  module _ (n : ℕ) (line : Line) where
    abbrev more : Injection → Injection
    more = with_line line

    pub entered_living : (i : Injection) → q.books.living n ≡ Some i → (entered_in q.books n line).living n ≡ Some (more i)
    entered_living i lives = put_same q.books.living n _ ∙ ap (option_map more) lives

    -- the injections that were in the books are there, this one with its ledger grown
    pub entered_still : (i : Injection) → IsInjected q.books i → (j : Injection) × IsInjected (entered_in q.books n line) j × IsLater i j
    entered_still i h = ⊎_elim
        (λ (lives : q.books.living i.number ≡ Some i). ⊎_elim
        (λ (c : (i.number ≡ n) × (put q.books.living n (option_map more (q.books.living n)) i.number ≡ option_map more (q.books.living n))).
        let old : q.books.living n ≡ Some i = ap q.books.living (sym c.0) ∙ lives in
        (more i, inl (c.1 ∙ ap (option_map more) old), record { number_is = refl; actor_is = refl; args_are = refl; accepted_is = refl; grown = line_grows line i.ledger }))
        (λ (c : (i.number ≢ n) × (put q.books.living n (option_map more (q.books.living n)) i.number ≡ q.books.living i.number)).
        still_there (entered_in q.books n line) i (inl (c.1 ∙ lives)))
        (put_cases q.books.living n (option_map more (q.books.living n)) i.number))
        (λ (over : Among i q.books.over). still_there (entered_in q.books n line) i (inr over))
        h

    -- the queue with that line in its books
    abbrev pub lined : Queue → Queue
    lined r = record { disk = r.disk; holder = r.holder; books = entered_in q.books n line; role = r.role }

    -- a step that concerns this number alone, and enters the line
    pub lined_leads : (r : Queue) → Elsewhere now a (Some n) q r → NamesSuit r → Phase (about (lined r) n) → Outside q.disk r.disk → LeavesOld q r
        → LeadsOn now a (Some n) q (lined r)
    lined_leads r E suits fine outside old =
        let L : Elsewhere now a (Some n) q (lined r) = record {
          looks = E.looks;
          living = λ k far. put_other q.books.living n _ k (λ same. far (ap Some (sym same)));
          opens = E.opens;
          roles = E.roles;
          apart = E.apart;
          accepted = λ i h _. entered_still i h;
        } in
        record {
          sound = record { suits = suits; fine = phase_by n (lined r) L fine; over = G.over };
          elsewhere = L;
          outside = outside;
          old = record { files = old.files; roles = old.roles };
        }

  module _ (n : ℕ) (line : Line) (may : MayEnter (about q n) line) where
    entered_fits : (i : Injection) → q.books.living n ≡ Some i → LineFits (about q n) i line
    entered_fits i lives =
        let w = may.lives in
        let same : may.injection ≡ i = cc in
        subst (λ (z : Injection). LineFits (about q n) z line) same may.fits

    -- once todo is gone it is routed as it was
    routed_same : (i : Injection) → q.books.living n ≡ Some i → in_todo (about q n).parts ≡ None → (line_in line i.ledger).routes ≡ i.ledger.routes
    routed_same i lives gone = routes_on (about q n) i line (entered_fits i lives) gone

    entered_lane : (i : Injection) → (line_in line i.ledger).routes ≡ i.ledger.routes → (ch : Channel) → LaneState (about q n) i ch
        → LaneState (about (entered_queue q n line) n) (with_line line i) ch
    entered_lane i same ch (LaneThere y there marked) = LaneThere y there (marked_grown i line same ch y.file marked)
    entered_lane i same ch (LaneGone none all) = LaneGone none (lane_grown i line same ch all)

    entered_taken : (h : IsTaken (about q n)) → HasItsSpots (with_line line h.injection) → IsTaken (about (entered_queue q n line) n)
    entered_taken h spots = record {
      injection = with_line line h.injection;
      lives = entered_living n line h.injection h.lives;
      accepted = h.accepted;
      mess = h.mess;
      mess_there = h.mess_there;
      message = h.message;
      valid = h.valid;
      spots = spots;
    }

    pub entered_phase : Phase (about q n) → Phase (about (entered_queue q n line) n)
    unfolding entered_taken
    entered_phase (Free h) = absurd (h.not_accepted may.injection may.lives may.accepted)
    entered_phase (Queued h) =
        let i = h.taken.injection in
        let there : in_todo (about q n).parts ≢ None = (λ none. let some = h.todo_there in absurd (cc)) in
        let fresh = fresh_on (about q n) i line (entered_fits i h.taken.lives) there h.fresh in
        Queued (record {
          taken = entered_taken h.taken (fresh_spots (with_line line i) fresh);
          todo = h.todo;
          todo_there = h.todo_there;
          text = h.text;
          no_bounce = h.no_bounce;
          fresh = fresh;
        })
    entered_phase (Sorted h) =
        let i = h.taken.injection in
        let fits = entered_fits i h.taken.lives in
        let same = routed_same i h.taken.lives h.no_todo in
        Sorted (record {
          taken = entered_taken h.taken (spots_on (about q n) i line fits h.no_todo h.taken.spots);
          no_todo = h.no_todo;
          no_intd = h.no_intd;
          no_nul = subst HaveNoNul (sym same) h.no_nul;
          info = h.info;
          info_there = h.info_there;
          text = h.text;
          lanes = λ ch. entered_lane i same ch (h.lanes ch);
          notes = notes_on (about q n) i line fits h.no_todo (file_in (look q (Of Bounce n))) h.notes;
          unsettled = λ ch there. unreturned_on (about q n) i line fits
              (λ b (back : MayReturn (about q n) i.ledger b). absurd (there (back.gone ch))) (h.unsettled ch there);
        })
    entered_phase (Finished h) =
        let i = h.injection in
        let fits = entered_fits i h.lives in
        let same = routed_same i h.lives h.no_todo in
        Finished (record {
          injection = with_line line i;
          lives = entered_living n line i h.lives;
          accepted = h.accepted;
          message = h.message;
          no_todo = h.no_todo;
          no_intd = h.no_intd;
          unsorted = h.unsorted;
          settled = record {
            valid = h.settled.valid;
            spots = spots_on (about q n) i line fits h.no_todo h.settled.spots;
            all = λ ch. lane_grown i line same ch (h.settled.all ch);
            notes = done_on (about q n) i line fits h.no_todo h.settled.notes;
          };
        })

    pub entries_keep : LeadsOn now a (Some n) q (entered_queue q n line)
    entries_keep =
        let E : Elsewhere now a (Some n) q q = record {
          looks = λ _ _. refl;
          living = λ _ _. refl;
          opens = λ _ _ _ _ h. h;
          roles = λ _ _ _. refl;
          apart = accepted_apart now q a n may.injection (is_there (look q (Of Mess n)) may.mess may.there) may.lives may.accepted;
          accepted = λ i h _. still_there q.books i h;
        } in
        lined_leads n line q E G.suits (entered_phase (G.fine n)) (outside_same q.disk q.disk.opens) (record { files = λ _ _ _ _. refl; roles = λ _ _ _. refl })

-- a line that is entered before a step which concerns its number alone
entered_first : (now : ℕ) (q r : Queue) (a : List ℕ) (n : ℕ) (line : Line) → LeadsOn now a (Some n) q (entered_queue q n line) → LeadsOn now a (Some n) (entered_queue q n line) r
    → LeadsOn now a (Some n) q r
entered_first now q r a n line first next = record {
  sound = next.sound;
  elsewhere = record {
    looks = next.elsewhere.looks;
    living = λ k far. next.elsewhere.living k far ∙ first.elsewhere.living k far;
    opens = next.elsewhere.opens;
    roles = next.elsewhere.roles;
    apart = first.elsewhere.apart;
    accepted = λ i h yes.
        let j = first.elsewhere.accepted i h yes in
        let k = next.elsewhere.accepted j.0 j.1 (j.2.accepted_is ∙ yes) in (
          k.0,
          k.1,
          record {
            number_is = k.2.number_is ∙ j.2.number_is;
            actor_is = k.2.actor_is ∙ j.2.actor_is;
            args_are = k.2.args_are ∙ j.2.args_are;
            accepted_is = k.2.accepted_is ∙ j.2.accepted_is;
            grown = grown_on i.ledger j.0.ledger k.0.ledger j.2.grown k.2.grown;
          },
        );
  };
  outside = next.outside;
  old = record { files = next.old.files; roles = next.old.roles };
}

module _ (now : ℕ) (q : Queue) (a : List ℕ) (G : Sound q) (n : ℕ) (fd : Fd) (it : Named) (may : MayMark q a n fd.0 it) where
  -- A mark is entered, and then written
  mark_enters : MayEnter (about q n) (Marks it)
  mark_enters =
      let h = sorted_of_lane (about q n) it.spot.channel (G.fine n) may.lane in
      let same : may.lane.injection ≡ h.taken.injection = (let w = may.lane.lives in let v = h.taken.lives in cc) in
      record {
        mess = h.taken.mess;
        there = h.taken.mess_there;
        injection = h.taken.injection;
        lives = h.taken.lives;
        accepted = h.taken.accepted;
        fits = (may.lane.no_todo, subst (λ (z : Injection). MayBeMarked z.ledger it) same may.may);
      }

  pub mark_entered : LeadsOn now a (Some n) q (entered_queue q n (Marks it))
  mark_entered = entries_keep now q a G n (Marks it) mark_enters

  abbrev pub may_write : MayWrite (entered_queue q n (Marks it)) a n it.spot.channel fd.0 it.spot.place
  may_write = record {
    lane = record {
      no_todo = may.lane.no_todo;
      file = may.lane.file;
      there = may.lane.there;
      injection = with_line (Marks it) may.lane.injection;
      lives = entered_living now q a G n (Marks it) may.lane.injection may.lane.lives;
    };
    opened = may.opened;
    done = (it.by, inl refl);
  }

pub marks_keep : MarksKeep
marks_keep now q a read n fd it told wrote G may fits =
    let first = mark_entered now q a G n fd it may in
    let r = entered_queue q n (Marks it) in
    entered_first now q (marked_queue q a read n fd it told wrote) a n (Marks it) first
    (writes_keep now r a first.sound read n it.spot.channel fd it.spot.place told wrote (may_write now q a G n fd it may) fits)
