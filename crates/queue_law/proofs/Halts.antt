-- A machine stop: what was synced survives as it was.
use Rattle.std.proofs.Common.{◌≡◌, ℕ, suc, ◌<◌, ◌≤◌, List, [], ◌∷◌, length, Bool, false, Option, Some, None, refl, sym, ap, ◌∙◌, subst, ⊎_elim, arith, slice_get, le_antisymm}
use Rattle.call_fs.specs.Disk.{File, Among, IsSynced}
use Rattle.call_fs.specs.Survival.{HadAt, Survives, AllSurvive, settled}
use Rattle.queue_paths.specs.Names.{Name}
use Rattle.queue_paths.specs.Names.Name.{Of}
use Rattle.queue_paths.specs.Names.Part.{Mess, Info, Bounce}
use Rattle.queue_paths.specs.Parts.{in_intd, in_todo}
use Rattle.queue_paths.proofs.Parts.{todo_there, intd_out, todo_out, todo_stays}
use Rattle.queue_inject.specs.Texts.{message_text}
use Rattle.send_known.specs.declared.channel.Channel.{Channel}
use Rattle.queue_law.specs.Books.{Injection}
use Rattle.queue_law.specs.Routes.{lane_part}
use Rattle.queue_law.proofs.Marks.{marked_survives}
use Rattle.queue_law.specs.Notes.{HasNotes, NotesState}
use Rattle.queue_law.specs.Notes.NotesState.{Gone, There}
use Rattle.queue_law.proofs.Notes.{notes_stay}
use Rattle.call_fs.specs.declared.past.Own.{Own}
use Rattle.queue_inject.specs.declared.injection.Arguments.{Arguments}
use Rattle.queue_law.specs.Numbers.{Entry, entry, Role, Queue, look, IsRecent, about, file_in, LaneState, Phase, Sound, IsEarly}
use Rattle.queue_law.specs.Numbers.LaneState.{LaneThere, LaneGone}
use Rattle.queue_law.proofs.Tests.{off}
use Rattle.queue_law.proofs.Looks.{find_some, find_none, not_found, found}
use Rattle.queue_law.specs.Injectors.{InjectorFares}
use Rattle.queue_law.specs.Numbers.Role.{AsMessage, AsPart, AsDrop, AsOld}
use Rattle.queue_law.specs.Numbers.Phase.{Free, Queued, Sorted, Finished}
use Rattle.queue_law.specs.Steps.{after_halt}

same_lists : (xs ys : List ℕ) → length xs ≡ length ys → ((k : ℕ) → k < length ys → slice_get xs k ≡ slice_get ys k) → xs ≡ ys
same_lists [] [] l h = refl
same_lists [] (y ∷ ys) l h = absurd (omega arith)
same_lists (x ∷ xs) [] l h = absurd (omega arith)
same_lists (x ∷ xs) (y ∷ ys) l h =
    let first : ◌≡◌ {A = Option ℕ} (Some x) (Some y) = h 0 (omega arith) in
    let head : x ≡ y = cc in
    let tail : xs ≡ ys = same_lists xs ys (omega arith) (λ k lt. h (suc k) (omega arith)) in
    λ i. head i ∷ tail i

-- what survives of a synced file
survives_synced : (f : File) (bytes text : List ℕ) → IsSynced f text → Survives f bytes → bytes ≡ text
survives_synced f bytes text h s =
    let low : length text ≤ length bytes = omega (arith, h.no_shorter, s.no_shorter) in
    let high : length bytes ≤ length text = omega (arith, h.no_longer, s.no_longer) in
    let size : length f.kept ≡ length text = ap length h.all in
    same_lists bytes text (le_antisymm high low) (λ k lt. had k (slice_get bytes k) (s.below k (omega arith) (omega arith)))
  where
    had : (k : ℕ) (value : Option ℕ) → HadAt f k value → value ≡ slice_get text k
    had k value w = ⊎_elim
        (λ (kept : value ≡ slice_get f.kept k). kept ∙ ap (λ (t : List ℕ). slice_get t k) h.all)
        (λ given. absurd (subst (λ (places : List (ℕ × ℕ)). Among (k, given.0) places) h.none_given given.1))
        w

settled_synced : (f : File) (bytes text : List ℕ) → IsSynced f text → Survives f bytes → IsSynced (settled bytes f) text
settled_synced f bytes text h s =
    let same = survives_synced f bytes text h s in
    record { holds = same; all = same; none_given = refl; no_shorter = ap length same; no_longer = ap length same }

settled_recent : (role : Role) (f : File) (bytes : List ℕ) → IsRecent f role → IsRecent (settled bytes f) role
settled_recent (AsMessage actor args) f bytes h = h
settled_recent (AsPart part n) f bytes h = h
settled_recent (AsDrop actor) f bytes h = h
settled_recent AsOld f bytes h = h

module _ (q : Queue) (contents : ℕ → List ℕ) (survives : AllSurvive q.disk contents) where
  pub after_file : Entry → Entry
  after_file y = record { number = y.number; file = settled (contents y.number) y.file }

  pub after_number : (y : Entry) → (after_file y).number ≡ y.number
  unfolding after_file
  after_number y = refl

  pub after_moment : (y : Entry) → (after_file y).file.moment ≡ y.file.moment
  unfolding after_file
  after_moment y = refl

  pub still_absent : (x : Name) → look q x ≡ None → look (after_halt contents q) x ≡ None
  still_absent x h = find_none q.disk.names _ x (not_found q.disk.names q.disk.files x h)

  was_absent : (x : Name) → look (after_halt contents q) x ≡ None → look q x ≡ None
  was_absent x h = find_none q.disk.names q.disk.files x (not_found q.disk.names _ x h)

  pub still_there : (x : Name) (y : Entry) → look q x ≡ Some y → look (after_halt contents q) x ≡ Some (after_file y)
  unfolding after_file
  still_there x y h =
      let w = found q.disk.names q.disk.files x y h in
      find_some q.disk.names _ x y.number w.0 ∙ ap (λ (z : Entry). Some (record { number = y.number; file = settled (contents y.number) z.file })) (sym w.1)

  was_there : (x : Name) (y : Entry) → look (after_halt contents q) x ≡ Some y → (z : Entry) × (look q x ≡ Some z) × (after_file z ≡ y)
  unfolding after_file
  was_there x y h =
      let w = found q.disk.names _ x y h in
      (entry q.disk.files y.number, find_some q.disk.names q.disk.files x y.number w.0, sym w.1)

  pub still_synced : (x : Name) (y : Entry) (text : List ℕ) → look q x ≡ Some y → IsSynced y.file text → IsSynced (after_file y).file text
  unfolding after_file
  still_synced x y text h synced =
      let w = found q.disk.names q.disk.files x y h in
      let s = survives _ y.number w.0 in
      settled_synced y.file (contents y.number) text synced (subst (λ (z : Entry). Survives z.file (contents y.number)) (sym w.1) s)

  lane_after : (n : ℕ) (i : Injection) (ch : Channel) → LaneState (about q n) i ch
      → LaneState (about (after_halt contents q) n) i ch
  unfolding after_file
  lane_after n i ch (LaneGone none all) = LaneGone (still_absent (Of (lane_part ch) n) none) all
  lane_after n i ch (LaneThere y there marked) =
      let w = found q.disk.names q.disk.files (Of (lane_part ch) n) y there in
      let s = survives _ y.number w.0 in
      LaneThere (after_file y) (still_there (Of (lane_part ch) n) y there)
      (marked_survives i ch y.file (contents y.number) marked (subst (λ (z : Entry). Survives z.file (contents y.number)) (sym w.1) s))

  -- the notes that a bounce file has stay
  notes_by : (n : ℕ) (i : Injection) (o : Option Entry) → look q (Of Bounce n) ≡ o → NotesState i (file_in o)
      → NotesState i (file_in (look (after_halt contents q) (Of Bounce n)))
  unfolding after_file
  notes_by n i None none (There f is has) = let w : ◌≡◌ {A = Option File} None (Some f) = is in absurd (cc)
  notes_by n i None none (Gone is settled) = Gone (ap file_in (still_absent (Of Bounce n) none)) settled
  notes_by n i (Some y) there (There f is has) =
      let w = found q.disk.names q.disk.files (Of Bounce n) y there in
      let s = survives _ y.number w.0 in
      let first : ◌≡◌ {A = Option File} (Some y.file) (Some f) = is in
      let same : y.file ≡ f = cc in
      let kept : HasNotes i y.file = subst (HasNotes i) (sym same) has in
      There (settled (contents y.number) y.file) (ap file_in (still_there (Of Bounce n) y there))
      (notes_stay.survives i (contents y.number) y.file kept (subst (λ (z : Entry). Survives z.file (contents y.number)) (sym w.1) s))
  notes_by n i (Some y) there (Gone is settled) = let w : ◌≡◌ {A = Option File} (Some y.file) None = is in absurd (cc)

  notes_after : (n : ℕ) (i : Injection) → NotesState i (file_in (look q (Of Bounce n)))
      → NotesState i (file_in (look (after_halt contents q) (Of Bounce n)))
  notes_after n i h = notes_by n i (look q (Of Bounce n)) refl h

  pub still_no_intd : (n : ℕ) → in_intd (about q n).parts ≡ None → in_intd (about (after_halt contents q) n).parts ≡ None
  still_no_intd n = intd_out (about q n).parts (about (after_halt contents q) n).parts (λ part is. still_absent (Of part n))

  pub still_no_todo : (n : ℕ) → in_todo (about q n).parts ≡ None → in_todo (about (after_halt contents q) n).parts ≡ None
  still_no_todo n = todo_out (about q n).parts (about (after_halt contents q) n).parts (λ part is. still_absent (Of part n))

  pub still_in_todo : (n : ℕ) (y : Entry) → in_todo (about q n).parts ≡ Some y → in_todo (about (after_halt contents q) n).parts ≡ Some (after_file y)
  still_in_todo n = todo_stays (about q n).parts (about (after_halt contents q) n).parts after_file
      (λ part is. still_absent (Of part n))
      (λ part y is. still_there (Of part n) y)

  pub still_todo_synced : (n : ℕ) (y : Entry) (text : List ℕ) → in_todo (about q n).parts ≡ Some y → IsSynced y.file text → IsSynced (after_file y).file text
  still_todo_synced n y text there = let at = todo_there (about q n).parts y there in still_synced (Of at.0 n) y text at.2

  phase_after : (n : ℕ) → Phase (about q n) → Phase (about (after_halt contents q) n)
  phase_after n (Free h) = Free (record {
    not_accepted = h.not_accepted;
    unsorted = λ part later. still_absent (Of part n) (h.unsorted part later);
    no_todo = still_no_todo n h.no_todo;
    intd_below = λ none. still_no_intd n (h.intd_below (was_absent (Of Mess n) none));
  })
  phase_after n (Queued h) = Queued (record {
    taken = record {
      injection = h.taken.injection;
      lives = h.taken.lives;
      accepted = h.taken.accepted;
      mess = after_file h.taken.mess;
      mess_there = still_there (Of Mess n) h.taken.mess h.taken.mess_there;
      message = still_synced (Of Mess n) h.taken.mess _ h.taken.mess_there h.taken.message;
      valid = h.taken.valid;
      spots = h.taken.spots;
    };
    todo = after_file h.todo;
    todo_there = still_in_todo n h.todo h.todo_there;
    text = still_todo_synced n h.todo _ h.todo_there h.text;
    no_bounce = still_absent (Of Bounce n) h.no_bounce;
    fresh = h.fresh;
  })
  phase_after n (Sorted h) = Sorted (record {
    taken = record {
      injection = h.taken.injection;
      lives = h.taken.lives;
      accepted = h.taken.accepted;
      mess = after_file h.taken.mess;
      mess_there = still_there (Of Mess n) h.taken.mess h.taken.mess_there;
      message = still_synced (Of Mess n) h.taken.mess _ h.taken.mess_there h.taken.message;
      valid = h.taken.valid;
      spots = h.taken.spots;
    };
    no_todo = still_no_todo n h.no_todo;
    no_intd = still_no_intd n h.no_intd;
    no_nul = h.no_nul;
    info = after_file h.info;
    info_there = still_there (Of Info n) h.info h.info_there;
    text = still_synced (Of Info n) h.info _ h.info_there h.text;
    lanes = λ ch. lane_after n h.taken.injection ch (h.lanes ch);
    notes = notes_after n h.taken.injection h.notes;
    unsettled = λ ch there. h.unsettled ch (λ none. there (still_absent (Of (lane_part ch) n) none));
  })
  phase_after n (Finished h) = Finished (record {
    injection = h.injection;
    lives = h.lives;
    accepted = h.accepted;
    message = λ y e.
        let w = was_there (Of Mess n) y e in
        subst (λ (z : Entry). IsSynced z.file (message_text h.injection.args).bytes) w.2 (still_synced (Of Mess n) w.0 _ w.1 (h.message w.0 w.1));
    no_todo = still_no_todo n h.no_todo;
    no_intd = still_no_intd n h.no_intd;
    unsorted = λ part later. still_absent (Of part n) (h.unsorted part later);
    settled = h.settled;
  })

  pub sound_after : Sound q → Sound (after_halt contents q)
  sound_after G = record {
    suits = λ x y h.
        let w = found q.disk.names _ x y h in
        let right = G.suits x (entry q.disk.files y.number) (find_some q.disk.names q.disk.files x y.number w.0) in
        let recent = settled_recent (q.role y.number) (q.disk.files y.number) (contents y.number) right.1 in
        (right.0, subst (λ (z : Entry). IsRecent z.file (q.role y.number)) (sym w.1) recent);
    fine = λ n. phase_after n (G.fine n);
    over = G.over;
  }

pub early_after : (q : Queue) (contents : ℕ → List ℕ) → IsEarly q → IsEarly (after_halt contents q)
early_after q contents e = record {
  unsorted = λ n part later. find_none q.disk.names _ (Of part n) (not_found q.disk.names q.disk.files (Of part n) (e.unsorted n part later));
  waits = λ n i lives t none. e.waits n i lives t
      (todo_out (about (after_halt contents q) n).parts (about q n).parts
      (λ part is gone. find_none q.disk.names q.disk.files (Of part n) (not_found q.disk.names _ (Of part n) gone)) none);
  none_over = e.none_over;
}

-- an injector that lived is stopped, and one that was over is so
pub injector_halt : (now : ℕ) (q : Queue) (contents : ℕ → List ℕ) (a : List ℕ) (args : Arguments) (past : List Own) (lives ended : Bool)
    → InjectorFares now q a args past lives ended → InjectorFares now (after_halt contents q) a args past false ended
injector_halt now q contents a args past lives ended F = record {
  stands = λ alive. absurd (off alive);
  queued = F.queued;
  ends = F.ends;
  reads = F.reads;
}
