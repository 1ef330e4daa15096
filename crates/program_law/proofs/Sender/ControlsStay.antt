-- Nobody changes a control file.
use Rattle.std.proofs.Common.{◌≡◌, ◌≢◌, ℕ, suc, ◌<◌, ◌≤◌, List, [], ◌∷◌, length, get_or, Option, Some, None, refl, sym, ap, ◌∙◌, subst, ⊎_elim, arith, slice_get, le_antisymm, option_map}
use Rattle.std.specs.Prelude.{map}
use Rattle.address_rules.specs.declared.control_file.ControlFile.{ControlFile}
use Rattle.address_rules.specs.declared.controls.Controls.{Controls}
use Rattle.address_rules.specs.Files.{all_files, controls_of, first_fault}
use Rattle.call_fs.specs.Disk.{Among, File, IsSynced}
use Rattle.call_fs.specs.Survival.{AllSurvive, HadAt, Survives}
use Rattle.queue_clean.specs.Table.{pid_path}
use Rattle.queue_paths.specs.Names.{Name, path}
use Rattle.queue_paths.specs.Names.Name.{Of, Pid}
use Rattle.queue_paths.specs.Names.Part.{Mess, Intd, Todo, Info, Local, Remote, Bounce, SplitIntd, SplitTodo}
use Rattle.send_parts.specs.Steps.{control_text}
use Rattle.queue_law.specs.Cleaners.{LeavesButPid}
use Rattle.queue_law.specs.Numbers.{Queue}
use Rattle.queue_law.specs.Steps.{IsForeignRole, LeavesOld, Outside, after_halt}
use Rattle.program_law.specs.Sender.Control.{AreControls, control_on, controls_on}
use Rattle.program_law.specs.Sender.ControlFiles.{AreOld, ControlsStay, LeavesControls}

-- Their names

heads : (x y : ℕ) (xs ys : List ℕ) → x ≢ y → ◌≢◌ {A = List ℕ} (x ∷ xs) (y ∷ ys)
heads x y xs ys far e = far (ap (λ t. get_or t 0 0) e)

not_theirs : (f : ControlFile) (x : Name) → path x ≢ control_text f
unfolding path
not_theirs f (Pid pid start seq) e = heads 112 99 _ _ (λ (w : 112 ≡ 99). absurd (omega arith)) e
not_theirs f (Of Mess n) e = heads 109 99 _ _ (λ (w : 109 ≡ 99). absurd (omega arith)) e
not_theirs f (Of Intd n) e = heads 105 99 _ _ (λ (w : 105 ≡ 99). absurd (omega arith)) e
not_theirs f (Of Todo n) e = heads 116 99 _ _ (λ (w : 116 ≡ 99). absurd (omega arith)) e
not_theirs f (Of Info n) e = heads 105 99 _ _ (λ (w : 105 ≡ 99). absurd (omega arith)) e
not_theirs f (Of Local n) e = heads 108 99 _ _ (λ (w : 108 ≡ 99). absurd (omega arith)) e
not_theirs f (Of Remote n) e = heads 114 99 _ _ (λ (w : 114 ≡ 99). absurd (omega arith)) e
not_theirs f (Of Bounce n) e = heads 98 99 _ _ (λ (w : 98 ≡ 99). absurd (omega arith)) e
not_theirs f (Of SplitIntd n) e = heads 105 99 _ _ (λ (w : 105 ≡ 99). absurd (omega arith)) e
not_theirs f (Of SplitTodo n) e = heads 116 99 _ _ (λ (w : 116 ≡ 99). absurd (omega arith)) e

not_in_pid : (f : ControlFile) (part : List ℕ) → control_text f ≢ pid_path part
not_in_pid f part e = heads 99 112 _ _ (λ (w : 99 ≡ 112). absurd (omega arith)) e

-- A step that leaves what isn't the queue's and what is old

left_by : (q r : Queue) → ((f : ControlFile) → r.disk.names (control_text f) ≡ q.disk.names (control_text f)) → LeavesOld q r → AreOld q → LeavesControls q r
left_by q r names left old =
    let files : (f : ControlFile) (i : ℕ) → q.disk.names (control_text f) ≡ Some i → r.disk.files i ≡ q.disk.files i =
    λ f i there. left.files (control_text f) i there (subst IsForeignRole (sym (old f i there).0) tt) in
    record {
      names = names;
      bytes = λ f i there. ap (λ (g : File). g.bytes) (files f i there);
      old = λ f i there.
          let before : q.disk.names (control_text f) ≡ Some i = sym (names f) ∙ there in
          let w = old f i before in
          (left.roles (control_text f) i before ∙ w.0, subst (λ (g : File). IsSynced g g.bytes) (sym (files f i before)) w.1);
    }

outside_leaves : (q r : Queue) → Outside q.disk r.disk → LeavesOld q r → AreOld q → LeavesControls q r
outside_leaves q r o = left_by q r (λ f. o.names (control_text f) (not_theirs f))

but_pid_leaves : (q r : Queue) → LeavesButPid q.disk r.disk → LeavesOld q r → AreOld q → LeavesControls q r
but_pid_leaves q r o = left_by q r (λ f.
    ⊎_elim (λ (same : r.disk.names (control_text f) ≡ q.disk.names (control_text f)). same) (λ gone. absurd (not_in_pid f gone.0 gone.1)) (o.names (control_text f) (not_theirs f)))

-- A machine stop

same_texts : (xs ys : List ℕ) → length xs ≡ length ys → ((k : ℕ) → k < length ys → slice_get xs k ≡ slice_get ys k) → xs ≡ ys
same_texts [] [] l h = refl
same_texts [] (y ∷ ys) l h = absurd (omega arith)
same_texts (x ∷ xs) [] l h = absurd (omega arith)
same_texts (x ∷ xs) (y ∷ ys) l h =
    let first : ◌≡◌ {A = Option ℕ} (Some x) (Some y) = h 0 (omega arith) in
    let head : x ≡ y = cc in
    let tail : xs ≡ ys = same_texts xs ys (omega arith) (λ k lt. h (suc k) (omega arith)) in
    λ i. head i ∷ tail i

synced_survives : (f : File) (bytes text : List ℕ) → IsSynced f text → Survives f bytes → bytes ≡ text
synced_survives f bytes text h s =
    let low : length text ≤ length bytes = omega (arith, h.no_shorter, s.no_shorter) in
    let high : length bytes ≤ length text = omega (arith, h.no_longer, s.no_longer) in
    let size : length f.kept ≡ length text = ap length h.all in
    same_texts bytes text (le_antisymm high low) (λ k lt. had k (slice_get bytes k) (s.below k (omega arith) (omega arith)))
  where
    had : (k : ℕ) (value : Option ℕ) → HadAt f k value → value ≡ slice_get text k
    had k value w = ⊎_elim
        (λ (kept : value ≡ slice_get f.kept k). kept ∙ ap (λ (t : List ℕ). slice_get t k) h.all)
        (λ given. absurd (subst (λ (places : List (ℕ × ℕ)). Among (k, given.0) places) h.none_given given.1))
        w

halts_leave : (q : Queue) (contents : ℕ → List ℕ) → AllSurvive q.disk contents → AreOld q → LeavesControls q (after_halt contents q)
halts_leave q contents all old = record {
  names = λ f. refl;
  bytes = λ f i there. synced_survives (q.disk.files i) (contents i) (q.disk.files i).bytes (old f i there).1 (all (control_text f) i there);
  old = λ f i there. ((old f i there).0, record { holds = refl; all = refl; none_given = refl; no_shorter = refl; no_longer = refl });
}

-- What they say

mapped_on : {A B : Type 0} (f g : A → B) (o : Option A) → ((x : A) → o ≡ Some x → f x ≡ g x) → option_map f o ≡ option_map g o
mapped_on f g None same = refl
mapped_on f g (Some x) same = ap Some (same x refl)

pub same_control : (q r : Queue) → LeavesControls q r → (f : ControlFile) → control_on r.disk f ≡ control_on q.disk f
same_control q r l f =
    ap (option_map (λ i. (r.disk.files i).bytes)) (l.names f)
    ∙ mapped_on (λ i. (r.disk.files i).bytes) (λ i. (q.disk.files i).bytes) (q.disk.names (control_text f)) (l.bytes f)

pub same_controls : (q r : Queue) → LeavesControls q r → controls_on r.disk ≡ controls_on q.disk
same_controls q r l =
    let same : control_on r.disk ≡ control_on q.disk = λ i f. same_control q r l f i in
    ap (λ (g : ControlFile → Option (List ℕ)). map g all_files) same

still_said : (controls : Controls) (q r : Queue) → LeavesControls q r → AreControls controls q.disk → AreControls controls r.disk
still_said controls q r l h =
    let same = same_controls q r l in
    record { no_nul = h.no_nul; say = λ none. ap controls_of same ∙ h.say (ap first_fault (sym same) ∙ none) }

pub controls_stay : ControlsStay
controls_stay = record { outside = outside_leaves; but_pid = but_pid_leaves; halts = halts_leave; said = still_said }
