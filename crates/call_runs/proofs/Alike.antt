-- Two disks in memory that hold the same answer alike.
use Rattle.std.proofs.Common.{◌≡◌, ◌≢◌, ◌↔◌, ℕ, List, [], ◌∷◌, length, drop, Bool, true, false, cond, Some, None, refl, sym, ap, ◌∙◌, subst, arith}
use Rattle.std.specs.Prelude.{Contains, slice_get}
use Rattle.std.proofs.lemmas.List.Elements.{All-head, All-tail}
use Rattle.mail_bytes.specs.Told.{raised}
use Rattle.call_fs.specs.declared.calls.FsError.TheVariants.{NotThere, Exists, Fault, Memory}
use Rattle.call_fs.specs.declared.calls.CallData.{CallData}
use Rattle.call_fs.specs.declared.calls.CallData.TheVariants as call
use Rattle.call_fs.specs.declared.calls.Answer.{Answer}
use Rattle.call_fs.specs.declared.calls.Answer.TheVariants as answer
use Rattle.call_fs.specs.declared.calls.Fd.{Fd}
use Rattle.call_fs.specs.declared.calls.Told.{Told}
use Rattle.call_fs.specs.Apply.{Fits, effect}
use Rattle.call_fs.specs.Disk.{Disk}
use Rattle.call_fs.specs.Plan.{Plan, Takes}
use Rattle.call_runs.specs.Running.{Runs}
use Rattle.mem_fs.specs.MemDisk.{Counts, Held, Planned, TakesNext, disk_of, is_fault}
use Rattle.crash_fs.specs.Answers.{Answers, FailsBy}
use Rattle.call_runs.specs.Forms.{AreAlike, HasMemory, Makes}
use Rattle.crash_fs.proofs.OneAnswer.{one_answer}
use Rattle.crash_fs.proofs.PlannedAnswers.{fits_unwritten}

-- ---- by which plan a call was answered

-- the plan by which just this call failed, or didn't, and by which the next pick was the next new file's number
abbrev plan_by : Bool → List ℕ → Plan
plan_by fault picks = record { fault = cond fault (Some 1) None; pick = slice_get picks 0 }

is_fault_tells : (a : Answer) → (a ≡ answer.Refused Fault) ↔ (is_fault a ≡ true)
is_fault_tells (answer.Created fd n) = (λ e. absurd (cc), λ e. absurd (cc))
is_fault_tells (answer.Opened fd) = (λ e. absurd (cc), λ e. absurd (cc))
is_fault_tells (answer.Count n) = (λ e. absurd (cc), λ e. absurd (cc))
is_fault_tells answer.Done = (λ e. absurd (cc), λ e. absurd (cc))
is_fault_tells (answer.Stat stat) = (λ e. absurd (cc), λ e. absurd (cc))
is_fault_tells (answer.Name name) = (λ e. absurd (cc), λ e. absurd (cc))
is_fault_tells answer.NoName = (λ e. absurd (cc), λ e. absurd (cc))
is_fault_tells (answer.Refused Fault) = (λ e. refl, λ e. refl)
is_fault_tells (answer.Refused NotThere) = (λ e. absurd (cc), λ e. absurd (cc))
is_fault_tells (answer.Refused Exists) = (λ e. absurd (cc), λ e. absurd (cc))
is_fault_tells (answer.Refused Memory) = (λ e. absurd (cc), λ e. absurd (cc))

fails_by : (a : Answer) (b : Bool) (picks : List ℕ) → is_fault a ≡ b → (a ≡ answer.Refused Fault) ↔ ((plan_by b picks).fault ≡ Some 1)
fails_by a true picks is = (λ e. refl, λ e. (is_fault_tells a).1 is)
fails_by a false picks is = (λ e. let yes = (is_fault_tells a).0 e in absurd (cc), λ e. absurd (cc))

takes_by : (d : Disk) (b : Bool) (picks left : List ℕ) (a : Answer) → TakesNext d None picks a left → Takes d (plan_by b picks).pick a
takes_by d b [] left (answer.Created fd n) t = (t.0, t.1.0)
takes_by d b (pick ∷ picks) left (answer.Created fd n) t = (t.0, t.1.0)
takes_by d b picks left (answer.Opened fd) t = t.0
takes_by d b picks left a t = tt

abbrev left_after : List ℕ → Answer → List ℕ
left_after picks (answer.Created fd n) = drop 1 picks
left_after picks a = picks

left_is : (d : Disk) (picks left : List ℕ) (a : Answer) → TakesNext d None picks a left → left ≡ left_after picks a
left_is d [] left (answer.Created fd n) t = t.1.1
left_is d (pick ∷ picks) left (answer.Created fd n) t = t.1.1
left_is d picks left (answer.Opened fd) t = t.1
left_is d picks left a t = t

-- how much a write wrote matters only if it failed
effect_unwritten : (d : Disk) (now : ℕ) (c : CallData) (a : Answer) (v w : ℕ) → is_fault a ≡ false → effect d now c a v ≡ effect d now c a w
effect_unwritten d now (call.CreateExcl name) (answer.Created fd n) v w h = refl
effect_unwritten d now (call.Open name how) (answer.Opened fd) v w h = refl
effect_unwritten d now (call.WriteAt fd at bytes) answer.Done v w h = refl
effect_unwritten d now (call.WriteAt fd at bytes) (answer.Refused Fault) v w h = absurd (cc)
effect_unwritten d now (call.Append fd bytes) answer.Done v w h = refl
effect_unwritten d now (call.Append fd bytes) (answer.Refused Fault) v w h = absurd (cc)
effect_unwritten d now (call.Truncate fd len) answer.Done v w h = refl
effect_unwritten d now (call.Sync fd) answer.Done v w h = refl
effect_unwritten d now (call.Close fd) answer.Done v w h = refl
effect_unwritten d now (call.Link old new) answer.Done v w h = refl
effect_unwritten d now (call.Unlink name) answer.Done v w h = refl
effect_unwritten d now c a v w h = refl

-- ---- a call

-- What both say of a call that isn't a close; of a close the plan isn't asked. The three steps: it was answered by the plan
-- above, so by `one_answer` the answers are one; then what it leaves is one.
counted : (b : Bool) (old new : Planned) (now : ℕ) (c : CallData) (got : Told) → Makes old now c got new → Counts old new None got.answer → is_fault got.answer ≡ b → got.answer ≢ answer.Refused Memory
    → (FailsBy c (plan_by b old.picks) got.answer) → Answers (plan_by b old.picks) (disk_of old.held) c got
counted b old new now c got makes counts is memory fails = record {
  fits = let went = makes.went.told in fits_unwritten (disk_of old.held) c got.answer went.0 went.1;
  bytes = makes.went.read;
  fails = fails;
  takes = takes_by (disk_of old.held) b old.picks new.picks got.answer counts.takes;
  no_memory = memory;
}

-- what two disks that were alike hold after one answer of a call that left no doubt
held_unwritten : (a b c d : Planned) (now : ℕ) (call : CallData) (x y : Told) → AreAlike a b → Makes a now call x c → Makes b now call y d → x ≡ y → is_fault x.answer ≡ false → disk_of c.held ≡ disk_of d.held
held_unwritten a b c d now call x y alike mx my same unfailed =
    let first = mx.went.told in
    let second = my.went.told in
    first.2
    ∙ effect_unwritten (disk_of a.held) now call x.answer first.0 second.0 unfailed
    ∙ ap (λ (h : Disk). effect h now call x.answer second.0) alike.held
    ∙ ap (λ (t : Told). effect (disk_of b.held) now call t.answer second.0) same
    ∙ sym second.2

held_alike : (a b c d : Planned) (now : ℕ) (call : CallData) (x y : Told) → AreAlike a b → Makes a now call x c → Makes b now call y d → Counts a c None x.answer → Counts b d None y.answer → x ≡ y → disk_of c.held ≡ disk_of d.held
held_alike a b c d now call x y alike mx my cx cy same = by (is_fault x.answer) refl
  where
    by : (t : Bool) → is_fault x.answer ≡ t → disk_of c.held ≡ disk_of d.held
    by true is =
        let first : c.held ≡ a.held = cx.nothing_done is in
        let second : d.held ≡ b.held = cy.nothing_done (ap (λ (t : Told). is_fault t.answer) (sym same) ∙ is) in
        ap (λ (h : Held). disk_of h) first ∙ alike.held ∙ sym (ap (λ (h : Held). disk_of h) second)
    by false is = held_unwritten a b c d now call x y alike mx my same is

-- what is left of two disks that were alike and gave a call one answer
left_alike : (a b c d : Planned) (now : ℕ) (call : CallData) (x y : Told) → AreAlike a b → Makes a now call x c → Makes b now call y d → Counts a c None x.answer → Counts b d None y.answer → x ≡ y → AreAlike c d
left_alike a b c d now call x y alike mx my cx cy same = record {
  held = held_alike a b c d now call x y alike mx my cx cy same;
  picks =
      left_is (disk_of a.held) a.picks c.picks x.answer cx.takes
      ∙ ap (λ (l : List ℕ). left_after l x.answer) alike.picks
      ∙ ap (λ (t : Told). left_after b.picks t.answer) same
      ∙ sym (left_is (disk_of b.held) b.picks d.picks y.answer cy.takes);
  plan = cx.plan ∙ alike.plan ∙ sym cy.plan;
  made = cx.made ∙ ap raised alike.made ∙ sym cy.made;
  faults =
      cx.faults
      ∙ ap (λ (n : ℕ). cond (is_fault x.answer) (raised n) n) alike.faults
      ∙ ap (λ (t : Told). cond (is_fault t.answer) (raised b.faults) b.faults) same
      ∙ sym cy.faults;
}

same_bool : (p q : Bool) → (p ≡ true → q ≡ true) → (q ≡ true → p ≡ true) → p ≡ q
same_bool true q f g = sym (f refl)
same_bool false true f g = g refl
same_bool false false f g = refl

one_counted : (a b c d : Planned) (now : ℕ) (call : CallData) (x y : Told) → AreAlike a b → Makes a now call x c → Makes b now call y d → Counts a c None x.answer → Counts b d None y.answer
    → ((t : Answer) (b : Bool) (picks : List ℕ) → is_fault t ≡ b → FailsBy call (plan_by b picks) t) → x.answer ≢ answer.Refused Memory → y.answer ≢ answer.Refused Memory → (x ≡ y) × AreAlike c d
one_counted a b c d now call x y alike mx my cx cy fails no_x no_y =
    let planned : Contains a.plan (raised a.made) ↔ Contains b.plan (raised b.made) = (
      λ h. subst (λ (l : List ℕ). Contains l (raised b.made)) alike.plan (subst (λ (n : ℕ). Contains a.plan (raised n)) alike.made h),
      λ h. subst (λ (l : List ℕ). Contains l (raised a.made)) (sym alike.plan) (subst (λ (n : ℕ). Contains b.plan (raised n)) (sym alike.made) h),
    ) in
    let both : is_fault x.answer ≡ is_fault y.answer = same_bool (is_fault x.answer) (is_fault y.answer) (λ h. cy.planned.1 (planned.0 (cx.planned.0 h))) (λ h. cx.planned.1 (planned.1 (cy.planned.0 h))) in
    let first = counted (is_fault x.answer) a c now call x mx cx refl no_x (fails x.answer (is_fault x.answer) a.picks refl) in
    let second = counted (is_fault x.answer) b d now call y my cy (sym both) no_y (fails y.answer (is_fault x.answer) b.picks (sym both)) in
    let here : Answers (plan_by (is_fault x.answer) a.picks) (disk_of a.held) call y =
    subst (λ (l : List ℕ). Answers (plan_by (is_fault x.answer) l) (disk_of a.held) call y) (sym alike.picks)
    (subst (λ (h : Disk). Answers (plan_by (is_fault x.answer) b.picks) h call y) (sym alike.held) second) in
    let same : x ≡ y = one_answer (plan_by (is_fault x.answer) a.picks) (disk_of a.held) call x y first here in
    (same, left_alike a b c d now call x y alike mx my cx cy same)

-- a close is done
close_done : (d : Disk) (fd : Fd) (a : Answer) (w : ℕ) → Fits d (call.Close fd) a w → a ≡ answer.Done
close_done d fd answer.Done w fits = refl
close_done d fd a w fits = absurd fits

closes : (old new : Planned) (now : ℕ) (fd : Fd) (got : Told) → Makes old now (call.Close fd) got new → got.answer ≢ answer.Refused Memory → Answers (plan_by false []) (disk_of old.held) (call.Close fd) got
closes old new now fd got makes memory =
    let went = makes.went.told in
    let done : got.answer ≡ answer.Done = close_done (disk_of old.held) fd got.answer went.0 went.1 in
    record {
      fits = fits_unwritten (disk_of old.held) (call.Close fd) got.answer went.0 went.1;
      bytes = makes.went.read;
      fails = λ e. absurd (cc);
      takes = subst (λ (t : Answer). Takes (disk_of old.held) None t) (sym done) tt;
      no_memory = memory;
    }

one_close : (a b c d : Planned) (now : ℕ) (fd : Fd) (x y : Told) → AreAlike a b → Makes a now (call.Close fd) x c → Makes b now (call.Close fd) y d → x.answer ≢ answer.Refused Memory → y.answer ≢ answer.Refused Memory
    → (x ≡ y) × AreAlike c d
one_close a b c d now fd x y alike mx my no_x no_y =
    let first = closes a c now fd x mx no_x in
    let second = subst (λ (h : Disk). Answers (plan_by false []) h (call.Close fd) y) (sym alike.held) (closes b d now fd y my no_y) in
    let same : x ≡ y = one_answer (plan_by false []) (disk_of a.held) (call.Close fd) x y first second in
    let went = mx.went.told in
    let no : is_fault x.answer ≡ false = ap (λ (t : Answer). is_fault t) (close_done (disk_of a.held) fd x.answer went.0 went.1) in (
      same,
      record {
        held = held_unwritten a b c d now (call.Close fd) x y alike mx my same no;
        picks = ap (λ (p : Planned). p.picks) mx.counts ∙ alike.picks ∙ sym (ap (λ (p : Planned). p.picks) my.counts);
        plan = ap (λ (p : Planned). p.plan) mx.counts ∙ alike.plan ∙ sym (ap (λ (p : Planned). p.plan) my.counts);
        made = ap (λ (p : Planned). p.made) mx.counts ∙ alike.made ∙ sym (ap (λ (p : Planned). p.made) my.counts);
        faults = ap (λ (p : Planned). p.faults) mx.counts ∙ alike.faults ∙ sym (ap (λ (p : Planned). p.faults) my.counts);
      },
    )

pub one_call : (a b c d : Planned) (now : ℕ) (call : CallData) (x y : Told) → AreAlike a b → Makes a now call x c → Makes b now call y d → x.answer ≢ answer.Refused Memory → y.answer ≢ answer.Refused Memory → (x ≡ y) × AreAlike c d
one_call a b c d now (call.Close fd) x y alike mx my no_x no_y = one_close a b c d now fd x y alike mx my no_x no_y
one_call a b c d now call x y alike mx my no_x no_y = one_counted a b c d now call x y alike mx my mx.counts my.counts fails_by no_x no_y

-- ---- a list of calls

pub all_calls : (a b c d : Planned) (calls : List (ℕ × CallData)) (xs ys : List Told) → AreAlike a b → Runs Makes a calls xs c → Runs Makes b calls ys d → length xs ≡ length ys → HasMemory xs → HasMemory ys
    → (xs ≡ ys) × AreAlike c d
all_calls a b c d calls [] [] alike rx ry same hx hy = (refl, subst (λ (p : Planned). AreAlike p d) (sym rx) (subst (λ (p : Planned). AreAlike a p) (sym ry) alike))
all_calls a b c d calls [] (y ∷ ys) alike rx ry same hx hy = absurd (omega (arith, same))
all_calls a b c d calls (x ∷ xs) [] alike rx ry same hx hy = absurd (omega (arith, same))
all_calls a b c d [] (x ∷ xs) (y ∷ ys) alike rx ry same hx hy = absurd rx
all_calls a b c d (call ∷ calls) (x ∷ xs) (y ∷ ys) alike (m, one, rest) (n, other, others) same hx hy =
    let first = one_call a b m n call.0 call.1 x y alike one other (All-head (λ got. got.answer ≢ answer.Refused Memory) x xs hx) (All-head (λ got. got.answer ≢ answer.Refused Memory) y ys hy) in
    let later = all_calls m n c d calls xs ys first.1 rest others (omega (arith, same)) (All-tail (λ got. got.answer ≢ answer.Refused Memory) x xs hx) (All-tail (λ got. got.answer ≢ answer.Refused Memory) y ys hy) in
    (ap (λ (t : Told). t ∷ xs) first.0 ∙ ap (λ (l : List Told). y ∷ l) later.0, later.1)
