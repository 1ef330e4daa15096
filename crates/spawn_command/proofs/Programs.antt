-- Which programs a spawner's past has, in the words of what runs it.
use Rattle.std.proofs.Common.{◌≡◌, ℕ, zero, suc, ◌<◌, ◌≤◌, List, [], ◌∷◌, length, set, get_or, replicate, Bool, true, false, ◌==◌, ◌&&◌, ◌||◌, not, refl, sym, ap, ◌∙◌, subst, arith, length-set}
use Rattle.std.proofs.lemmas.Bool.{false≢true}
use Rattle.std.proofs.lemmas.Bool.Decides.{Decides-eqb}
use Rattle.std.proofs.lemmas.List.{get_or-set_other, get_or_past, length-replicate}
use Rattle.call_fs.specs.declared.past.ChildData.{ChildData}
use Rattle.call_fs.specs.declared.past.ChildData.TheVariants as child
use Rattle.call_fs.specs.declared.past.GotData.{GotData}
use Rattle.call_fs.specs.declared.past.GotData.TheVariants as came
use Rattle.call_fs.specs.declared.past.NeedData.{NeedData}
use Rattle.call_fs.specs.declared.past.NeedData.TheVariants as needs
use Rattle.call_fs.specs.declared.past.Own.{Own}
use Rattle.call_fs.specs.declared.program.Port.TheVariants as port
use Rattle.program_runner.specs.Lines.{slot_of}
use Rattle.program_runner.specs.Programs.{has_program, program_after}
use Rattle.spawner_parts.specs.Asked.{runs_in}
use Rattle.spawner_parts.specs.Causes.{programs, programs_by}
use Rattle.spawner_parts.specs.Causes as causes

-- there are so many slots

long_by : (old : List Bool) (due : NeedData) (got : GotData) → length (programs_by old due got) ≡ length old
long_by old (needs.Start program) (came.Started pid) = length-set old (causes.slot_of program) true
long_by old (needs.Take (port.Status slot)) got = length-set old slot false
long_by old due got = refl

long : (past : List Own) → length (programs past) ≡ 120
long [] = length-replicate 120 false
long (event ∷ before) = long_by (programs before) event.due event.came ∙ long before

small_or_past : (slot n : ℕ) → (n ≤ slot → ⊥) → slot < n
small_or_past slot n h = grind (arith, h)

pub few_programs : (past : List Own) (slot : ℕ) → runs_in (programs past) slot ≡ true → slot < 120
few_programs past slot busy = small_or_past slot 120 (λ past_end.
    let l = long past in
    let over : length (programs past) ≤ slot = omega arith in
    false≢true (sym (get_or_past (programs past) slot false over) ∙ busy))

-- Each is a program of the past.

same_slot : (program : ChildData) → causes.slot_of program ≡ slot_of program
same_slot (child.Bounce room) = refl
same_slot (child.Forward uid room) = refl
same_slot (child.Local slot words uid) = refl
same_slot (child.Remote slot domain sender recipient) = refl

-- a slot was set
started : (slot d : ℕ) (old : List Bool) (b : Bool) → (runs_in old slot ≡ true → b ≡ true) → runs_in (set old d true) slot ≡ true → (d == slot) || b ≡ true
started slot d old b h busy = by (d == slot) refl where
  by : (x : Bool) → (d == slot) ≡ x → x || b ≡ true
  by true is = refl
  by false is = h (sym (get_or-set_other old d slot true false (λ e. false≢true (sym is ∙ (Decides-eqb d slot).1 (sym e)))) ∙ busy)

freed : (slot d : ℕ) (old : List Bool) (b : Bool) → (runs_in old slot ≡ true → b ≡ true) → runs_in (set old d false) slot ≡ true → not (d == slot) && b ≡ true
freed slot d old b h busy = by (d == slot) refl where
  by : (x : Bool) → (d == slot) ≡ x → not x && b ≡ true
  by false is = h (sym (get_or-set_other old d slot false false (λ e. false≢true (sym is ∙ (Decides-eqb d slot).1 (sym e)))) ∙ busy)
  by true is = absurd (false≢true (sym gone ∙ busy)) where
    same : d ≡ slot
    same = (Decides-eqb d slot).0 is

    none_set : (xs : List Bool) (k : ℕ) → get_or (set xs k false) k false ≡ false
    none_set [] k = refl
    none_set (x ∷ xs) zero = refl
    none_set (x ∷ xs) (suc k) = none_set xs k

    gone : runs_in (set old d false) slot ≡ false
    gone = ap (λ k. runs_in (set old k false) slot) same ∙ none_set old slot

keeps : (slot : ℕ) (old : List Bool) (b : Bool) (due : NeedData) (got : GotData) → (runs_in old slot ≡ true → b ≡ true) → runs_in (programs_by old due got) slot ≡ true → program_after slot b due got ≡ true
keeps slot old b (needs.Start program) (came.Started pid) h busy =
    subst (λ d. (d == slot) || b ≡ true) (same_slot program) (started slot (causes.slot_of program) old b h busy)
keeps slot old b (needs.Take (port.Status d)) got h busy = freed slot d old b h busy
keeps slot old b due got h busy = h busy

pub same_program : (slot : ℕ) (past : List Own) → runs_in (programs past) slot ≡ true → has_program slot past ≡ true
same_program slot [] busy = absurd (false≢true (sym (none slot) ∙ busy)) where
  none : (k : ℕ) → get_or (replicate 120 false) k false ≡ false
  none k = none_of 120 k where
    none_of : (n k : ℕ) → get_or (replicate n false) k false ≡ false
    none_of zero k = refl
    none_of (suc n) zero = refl
    none_of (suc n) (suc k) = none_of n k
same_program slot (event ∷ before) busy = keeps slot (programs before) (has_program slot before) event.due event.came (same_program slot before) busy
