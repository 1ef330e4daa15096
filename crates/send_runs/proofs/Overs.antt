-- On which messages a channel has nothing in flight and nothing to mark, and what its account then says.
use Rattle.std.proofs.Common.{◌≡◌, ℕ, zero, suc, List, [], ◌∷◌, ◌++◌, set, drop, map, Bool, true, false, not, if◌then◌else◌, Option, Some, None, refl, sym, ap, ◌∙◌, eqb-true, eq-eqb}
use Rattle.std.specs.Prelude.{◌&&◌, ◌||◌, ◌==◌, is_none, slice_get}
use Rattle.std.specs.List.{list_any}
use Rattle.std.specs.Option.{option_map}
use Rattle.send_core.specs.Agrees.{Agrees, owed_at, task_of, unopened}
use Rattle.send_core.specs.Past.{Account, Owed, Task}
use Rattle.send_jobs.specs.declared.attempts.Attempt.{Attempt}
use Rattle.send_jobs.specs.declared.attempts.Mark.{Mark}
use Rattle.send_jobs.specs.declared.jobs.Job.{Job}
use Rattle.send_jobs.specs.declared.lane.Lane.{Lane}
use Rattle.send_jobs.specs.Jobs.{job_of}
use Rattle.send_jobs.specs.Lanes.{is_free_for, is_in_flight, is_mark_on, is_open_on, job_over, next}
use Rattle.send_jobs.specs.Slots.{attempt_in, is_on}
use Rattle.send_runs.specs.DueMoments.{Flies, IsOver, is_owed}
use Rattle.send_runs.proofs.Quiet.{differs}

-- Lists

any_or : (b x y : Bool) → (x ≡ false → y ≡ false) → (b || x) ≡ false → (b || y) ≡ false
any_or true x y f e = absurd (cc)
any_or false x y f e = f e

any_more : {X : Type 0} (p : X → Bool) (xs : List X) (x : X) → p x ≡ false → list_any p xs ≡ false → list_any p (xs ++ x ∷ []) ≡ false
any_more p [] x e h = ap (λ (b : Bool). b || false) e
any_more p (y ∷ ys) x e h = any_or (p y) (list_any p ys) (list_any p (ys ++ x ∷ [])) (any_more p ys x e) h

any_rest : (b x : Bool) → (b || x) ≡ false → x ≡ false
any_rest true x e = absurd (cc)
any_rest false x e = e

any_drop : {X : Type 0} (p : X → Bool) (xs : List X) → list_any p xs ≡ false → list_any p (drop 1 xs) ≡ false
any_drop p [] h = h
any_drop p (x ∷ xs) h = any_rest (p x) (list_any p xs) h

-- Slots

flies_one : (n : ℕ) (s : Option Attempt) (a : Attempt) → s ≡ Some a → a.n ≡ n → is_on n s ≡ true
flies_one n s a e same = ap (is_on n) e ∙ eq-eqb a.n n same

pub none_on : (n : ℕ) (slots : List (Option Attempt)) (i : ℕ) (a : Attempt) → list_any (is_on n) slots ≡ false → attempt_in slots i ≡ Some a → a.n ≡ n → ⊥
none_on n [] i a none e same = absurd (cc)
none_on n (s ∷ slots) zero a none e same = by (is_on n s) (flies_one n s a e same) none where
  by : (b : Bool) → b ≡ true → (b || list_any (is_on n) slots) ≡ false → ⊥
  by true e h = absurd (cc)
  by false e h = absurd (cc)
none_on n (s ∷ slots) (suc i) a none e same = none_on n slots i a (any_rest (is_on n s) (list_any (is_on n) slots) none) e same

pub record SomeOn (n : ℕ) (slots : List (Option Attempt)) : Type 0 where
  pub slot : ℕ
  pub a : Attempt
  pub there : attempt_in slots slot ≡ Some a
  pub same : a.n ≡ n

some_on : (n : ℕ) (slots : List (Option Attempt)) → list_any (is_on n) slots ≡ true → SomeOn n slots
some_on n [] e = absurd (cc)
some_on n (None ∷ slots) e = let it : SomeOn n slots = some_on n slots e in record { slot = suc it.slot; a = it.a; there = it.there; same = it.same }
some_on n (Some a ∷ slots) e = by (a.n == n) refl e (some_on n slots) where
  by : (b : Bool) → (a.n == n) ≡ b → (b || list_any (is_on n) slots) ≡ true → (list_any (is_on n) slots ≡ true → SomeOn n slots) → SomeOn n (Some a ∷ slots)
  by true is e later = record { slot = 0; a = a; there = refl; same = eqb-true a.n n is }
  by false is e later = let it : SomeOn n slots = later e in record { slot = suc it.slot; a = it.a; there = it.there; same = it.same }

pub freed : (slots : List (Option Attempt)) (slot k : ℕ) (x : Attempt) → attempt_in (set slots slot None) k ≡ Some x → attempt_in slots k ≡ Some x
freed [] slot k x there = there
freed (s ∷ slots) zero zero x there = absurd (cc)
freed (s ∷ slots) zero (suc k) x there = there
freed (s ∷ slots) (suc slot) zero x there = there
freed (s ∷ slots) (suc slot) (suc k) x there = freed slots slot k x there

-- A channel

-- nothing of this message is in flight
abbrev pub NoneFlies : ℕ → List (Option Attempt) → Type 0
NoneFlies n slots = (slot : ℕ) (a : Attempt) → attempt_in slots slot ≡ Some a → a.n ≡ n → ⊥

-- and nothing is to be marked
abbrev pub HasNone : ℕ → Lane → Type 0
HasNone n l = NoneFlies n l.slots × (list_any (is_mark_on n) l.marks ≡ false)

over_parts : (begun flies marks : Bool) (o : Option Job) (job : Job) → (if (not begun && not flies) && not marks then o else None) ≡ Some job → (flies ≡ false) × (marks ≡ false)
over_parts false false false o job e = (refl, refl)
over_parts false false true o job e = absurd (cc)
over_parts false true marks o job e = absurd (cc)
over_parts true flies marks o job e = absurd (cc)

pub none_when_over : (n : ℕ) (l : Lane) (job : Job) → job_over n l ≡ Some job → HasNone n l
none_when_over n l job e =
    let w = over_parts (is_open_on n l) (is_in_flight n l) (list_any (is_mark_on n) l.marks) (job_of n l.jobs) job e in
    ((λ slot a there same. none_on n l.slots slot a w.0 there same), w.1)

pub none_freed : (n slot : ℕ) (slots : List (Option Attempt)) → NoneFlies n slots → NoneFlies n (set slots slot None)
none_freed n slot slots h k a there same = h k a (freed slots slot k a there) same

pub marks_drop : (n : ℕ) (marks : List Mark) → list_any (is_mark_on n) marks ≡ false → list_any (is_mark_on n) (drop 1 marks) ≡ false
marks_drop n marks h = any_drop (is_mark_on n) marks h

pub marks_more : (n slot : ℕ) (l : Lane) (m : Mark) → attempt_in l.slots slot ≡ Some m.attempt → HasNone n l → list_any (is_mark_on n) (l.marks ++ m ∷ []) ≡ false
marks_more n slot l m there h = any_more (is_mark_on n) l.marks m (differs n m.attempt.n (λ same. h.0 slot m.attempt there (sym same))) h.1

free_parts : (b begun flies : Bool) → (b && (not begun && not flies)) ≡ true → flies ≡ false
free_parts true false false e = refl
free_parts true false true e = absurd (cc)
free_parts true true flies e = absurd (cc)
free_parts false begun flies e = absurd (cc)

busy_parts : (flies : Bool) → (not flies) ≡ false → flies ≡ true
busy_parts true e = refl
busy_parts false e = absurd (cc)

-- Its account

abbrev number_in : Option Task → ℕ
number_in None = 0
number_in (Some t) = t.n

module _ (n : ℕ) (l : Lane) (a : Account) (agrees : (slot : ℕ) → option_map task_of (attempt_in l.slots slot) ≡ a.in_flight slot) where
  not_flying : NoneFlies n l.slots → Flies n a → ⊥
  not_flying none h = by (attempt_in l.slots h.0) refl (agrees h.0 ∙ h.2) where
    by : (o : Option Attempt) → attempt_in l.slots h.0 ≡ o → option_map task_of o ≡ Some h.1 → ⊥
    by None there e = absurd (cc)
    by (Some x) there e = none h.0 x there (ap number_in e ∙ h.3)

  -- when no pass is open, it is free for a message if no attempt at that is in flight, and else not
  pub free_flies : is_free_for n l ≡ true → Flies n a → ⊥
  free_flies e = not_flying (λ slot x there same. none_on n l.slots slot x (parts e) there same) where
    parts : is_free_for n l ≡ true → is_in_flight n l ≡ false
    parts e = free_parts (is_none (next l)) (is_open_on n l) (is_in_flight n l) e

  some_flies : is_in_flight n l ≡ true → Flies n a
  some_flies e = let it : SomeOn n l.slots = some_on n l.slots e in (it.slot, task_of it.a, sym (agrees it.slot) ∙ ap (λ (o : Option Attempt). option_map task_of o) it.there, it.same)

  pub busy_flies : l.left ≡ [] → is_free_for n l ≡ false → Flies n a
  busy_flies none e =
      let first : next l ≡ None = ap (λ (left : List Attempt). slice_get left 0) none in
      some_flies (busy_parts (is_in_flight n l) (sym (ap (λ (o : Option Attempt). is_none o && (not (is_on n o) && not (is_in_flight n l))) first) ∙ e))

pub owed_any : (n : ℕ) (marks : List Mark) → list_any (is_owed n) (map owed_at marks) ≡ list_any (is_mark_on n) marks
owed_any n [] = refl
owed_any n (m ∷ marks) = ap (λ (b : Bool). (m.attempt.n == n) || b) (owed_any n marks)

unopened_none : (n : ℕ) (at_work : Bool) (marks : List Mark) → list_any (is_mark_on n) marks ≡ false → list_any (is_mark_on n) (unopened at_work marks) ≡ false
unopened_none n true marks h = marks_drop n marks h
unopened_none n false marks h = h

pub over_of : (n : ℕ) (a : Account) (at_work : Bool) (l : Lane) → Agrees a at_work l → HasNone n l → IsOver n a
over_of n a at_work l it h = (
  not_flying n l a it.in_flight h.0,
  ap (λ (os : List Owed). list_any (is_owed n) os) (sym it.to_mark) ∙ owed_any n (unopened at_work l.marks) ∙ unopened_none n at_work l.marks h.1,
)
