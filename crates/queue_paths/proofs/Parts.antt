-- What is there of a number in intd and in todo, by its names: what passes it on, whichever names it has.
use Rattle.std.proofs.Common.{◌≡◌, ◌≢◌, ℕ, Bool, true, false, Option, Some, None, refl, sym, ap, ◌∙◌}
use Rattle.std.specs.Prelude.{◌||◌, is_some, option_map}
use Rattle.std.specs.Option.{option_or}
use Rattle.queue_paths.specs.Names.{Name, Part}
use Rattle.queue_paths.specs.Names.Name.{Pid, Of}
use Rattle.queue_paths.specs.Names.Part.{Intd, Todo, SplitIntd, SplitTodo}
use Rattle.queue_paths.specs.Parts.{is_intd, is_todo, in_intd, in_todo, parts_of, IsOneOf, WaitsAreNamed}

off : false ≡ true → ⊥
off e = cc

-- a name in intd or in todo is no name of another kind
pub intd_far : (part other : Part) → is_intd part ≡ true → is_intd other ≡ false → part ≢ other
intd_far part other is far same = off (sym far ∙ sym (ap is_intd same) ∙ is)

pub todo_far : (part other : Part) → is_todo part ≡ true → is_todo other ≡ false → part ≢ other
todo_far part other is far same = off (sym far ∙ sym (ap is_todo same) ∙ is)

abbrev pub is_intd_name : Name → Bool
is_intd_name (Pid pid start seq) = false
is_intd_name (Of part n) = is_intd part

abbrev pub is_todo_name : Name → Bool
is_todo_name (Pid pid start seq) = false
is_todo_name (Of part n) = is_todo part

pub intd_apart : (part : Part) (n : ℕ) (x : Name) → is_intd part ≡ true → is_intd_name x ≡ false → Of part n ≢ x
intd_apart part n x is far same = off (sym far ∙ sym (ap is_intd_name same) ∙ is)

pub todo_apart : (part : Part) (n : ℕ) (x : Name) → is_todo part ≡ true → is_todo_name x ≡ false → Of part n ≢ x
todo_apart part n x is far same = off (sym far ∙ sym (ap is_todo_name same) ∙ is)

-- none of the names is there, or one is

or_none : {V : Type 0} (a b : Option V) → option_or a b ≡ None → (a ≡ None) × (b ≡ None)
or_none None b e = (refl, e)
or_none (Some y) b e = absurd (cc)

or_nothing : {V : Type 0} (a : Option V) → option_or a None ≡ a
or_nothing None = refl
or_nothing (Some y) = refl

or_some : {V : Type 0} (a b : Option V) → is_some (option_or a b) ≡ is_some a || is_some b
or_some None b = refl
or_some (Some y) b = refl

module _ {V : Type 0} (has : Part → Option V) where
  pub intd_missing : in_intd has ≡ None → (part : Part) → is_intd part ≡ true → has part ≡ None
  unfolding in_intd
  intd_missing none Intd is = (or_none (has Intd) (has SplitIntd) none).0
  intd_missing none SplitIntd is = (or_none (has Intd) (has SplitIntd) none).1
  intd_missing none other is = absurd (off is)

  pub intd_none : ((part : Part) → is_intd part ≡ true → has part ≡ None) → in_intd has ≡ None
  unfolding in_intd
  intd_none all = ap (λ o. option_or o (has SplitIntd)) (all Intd refl) ∙ all SplitIntd refl

  -- one name of each: only what makes or takes a name says which
  pub intd_flat : (y : V) → has Intd ≡ Some y → in_intd has ≡ Some y
  unfolding in_intd
  intd_flat y there = ap (λ o. option_or o (has SplitIntd)) there

  pub intd_split : has Intd ≡ None → in_intd has ≡ has SplitIntd
  unfolding in_intd
  intd_split none = ap (λ o. option_or o (has SplitIntd)) none

  pub intd_alone : has SplitIntd ≡ None → in_intd has ≡ has Intd
  unfolding in_intd
  intd_alone none = ap (option_or (has Intd)) none ∙ or_nothing (has Intd)

  pub intd_some : is_some (in_intd has) ≡ is_some (has Intd) || is_some (has SplitIntd)
  unfolding in_intd
  intd_some = or_some (has Intd) (has SplitIntd)

  intd_there_at : (y : V) (o : Option V) → has Intd ≡ o → option_or o (has SplitIntd) ≡ Some y → (part : Part) × (is_intd part ≡ true) × (has part ≡ Some y)
  intd_there_at y None is there = (SplitIntd, refl, there)
  intd_there_at y (Some x) is there = (Intd, refl, is ∙ there)

  pub intd_there : (y : V) → in_intd has ≡ Some y → (part : Part) × (is_intd part ≡ true) × (has part ≡ Some y)
  unfolding in_intd
  intd_there y there = intd_there_at y (has Intd) refl there

  pub todo_missing : in_todo has ≡ None → (part : Part) → is_todo part ≡ true → has part ≡ None
  unfolding in_todo
  todo_missing none Todo is = (or_none (has Todo) (has SplitTodo) none).0
  todo_missing none SplitTodo is = (or_none (has Todo) (has SplitTodo) none).1
  todo_missing none other is = absurd (off is)

  pub todo_none : ((part : Part) → is_todo part ≡ true → has part ≡ None) → in_todo has ≡ None
  unfolding in_todo
  todo_none all = ap (λ o. option_or o (has SplitTodo)) (all Todo refl) ∙ all SplitTodo refl

  pub todo_flat : (y : V) → has Todo ≡ Some y → in_todo has ≡ Some y
  unfolding in_todo
  todo_flat y there = ap (λ o. option_or o (has SplitTodo)) there

  pub todo_split : has Todo ≡ None → in_todo has ≡ has SplitTodo
  unfolding in_todo
  todo_split none = ap (λ o. option_or o (has SplitTodo)) none

  pub todo_alone : has SplitTodo ≡ None → in_todo has ≡ has Todo
  unfolding in_todo
  todo_alone none = ap (option_or (has Todo)) none ∙ or_nothing (has Todo)

  pub todo_some : is_some (in_todo has) ≡ is_some (has Todo) || is_some (has SplitTodo)
  unfolding in_todo
  todo_some = or_some (has Todo) (has SplitTodo)

  todo_there_at : (y : V) (o : Option V) → has Todo ≡ o → option_or o (has SplitTodo) ≡ Some y → (part : Part) × (is_todo part ≡ true) × (has part ≡ Some y)
  todo_there_at y None is there = (SplitTodo, refl, there)
  todo_there_at y (Some x) is there = (Todo, refl, is ∙ there)

  pub todo_there : (y : V) → in_todo has ≡ Some y → (part : Part) × (is_todo part ≡ true) × (has part ≡ Some y)
  unfolding in_todo
  todo_there y there = todo_there_at y (has Todo) refl there

-- what isn't there stays so, and what is there leads to what this makes of it, if so it is with each name
or_stays : {V W : Type 0} (f : V → W) (a b : Option V) (c d : Option W) → (a ≡ None → c ≡ None) → ((y : V) → a ≡ Some y → c ≡ Some (f y)) → ((y : V) → b ≡ Some y → d ≡ Some (f y))
    → (y : V) → option_or a b ≡ Some y → option_or c d ≡ Some (f y)
or_stays f None b c d out first second y there = ap (λ o. option_or o d) (out refl) ∙ second y there
or_stays f (Some x) b c d out first second y there = ap (λ o. option_or o d) (first x refl) ∙ ap (option_map f) there

module _ {V W : Type 0} (has : Part → Option V) (new : Part → Option W) where
  pub intd_out : ((part : Part) → is_intd part ≡ true → has part ≡ None → new part ≡ None) → in_intd has ≡ None → in_intd new ≡ None
  intd_out each none = intd_none new (λ part is. each part is (intd_missing has none part is))

  pub todo_out : ((part : Part) → is_todo part ≡ true → has part ≡ None → new part ≡ None) → in_todo has ≡ None → in_todo new ≡ None
  todo_out each none = todo_none new (λ part is. each part is (todo_missing has none part is))

  pub intd_stays : (f : V → W) → ((part : Part) → is_intd part ≡ true → has part ≡ None → new part ≡ None)
      → ((part : Part) (y : V) → is_intd part ≡ true → has part ≡ Some y → new part ≡ Some (f y)) → (y : V) → in_intd has ≡ Some y → in_intd new ≡ Some (f y)
  unfolding in_intd
  intd_stays f out each y there = or_stays f (has Intd) (has SplitIntd) (new Intd) (new SplitIntd) (out Intd refl) (λ y. each Intd y refl) (λ y. each SplitIntd y refl) y there

  pub todo_stays : (f : V → W) → ((part : Part) → is_todo part ≡ true → has part ≡ None → new part ≡ None)
      → ((part : Part) (y : V) → is_todo part ≡ true → has part ≡ Some y → new part ≡ Some (f y)) → (y : V) → in_todo has ≡ Some y → in_todo new ≡ Some (f y)
  unfolding in_todo
  todo_stays f out each y there = or_stays f (has Todo) (has SplitTodo) (new Todo) (new SplitTodo) (out Todo refl) (λ y. each Todo y refl) (λ y. each SplitTodo y refl) y there

module _ {V : Type 0} (has new : Part → Option V) where
  pub intd_same : ((part : Part) → is_intd part ≡ true → new part ≡ has part) → in_intd new ≡ in_intd has
  unfolding in_intd
  intd_same each = ap (option_or (new Intd)) (each SplitIntd refl) ∙ ap (λ o. option_or o (has SplitIntd)) (each Intd refl)

  pub todo_same : ((part : Part) → is_todo part ≡ true → new part ≡ has part) → in_todo new ≡ in_todo has
  unfolding in_todo
  todo_same each = ap (option_or (new Todo)) (each SplitTodo refl) ∙ ap (λ o. option_or o (has SplitTodo)) (each Todo refl)

pub waits : WaitsAreNamed
waits = record {
  intd = λ names n. record { missing = (intd_missing (parts_of names n), intd_none (parts_of names n)); there = intd_there (parts_of names n) };
  todo = λ names n. record { missing = (todo_missing (parts_of names n), todo_none (parts_of names n)); there = todo_there (parts_of names n) };
}
