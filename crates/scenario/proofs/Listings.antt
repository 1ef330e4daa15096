-- A disk with finitely many names has the list of a directory, and that of the numbers that aren't in S1.
use Rattle.std.proofs.Common.{◌≡◌, ◌≢◌, inl, inr, ⊎_elim, ℕ, ◌<◌, ◌≤◌, ◌^◌, List, [], ◌∷◌, Contains, nat_cmp, Option, Some, None, IsTrue, refl, sym, ap, ◌∙◌, subst}
use Rattle.std.proofs.lemmas.Cmp.{nat_cmp_total}
use Rattle.std.proofs.lemmas.List.Elements.{All-weaker, All-contains_itself}
use Rattle.call_fs.specs.Disk.{Disk, Among}
use Rattle.call_fs.specs.Choices.{AreNamed}
use Rattle.queue_paths.specs.Names.{Name, Part, path, parse, is_number}
use Rattle.queue_paths.specs.Names.Name.{Pid, Of}
use Rattle.queue_paths.proofs.Paths.{parse-path, is_number_tells, is_number_if}
use Rattle.queue_states.specs.declared.state.State.TheVariants.{S1}
use Rattle.queue_states.specs.States.{state_of}
use Rattle.scenario.specs.Shown.{AreNamesIn, AreNumbersIn}
use Rattle.crash_fs.specs.Answers.{IsFinite}
use Rattle.crash_fs.proofs.Decided.{Decided, both, is_true}
use Rattle.crash_fs.proofs.InOrder.{contains_among, among_contains, passing, ordered, rises_pairs, equal_is, pairs_increase}
use Rattle.crash_fs.proofs.NextNames.{some_of, names_after}
use Rattle.script_disks.proofs.NumbersInUse.{some_part, far_or_not}

pub names_in : (d : Disk) → IsFinite d → (dir : List ℕ) → (names : List (List ℕ)) × AreNamesIn d dir names
names_in d f dir = let found = names_after d f dir [] in (found.names, record { each = found.each; rising = found.rising })

-- the numbers of names
abbrev number_by : Option Name → ℕ
number_by None = 0
number_by (Some (Pid pid start seq)) = 0
number_by (Some (Of part n)) = n

abbrev numbers_of : List (List ℕ) → List ℕ
numbers_of [] = []
numbers_of (text ∷ texts) = number_by (parse text) ∷ numbers_of texts

number_among : (part : Part) (n : ℕ) (texts : List (List ℕ)) → Among (path (Of part n)) texts
    → Among n (numbers_of texts)
number_among part n [] here = here
number_among part n (text ∷ texts) here = ⊎_elim
    (λ e. inl (sym (ap (λ t. number_by (parse t)) (sym e) ∙ ap number_by (parse-path (Of part n)))))
    (λ later. inr (number_among part n texts later))
    here

-- a number that `show` lists
abbrev IsListed : Disk → ℕ → Type 0
IsListed d n = IsTrue (is_number n) × (state_of d n ≢ S1)

is_listed : (d : Disk) (n : ℕ) → Decided (IsListed d n)
is_listed d n = both (is_true (is_number n)) (far_or_not d n)

pub numbers_in : (d : Disk) → IsFinite d → (numbers : List ℕ) × AreNumbersIn d numbers
numbers_in d f =
    let some = passing (IsListed d) (is_listed d) (numbers_of f.texts) in
    let in_order = ordered nat_cmp nat_cmp_total equal_is some.items in
    let back : (n : ℕ) → Contains in_order.items n → IsListed d n =
    λ n here. (some.on n (in_order.on n (contains_among in_order.items n here))).1 in (
      in_order.items,
      record {
        each = λ n one small. (
          λ here. (back n here).1,
          λ far.
              let part = some_part d n far in
              let there = some_of (d.names (path (Of part.0 n))) part.1 in
              among_contains in_order.items n
              (in_order.all n (some.all n
              (number_among part.0 n f.texts (f.named (path (Of part.0 n)) there.0 there.1))
              (is_number_if n one small, far))),
        );
        only = All-weaker (Contains in_order.items) (λ n. (1 ≤ n) × (n < 2 ^ 64))
            (λ n here. is_number_tells n (back n here).0)
            in_order.items (All-contains_itself in_order.items);
        rising =
            pairs_increase in_order.items
            (rises_pairs nat_cmp nat_cmp_total equal_is in_order.items in_order.rises);
      },
    )

-- the number of each text that is a name
abbrev with_number : Option ℕ → List ℕ → List ℕ
with_number None ns = ns
with_number (Some n) ns = n ∷ ns

abbrev named_numbers : Disk → List (List ℕ) → List ℕ
named_numbers d [] = []
named_numbers d (text ∷ texts) = with_number (d.names text) (named_numbers d texts)

is_named : (d : Disk) (texts : List (List ℕ)) (n : ℕ) → Among n (named_numbers d texts) → (name : List ℕ) × (d.names name ≡ Some n)
is_named d [] n here = absurd here
is_named d (text ∷ texts) n here = by_name (is_named d texts n) (d.names text) refl here where
  by_name : (Among n (named_numbers d texts) → (name : List ℕ) × (d.names name ≡ Some n)) → (o : Option ℕ) → d.names text ≡ o
      → Among n (with_number o (named_numbers d texts)) → (name : List ℕ) × (d.names name ≡ Some n)
  by_name rest None is here = rest here
  by_name rest (Some m) is here = ⊎_elim (λ e. (text, is ∙ ap Some (sym e))) (λ later. rest later) here

more_numbers : (o : Option ℕ) (ns : List ℕ) (n : ℕ) → Among n ns → Among n (with_number o ns)
more_numbers None ns n here = here
more_numbers (Some m) ns n here = inr here

among_named : (d : Disk) (texts : List (List ℕ)) (name : List ℕ) (n : ℕ) → Among name texts → d.names name ≡ Some n → Among n (named_numbers d texts)
among_named d [] name n here is = absurd here
among_named d (text ∷ texts) name n here is = ⊎_elim
    (λ e. let there : d.names text ≡ Some n = ap d.names (sym e) ∙ is in
    subst (λ (o : Option ℕ). Among n (with_number o (named_numbers d texts))) (sym there) (inl refl))
    (λ later. more_numbers (d.names text) (named_numbers d texts) n (among_named d texts name n later is))
    here

-- the numbers that have a name, in order
pub numbers_named : (d : Disk) → IsFinite d → (numbers : List ℕ) × AreNamed d numbers
numbers_named d f =
    let in_order = ordered nat_cmp nat_cmp_total equal_is (named_numbers d f.texts) in (
      in_order.items,
      record {
        rising = pairs_increase in_order.items (rises_pairs nat_cmp nat_cmp_total equal_is in_order.items in_order.rises);
        named = λ n here. is_named d f.texts n (in_order.on n (contains_among in_order.items n here));
        all = λ name n is. among_contains in_order.items n (in_order.all n (among_named d f.texts name n (f.named name n is) is));
      },
    )
