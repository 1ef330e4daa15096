-- How the entries are kept: a map from each number to its due moment, and an index, which is the set of the entries in order.
use Rattle.std.specs.Prelude.{◌≡◌, ◌≢◌, ◌↔◌, ℕ, List, [], ◌∷◌, Bool, true, Option, Some, None, IsTrue, if◌then◌else◌}
use Rattle.std.specs.declared.cmp.Ordering.{Ordering}
use Rattle.std.specs.Ordering.{nat_cmp, ordering_then}
use Rattle.std.specs.BTreeMap as tree
use Rattle.std.specs.BTreeMap.{BTreeMap, get}
use Rattle.std.specs.BTreeSet as set
use Rattle.std.specs.BTreeSet.{BTreeSet, contains}
use Rattle.retry_schedule.specs.Due.{added, before, due_by}

abbrev pub entry : ℕ → ℕ → ℕ × ℕ
entry due n = (due, n)

-- the entries of such a map, each a number with its due moment, in order
abbrev pub listed : List (ℕ × ℕ) → List (ℕ × ℕ)
listed [] = []
listed (m ∷ ms) = added (entry m.1 m.0) (listed ms)

-- the order of entries, as std's sets keep it
abbrev pub entry_cmp : ℕ × ℕ → ℕ × ℕ → Ordering
entry_cmp = λ x y. ordering_then (nat_cmp x.0 y.0) (nat_cmp x.1 y.1)

-- the numbers are in order
abbrev pub AreByNumber : BTreeMap ℕ ℕ → Type 0
AreByNumber moments = tree.IsOrdered nat_cmp moments

-- the entries are in order
abbrev pub AreByMoment : BTreeSet (ℕ × ℕ) → Type 0
AreByMoment index = set.IsOrdered entry_cmp index

-- the index has the entries of the map, and no others
abbrev pub Tells : BTreeMap ℕ ℕ → BTreeSet (ℕ × ℕ) → Type 0
Tells moments index = (e : ℕ × ℕ) → IsTrue (contains entry_cmp index e) ↔ (get nat_cmp moments e.1 ≡ Some e.0)

-- both are in order, and the index has the entries if it is said to
pub record IsKept (moments : BTreeMap ℕ ℕ) (index : BTreeSet (ℕ × ℕ)) (indexed : Bool) : Type 0 where
  pub by_number : AreByNumber moments
  pub by_moment : AreByMoment index
  pub tells : indexed ≡ true → Tells moments index

-- a number is due then, or isn't due, from now on
pub record Sets (old new : BTreeMap ℕ ℕ) (n : ℕ) (due : Option ℕ) : Type 0 where
  pub ordered : AreByNumber new
  pub here : get nat_cmp new n ≡ due
  pub others : (m : ℕ) → m ≢ n → get nat_cmp new m ≡ get nat_cmp old m

-- the index has this entry of a number, or none, and no other one of it
abbrev pub IsAt : BTreeSet (ℕ × ℕ) → ℕ → Option ℕ → Type 0
IsAt index n due = (moment : ℕ) → IsTrue (contains entry_cmp index (entry moment n)) ↔ (due ≡ Some moment)

-- from now on it has
pub record SetsEntry (old new : BTreeSet (ℕ × ℕ)) (n : ℕ) (due : Option ℕ) : Type 0 where
  pub here : IsAt new n due
  pub others : (e : ℕ × ℕ) → e.1 ≢ n → contains entry_cmp new e ≡ contains entry_cmp old e

-- of those that are due by now the one that comes first: one more, or the least one so far
abbrev pub lesser : ℕ → Option (ℕ × ℕ) → ℕ × ℕ → Option (ℕ × ℕ)
lesser now None e = due_by now (Some e)
lesser now (Some first) e = if before e first then Some e else Some first
