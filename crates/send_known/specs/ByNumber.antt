-- The known messages as a map by number, and the numbers of which no channel file is left.
use Rattle.std.specs.Prelude.{◌≡◌, ◌≢◌, ℕ, List, Bool, true, false, not, ◌||◌, ◌==◌, Option, Some, None, All, Contains, IsTrue, filter, min}
use Rattle.std.specs.Ordering.{nat_cmp}
use Rattle.std.specs.BTreeMap as tree
use Rattle.std.specs.BTreeMap.{BTreeMap, get}
use Rattle.send_known.specs.declared.known.Known.{Known}
use Rattle.send_known.specs.Known.{is_idle}

-- each message stands under its number
abbrev pub AreNamed : List (ℕ × Known) → Type 0
AreNamed es = All (λ e. e.0 ≡ e.1.n) es

abbrev pub AreOrdered : BTreeMap ℕ Known → Type 0
AreOrdered known = tree.IsOrdered nat_cmp known

-- no channel file of it is left
abbrev pub is_done : Known → Bool
is_done k = not (k.local || k.remote)

abbrev pub is_done_in : Option Known → Bool
is_done_in None = false
is_done_in (Some k) = is_done k

abbrev pub is_done_at : BTreeMap ℕ Known → ℕ → Bool
is_done_at known n = is_done_in (get nat_cmp known n)

-- the same, and its finish moment has come
abbrev pub is_idle_in : ℕ → Option Known → Bool
is_idle_in now None = false
is_idle_in now (Some k) = is_idle now k

abbrev pub is_idle_at : ℕ → BTreeMap ℕ Known → ℕ → Bool
is_idle_at now known n = is_idle_in now (get nat_cmp known n)

-- each number of which no channel file is left is among these
abbrev pub Covers : (ℕ → Option Known) → List ℕ → Type 0
Covers known done = (n : ℕ) → IsTrue (is_done_in (known n)) → Contains done n

-- of a number without a message, and of any other than this one, nothing changed
abbrev pub KeepsDone : (ℕ → Option Known) → (ℕ → Option Known) → ℕ → Type 0
KeepsDone old new n = (m : ℕ) → m ≢ n → is_done_in (new m) ≡ is_done_in (old m)

-- what holds at any time
pub record IsKept (known : BTreeMap ℕ Known) (done : List ℕ) (listed : Bool) : Type 0 where
  pub ordered : AreOrdered known
  pub named : AreNamed known.entries
  pub covers : listed ≡ true → Covers (get nat_cmp known) done

abbrev pub without : ℕ → List ℕ → List ℕ
without n done = filter (λ m. not (m == n)) done

abbrev pub lesser : Option ℕ → ℕ → Option ℕ
lesser None n = Some n
lesser (Some m) n = Some (min m n)
