-- The files of drops: whose each is, and what a step leaves of them and of all other files.
use Rattle.std.specs.Prelude.{◌≡◌, ◌≢◌, ℕ, List, Some}
use Rattle.call_fs.specs.Disk.{Disk}
use Rattle.queue_law.specs.Numbers.{Queue}
use Rattle.queue_law.specs.Numbers.Role.{AsDrop}
use Rattle.program_law.specs.Delivery.Names.{IsDropName, IsTmpName}

-- This name of a drop leads to file i, which actor o made as the file of a drop.
pub record IsDropOf (q : Queue) (o name : List ℕ) (i : ℕ) : Type 0 where
  pub placed : IsDropName name
  pub there : q.disk.names name ≡ Some i
  pub made : q.role i ≡ AsDrop o

-- What a step of a leaves of the drops of others: each of their names leads where it led, to a file that is as it was.
pub record LeavesDrops (a : List ℕ) (q r : Queue) : Type 0 where
  pub stays : (o name : List ℕ) (i : ℕ) → o ≢ a → IsDropOf q o name i → IsDropOf r o name i
  pub files : (o name : List ℕ) (i : ℕ) → o ≢ a → IsDropOf q o name i → r.disk.files i ≡ q.disk.files i

-- What a delivery asks of a step of another: each name in `tmp` of the drops of others leads where it led, to a file that is as it was.
-- What becomes of their names in `new` is nothing to them: those are a reader's, who may move or unlink them.
pub record LeavesTmp (a : List ℕ) (q r : Queue) : Type 0 where
  pub stays : (o name : List ℕ) (i : ℕ) → o ≢ a → IsTmpName name → IsDropOf q o name i → IsDropOf r o name i
  pub files : (o name : List ℕ) (i : ℕ) → o ≢ a → IsTmpName name → IsDropOf q o name i → r.disk.files i ≡ q.disk.files i

-- What a step leaves of a disk that touches nothing but drops: each other name leads where it led, and a file that has a name, but no
-- name of a drop, is as it was.
pub record LeavesButDrops (d e : Disk) : Type 0 where
  pub names : (name : List ℕ) → (IsDropName name → ⊥) → e.names name ≡ d.names name
  pub files : (name : List ℕ) (i : ℕ) → d.names name ≡ Some i → ((other : List ℕ) → IsDropName other → d.names other ≢ Some i) → e.files i ≡ d.files i

-- What a step of a leaves of the files that have a name: what each was made as; and each that isn't its own is as it was.
pub record LeavesButOwn (a : List ℕ) (q r : Queue) : Type 0 where
  pub files : (name : List ℕ) (i : ℕ) → q.disk.names name ≡ Some i → q.role i ≢ AsDrop a → r.disk.files i ≡ q.disk.files i
  pub roles : (name : List ℕ) (i : ℕ) → q.disk.names name ≡ Some i → r.role i ≡ q.role i
