-- What an actor has open: the descriptors that its calls opened, and that none closed.
use Rattle.std.specs.Prelude.{◌≡◌, ℕ, ◌==◌, List, [], ◌∷◌, ◌++◌, Bool, false, not, if◌then◌else◌, None, IsSome}
use Rattle.std.specs.List.{filter, list_any}
use Rattle.call_fs.specs.declared.calls.Fd.{Fd}
use Rattle.call_fs.specs.declared.calls.CallData.{CallData}
use Rattle.call_fs.specs.declared.calls.CallData.TheVariants.{Close}
use Rattle.call_fs.specs.declared.calls.Answer.{Answer}
use Rattle.call_fs.specs.declared.calls.Answer.TheVariants as answer
use Rattle.call_fs.specs.declared.past.GotData.{GotData}
use Rattle.call_fs.specs.declared.past.GotData.TheVariants.{Answered}
use Rattle.call_fs.specs.declared.past.NeedData.{NeedData}
use Rattle.call_fs.specs.declared.past.NeedData.TheVariants as needs
use Rattle.call_fs.specs.Disk.{Disk}

-- the list has this descriptor
abbrev pub has : ℕ → List Fd → Bool
has fd fds = list_any (λ one. one.0 == fd) fds

-- each once
abbrev pub AreApart : List Fd → Type 0
AreApart [] = Unit {0}
AreApart (fd ∷ fds) = (has fd.0 fds ≡ false) × AreApart fds

-- the others of these
abbrev pub without : ℕ → List Fd → List Fd
without fd fds = filter (λ one. not (one.0 == fd)) fds

-- what is open after a call, of what was: also what it opened, and not what it closed
abbrev pub open_after : List Fd → CallData → Answer → List Fd
open_after fds call (answer.Created fd n) = fds ++ fd ∷ []
open_after fds call (answer.Opened fd) = fds ++ fd ∷ []
open_after fds (Close fd) answer.Done = without fd.0 fds
open_after fds call answer = fds

-- what is open after an event
abbrev pub opened_by : List Fd → NeedData → GotData → List Fd
opened_by fds (needs.File call) (Answered told) = open_after fds call told.answer
opened_by fds due came = fds

-- each is open, and there once
abbrev pub AreOpen : Disk → List Fd → Type 0
AreOpen d [] = Unit {0}
AreOpen d (fd ∷ fds) = IsSome (d.opens fd.0) × (has fd.0 fds ≡ false) × AreOpen d fds

-- the disk without these open descriptors
abbrev pub shut : List Fd → Disk → Disk
shut fds d = record { dirs = d.dirs; names = d.names; files = d.files; opens = λ fd. if has fd fds then None else d.opens fd }
