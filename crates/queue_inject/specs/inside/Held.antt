-- What an injector holds open: the file that it writes.
use Rattle.std.specs.Prelude.{◌≡◌, ℕ, Option, Some}
use Rattle.call_fs.specs.declared.modes.Mode.{Mode}
use Rattle.queue_inject.specs.declared.row.Row.{Row}
use Rattle.queue_inject.specs.declared.row.Row.TheVariants as at

-- the descriptor that a row writes, or will, is held since it was created
abbrev pub HoldsRow : (ℕ → Option Mode) → Row → Type 0
HoldsRow held (at.Create seq) = Unit {0}
HoldsRow held (at.LinkMess seq n fd) = held fd.0 ≡ Some Mode.Created
HoldsRow held (at.UnlinkPid seq n fd) = held fd.0 ≡ Some Mode.Created
HoldsRow held (at.AppendMess n fd done) = held fd.0 ≡ Some Mode.Created
HoldsRow held (at.SyncMess n fd) = held fd.0 ≡ Some Mode.Created
HoldsRow held (at.CreateIntd n) = Unit {0}
HoldsRow held (at.AppendTodo n fd done) = held fd.0 ≡ Some Mode.Created
HoldsRow held (at.SyncTodo n fd) = held fd.0 ≡ Some Mode.Created
HoldsRow held (at.LinkTodo n) = Unit {0}
HoldsRow held (at.CleanIntd n status) = Unit {0}
HoldsRow held (at.CleanMess n status) = Unit {0}
HoldsRow held at.Queued = Unit {0}
HoldsRow held (at.Failed status) = Unit {0}
