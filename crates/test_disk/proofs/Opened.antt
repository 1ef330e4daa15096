-- What the descriptor of a file that was opened is good for.
use Rattle.std.proofs.Common.{◌≡◌, ℕ, List, sym, subst, refl}
use Rattle.call_fs.specs.declared.calls.Fd.{Fd}
use Rattle.call_fs.specs.declared.calls.How.{How}
use Rattle.call_fs.specs.declared.calls.CallData.TheVariants.{Open}
use Rattle.call_fs.specs.declared.calls.Answer.TheVariants.{Opened}
use Rattle.call_fs.specs.Disk.{Disk, MayAppend, MayCut, IsForAppend, IsForCut}
use Rattle.call_fs.specs.Apply.{Apply}
use Rattle.test_disk.proofs.OpenInTurn.{opened_for}

pub may_append : (before after : Disk) (name : List ℕ) (fd : Fd) → Apply before 0 (Open name How.Append) (Opened fd) after → MayAppend after fd.0
may_append before after name fd a = let o = opened_for before after name How.Append fd a in (o.0, o.1, subst IsForAppend (sym o.2) refl)

pub may_cut : (before after : Disk) (name : List ℕ) (fd : Fd) → Apply before 0 (Open name How.Write) (Opened fd) after → MayCut after fd.0
may_cut before after name fd a = let o = opened_for before after name How.Write fd a in (o.0, o.1, subst IsForCut (sym o.2) (λ is. absurd cc))
