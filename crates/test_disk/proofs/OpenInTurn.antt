-- A file that is opened, and what its descriptor is good for, call by call.
use Rattle.std.proofs.Common.{◌≡◌, ℕ, List, Option, Some, None, IsSome, is_some, refl, sym, ap, ◌∙◌, subst}
use Rattle.std.specs.Option.{option_map}
use Rattle.call_fs.specs.declared.calls.Fd.{Fd}
use Rattle.call_fs.specs.declared.calls.How.{How}
use Rattle.call_fs.specs.declared.calls.CallData.TheVariants.{Open}
use Rattle.call_fs.specs.declared.calls.Answer.TheVariants.{Opened}
use Rattle.call_fs.specs.Disk.{Open as OpenFile, Disk, MayUse, MayWrite, IsForWrite}
use Rattle.call_fs.specs.declared.modes.Mode.{Mode}
use Rattle.call_fs.specs.Apply.{Apply}
use Rattle.call_fs.proofs.Maps.{put_same}

-- a file that was opened is open, for what was asked
pub opened_for : (before after : Disk) (name : List ℕ) (how : How) (fd : Fd) → Apply before 0 (Open name how) (Opened fd) after → (o : OpenFile) × (after.opens fd.0 ≡ Some o) × (o.mode ≡ Mode.Opened how)
opened_for before after name how fd a = inside (before.names name) a.1.there (ap (λ (d : Disk). d.opens fd.0) a.2 ∙ put_same before.opens fd.0 _)
  where
    inside : (n : Option ℕ) → IsSome n → after.opens fd.0 ≡ option_map (λ k. record { number = k; mode = Mode.Opened how }) n → (o : OpenFile) × (after.opens fd.0 ≡ Some o) × (o.mode ≡ Mode.Opened how)
    inside None there is = absurd cc
    inside (Some k) there is = (record { number = k; mode = Mode.Opened how }, is, refl)

pub may_read : (before after : Disk) (name : List ℕ) (how : How) (fd : Fd) → Apply before 0 (Open name how) (Opened fd) after → MayUse after fd.0
may_read before after name how fd a = ap is_some (opened_for before after name how fd a).1

pub may_write : (before after : Disk) (name : List ℕ) (fd : Fd) → Apply before 0 (Open name How.Write) (Opened fd) after → MayWrite after fd.0
may_write before after name fd a = let o = opened_for before after name How.Write fd a in (o.0, o.1, subst IsForWrite (sym o.2) refl)
