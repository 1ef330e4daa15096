-- What a channel's reader reads.
use Rattle.std.specs.Prelude.{◌≡◌, ◌≢◌, ◌⊎◌, ℕ, ◌-◌, ◌≤◌, List, [], take, Option, None, Some}
use Rattle.std.specs.Io.KnownBytes.{Consumes, IsAtEnd}
use Rattle.std.specs.IoError.{error_kind}
use Rattle.std.specs.declared.io.Error.{Error}
use Rattle.std.specs.declared.io.ErrorKind.TheVariants.{Interrupted}
use Rattle.piece_queue.specs.declared.piece.Brought.{Brought}
use Rattle.piece_queue.specs.declared.piece.Brought.TheVariants as came
use Rattle.piece_queue.specs.declared.piece.TheConstants.{ROOM}

-- So many bytes came, and lie at the start of `into`: what was to be read before it, and what is left. None came only at the end.
pub record Comes (count : ℕ) (into : List ℕ) (before after : Option (List ℕ)) : Type 0 where
  pub fits : count ≤ ROOM
  pub bytes : Consumes before after (take count into)
  pub end : count ≡ 0 → IsAtEnd after

-- What a reading brought is what was to be read. What came when it was cut off isn't brought.
abbrev pub ReadsBytes : Brought → List ℕ → Option (List ℕ) → Option (List ℕ) → Type 0
ReadsBytes (came.Bytes count) into before after = Consumes before after (take count into)
ReadsBytes came.End into before after = Consumes before after [] × IsAtEnd after
ReadsBytes other into before after = Unit {0}

-- one of these errors came, and not only an interruption
abbrev pub Breaks : (Error → Type 0) → Type 0
Breaks may = (why : Error) × may why × (error_kind why ≢ Interrupted)

-- the system told one of these errors in place of an end
abbrev pub IsUntold : (Error → Type 0) → Type 0
IsUntold errs = (why : Error) × errs why

-- a failure is brought only for such a cause
abbrev pub FailsFor : Type 0 → Brought → Type 0
FailsFor Cause came.Failed = Cause
FailsFor Cause other = Unit {0}

-- so many bytes more may be printed
abbrev pub MayPrint : Option ℕ → ℕ → Type 0
MayPrint None count = Unit {0}
MayPrint (Some left) count = count ≤ left

abbrev pub after_printing : Option ℕ → ℕ → Option ℕ
after_printing None count = None
after_printing (Some left) count = Some (left - count)

-- no more is brought than may be printed
abbrev pub CountsPrinted : Brought → Option ℕ → Option ℕ → Type 0
CountsPrinted (came.Bytes count) before after = MayPrint before count × (after ≡ after_printing before count)
CountsPrinted other before after = after ≡ before

-- it is cut off only where more came than may be printed
abbrev pub CutsOff : Brought → Option ℕ → List ℕ → Option (List ℕ) → Option (List ℕ) → Type 0
CutsOff came.Cut left into before after = (count : ℕ) × Comes count into before after × ¬ (MayPrint left count)
CutsOff other left into before after = Unit {0}
