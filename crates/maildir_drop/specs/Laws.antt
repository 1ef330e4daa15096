-- The laws of drops.
use Rattle.std.specs.Prelude.{◌≡◌, ◌⊎◌, List}
use Rattle.call_fs.specs.declared.past.Own.{Own}
use Rattle.call_fs.specs.Disk.{Disk, IsWhole}
use Rattle.call_fs.specs.Past.{HasCall, LeadsTo}
use Rattle.maildir_drop.specs.declared.arguments.Arguments.{Arguments}
use Rattle.maildir_drop.specs.declared.row.Attempt.{Attempt}
use Rattle.maildir_drop.specs.declared.row.Outcome.TheVariants.{Dropped, Failed}
use Rattle.maildir_drop.specs.declared.row.Row.{Row}
use Rattle.maildir_drop.specs.declared.row.Row.TheVariants as at
use Rattle.maildir_drop.specs.declared.row.Why.{Why}
use Rattle.maildir_drop.specs.Causes.{IsLink, IsLinked, IsCause}
use Rattle.maildir_drop.specs.Names.{names_of, pair_at}
use Rattle.maildir_drop.specs.Run.{IsRun}
use Rattle.maildir_drop.specs.Table.{place_after}

-- it has linked its file into `new`: what is left is the unlink, or nothing
abbrev pub HasDropped : Row → Attempt → Type 0
HasDropped row attempt = (row ≡ at.Unlink attempt Dropped) ⊎ (row ≡ at.Ended attempt Dropped)

-- A drop that has ended dropped has made its link, and one that has made a link ends dropped: only the unlink is ahead of it.
pub record DroppedIfLinked : Type 0 where
  pub linked : (args : Arguments) (past : List Own) (attempt : Attempt) → IsRun args past → HasDropped (place_after args past).row attempt
      → HasCall past (IsLinked (names_of args) attempt)
  pub dropped : (args : Arguments) (past : List Own) → IsRun args past → HasCall past IsLink
      → (attempt : Attempt) × HasDropped (place_after args past).row attempt

-- A drop that has failed has the cause of it in its past.
abbrev pub FailuresHaveCauses : Type 0
FailuresHaveCauses = (args : Arguments) (past : List Own) (attempt : Attempt) (why : Why) → IsRun args past
    → (place_after args past).row ≡ at.Ended attempt (Failed why) → IsCause (names_of args) past why

-- If its calls alone were made on a disk: the link is due only for a file that is complete and on the disk, and once it is
-- made, that file stands in `new`.
pub record DropsAreWhole : Type 0 where
  pub before : (args : Arguments) (past : List Own) (attempt : Attempt) (first last : Disk) → IsRun args past → LeadsTo first past last
      → (place_after args past).row ≡ at.Link attempt → IsWhole last (pair_at (names_of args) attempt).tmp args.bytes
  pub after : (args : Arguments) (past : List Own) (attempt : Attempt) (first last : Disk) → IsRun args past → LeadsTo first past last
      → HasDropped (place_after args past).row attempt → IsWhole last (pair_at (names_of args) attempt).new args.bytes
