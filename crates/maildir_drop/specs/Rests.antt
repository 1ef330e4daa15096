-- What a drop rests on: what is asked of its file on a disk, at each row.
--
-- | Row | Its file |
-- |---|---|
-- | `Create` | none yet: all bytes are left |
-- | `Append`, `Sync` | has its name in `tmp` and is open; what it holds and what is left are all bytes |
-- | `Close`, `Link` | has its name in `tmp`, and is whole |
-- | `Unlink` and `Ended`, once it is dropped | nothing is asked: its name in `new` is its reader's, who may move it at once |
-- | after a failure | nothing is asked |
use Rattle.std.specs.Prelude.{◌≡◌, ℕ, List, [], ◌++◌, Some}
use Rattle.call_fs.specs.declared.calls.Fd.{Fd}
use Rattle.call_fs.specs.declared.modes.Mode.TheVariants.{Created}
use Rattle.call_fs.specs.declared.past.NeedData.{NeedData}
use Rattle.call_fs.specs.Disk.{Disk, Open as OpenFile, IsWhole}
use Rattle.maildir_drop.specs.declared.arguments.Arguments.{Arguments}
use Rattle.maildir_drop.specs.declared.names.DropNames.{DropNames}
use Rattle.maildir_drop.specs.declared.row.Row.{Row}
use Rattle.maildir_drop.specs.declared.row.Row.TheVariants as at
use Rattle.maildir_drop.specs.Names.{names_of, pair_at}
use Rattle.maildir_drop.specs.Table.{Place, due_at}

-- the file is being written: it has this name and is open, and what it holds and what is left are all the bytes
abbrev pub Writing : List ℕ → List ℕ → Fd → List ℕ → Disk → Type 0
Writing name bytes fd left d =
    (k : ℕ) × (d.names name ≡ Some k) × (d.opens fd.0 ≡ Some (record { number = k; mode = Created })) × ((d.files k).bytes ++ left ≡ bytes)

abbrev pub Rests : DropNames → List ℕ → Row → List ℕ → Disk → Type 0
Rests names bytes (at.Create attempt) left d = left ≡ bytes
Rests names bytes (at.Append attempt fd) left d = Writing (pair_at names attempt).tmp bytes fd left d
Rests names bytes (at.Sync attempt fd) left d = Writing (pair_at names attempt).tmp bytes fd [] d
Rests names bytes (at.Close attempt fd) left d = IsWhole d (pair_at names attempt).tmp bytes
Rests names bytes (at.Link attempt) left d = IsWhole d (pair_at names attempt).tmp bytes
Rests names bytes (at.Shut attempt fd reason) left d = Unit {0}
Rests names bytes (at.Unlink attempt outcome) left d = Unit {0}
Rests names bytes (at.Ended attempt outcome) left d = Unit {0}

-- a drop with these arguments, that stands here, rests on this disk
abbrev pub RestsOn : Arguments → Place → Disk → Type 0
RestsOn args p d = Rests (names_of args) args.bytes p.row p.left d

abbrev pub due_of : Arguments → Place → NeedData
due_of args p = due_at (names_of args) p.row p.left

-- What others leave alone

-- this name leads to the same file on the second disk as on the first, and that is as it was
abbrev pub IsKept : List ℕ → Disk → Disk → Type 0
IsKept name d e = (k : ℕ) → d.names name ≡ Some k → (e.names name ≡ Some k) × (e.files k ≡ d.files k)

-- and this descriptor is open as it was
abbrev pub IsKeptOpen : List ℕ → Fd → Disk → Disk → Type 0
IsKeptOpen name fd d e = IsKept name d e × ((how : OpenFile) → d.opens fd.0 ≡ Some how → e.opens fd.0 ≡ Some how)

-- What a drop rests on at each row is on the second disk as on the first.
abbrev pub LeavesAlone : DropNames → Row → Disk → Disk → Type 0
LeavesAlone names (at.Create attempt) d e = Unit {0}
LeavesAlone names (at.Append attempt fd) d e = IsKeptOpen (pair_at names attempt).tmp fd d e
LeavesAlone names (at.Sync attempt fd) d e = IsKeptOpen (pair_at names attempt).tmp fd d e
LeavesAlone names (at.Close attempt fd) d e = IsKept (pair_at names attempt).tmp d e
LeavesAlone names (at.Link attempt) d e = IsKept (pair_at names attempt).tmp d e
LeavesAlone names (at.Shut attempt fd reason) d e = Unit {0}
LeavesAlone names (at.Unlink attempt outcome) d e = Unit {0}
LeavesAlone names (at.Ended attempt outcome) d e = Unit {0}
