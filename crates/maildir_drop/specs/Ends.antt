-- How a drop ended, and when nothing but its last unlink is left.
use Rattle.std.specs.Prelude.{◌≡◌, ℕ, List, Bool, true, false, Option, Some, None}
use Rattle.std.specs.Option.{option_map}
use Rattle.maildir_drop.specs.declared.machine.MaildirDrop.{MaildirDrop}
use Rattle.maildir_drop.specs.declared.names.DropNames.{DropNames}
use Rattle.maildir_drop.specs.declared.row.Attempt.{Attempt}
use Rattle.maildir_drop.specs.declared.row.End.{End}
use Rattle.maildir_drop.specs.declared.row.End.TheVariants as end
use Rattle.maildir_drop.specs.declared.row.Outcome.{Outcome}
use Rattle.maildir_drop.specs.declared.row.Outcome.TheVariants.{Dropped, Failed}
use Rattle.maildir_drop.specs.declared.row.Row.{Row}
use Rattle.maildir_drop.specs.declared.row.Row.TheVariants as at
use Rattle.maildir_drop.specs.declared.row.Why.TheVariants as why
use Rattle.maildir_drop.specs.Names.{pair_at}

-- an end with its own bytes: dropped under this name, or why not
pub data EndData : Type 0 where
  IsDropped : List ℕ → EndData
  IsDeferred : EndData
  LacksMemory : EndData

abbrev pub end_data : End → EndData
end_data (end.Dropped name) = IsDropped name.now
end_data end.Defer = IsDeferred
end_data end.Memory = LacksMemory

abbrev pub end_with : DropNames → Attempt → Outcome → EndData
end_with names attempt Dropped = IsDropped (pair_at names attempt).new
end_with names attempt (Failed why.Defer) = IsDeferred
end_with names attempt (Failed why.Memory) = LacksMemory

-- the end at a row; none while the drop goes on
abbrev pub end_at : DropNames → Row → Option EndData
end_at names (at.Ended attempt outcome) = Some (end_with names attempt outcome)
end_at names row = None

abbrev pub end_is : MaildirDrop → Option End → Type 0
end_is machine result = option_map end_data result ≡ end_at machine.names machine.row

-- its link was made, and only the unlink is left
abbrev pub is_linked : Row → Bool
is_linked (at.Unlink attempt Dropped) = true
is_linked (at.Unlink attempt (Failed reason)) = false
is_linked (at.Create attempt) = false
is_linked (at.Append attempt fd) = false
is_linked (at.Sync attempt fd) = false
is_linked (at.Close attempt fd) = false
is_linked (at.Link attempt) = false
is_linked (at.Shut attempt fd reason) = false
is_linked (at.Ended attempt outcome) = false
