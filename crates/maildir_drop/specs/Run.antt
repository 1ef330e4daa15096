-- A run of a drop: it did what was due, and nothing else.
use Rattle.std.specs.Prelude.{List}
use Rattle.call_fs.specs.declared.past.Own.{Own}
use Rattle.call_fs.specs.Past.{IsRunBy}
use Rattle.maildir_drop.specs.declared.arguments.Arguments.{Arguments}
use Rattle.maildir_drop.specs.Table.{Next}

-- each event of the past, newest first, was due after those before it
abbrev pub IsRun : Arguments → List Own → Type 0
IsRun args past = IsRunBy (Next args) past
