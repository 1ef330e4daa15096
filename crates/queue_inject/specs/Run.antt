-- A run of an injector: it did what was due, and nothing else.
use Rattle.std.specs.Prelude.{List}
use Rattle.call_fs.specs.declared.past.Own.{Own}
use Rattle.call_fs.specs.Past.{IsDueBy, IsRunBy}
use Rattle.queue_inject.specs.declared.injection.Arguments.{Arguments}
use Rattle.queue_inject.specs.Table.{Next}

abbrev pub IsDue : Arguments → List Own → Own → Type 0
IsDue args before event = IsDueBy (Next args) before event

abbrev pub IsRun : Arguments → List Own → Type 0
IsRun args past = IsRunBy (Next args) past
