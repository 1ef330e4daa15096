-- What became of a reading of the program's own input.
use Rattle.proc_runner.specs.declared.own_input.OwnReading.{OwnReading}
use Rattle.proc_runner.specs.declared.own_input.OwnReading.TheVariants as own
use Rattle.proc_runner.specs.declared.shared.Through.{Through}

-- what is left of a reader whose thread couldn't be started is so
abbrev pub IfLeft : OwnReading → (Through → Type 0) → Type 0
IfLeft (own.Begun thread) is_so = Unit {0}
IfLeft (own.Failed through) is_so = is_so through
