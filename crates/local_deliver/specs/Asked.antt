-- What a local delivery asks for at all.
use Rattle.std.specs.Prelude.{◌≡◌}
use Rattle.call_fs.specs.declared.past.NeedData.{NeedData}
use Rattle.call_fs.specs.declared.past.NeedData.TheVariants.{File, Take, Give, Start, Command, Ended}
use Rattle.call_fs.specs.declared.program.Port.TheVariants as port

-- file calls, its input and its output, commands, and of one program the start, a giving and the status
abbrev pub IsAsked : NeedData → Type 0
IsAsked (File call) = Unit {0}
IsAsked (Take port.Input) = Unit {0}
IsAsked (Take (port.Status slot)) = slot ≡ 0
IsAsked (Give port.Output bytes) = Unit {0}
IsAsked (Give (port.Program slot) bytes) = slot ≡ 0
IsAsked (Start child) = Unit {0}
IsAsked (Command text) = Unit {0}
IsAsked (Ended status) = Unit {0}
IsAsked other = ⊥
