use Rattle.std.proofs.Common.{◌≡◌, ◌++◌, map, take}
use Rattle.script_traces.specs.Fates.{fate_word}
use Rattle.script_traces.specs.Mails.{recipient_lines}
use Rattle.script_traces.proofs.fates.put_fates.Given as goal

-- the lines of the recipients so far were put
abbrev pub invariant-loop-index : goal.invariant-loop-index
invariant-loop-index l = l.text.items ≡ l.initial.text.items ++ recipient_lines l.mail 1 (map fate_word (take l.index l.fates))
