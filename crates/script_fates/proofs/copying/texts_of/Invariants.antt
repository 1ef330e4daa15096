use Rattle.std.proofs.Common.{◌≡◌, take}
use Rattle.script_fates.proofs.copying.texts_of.Given as goal

-- the texts so far
abbrev pub invariant-loop-text : goal.invariant-loop-text
invariant-loop-text l = l.texts.items ≡ take l.text-index l.list
