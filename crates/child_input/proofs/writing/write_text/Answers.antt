use Rattle.std.proofs.lemmas.List.{take_rest}
use Rattle.child_input.proofs.Writings.{kept_on, kept_part, wrote_on, wrote_part, writes_part}
use Rattle.child_input.proofs.writing.write_text.Goals.{in-Ok, in-Err}
use Rattle.child_input.proofs.writing.write_text.Goals as goal

pub returns-in-Ok-eq0 : goal.returns-in-Ok-eq0
returns-in-Ok-eq0 g c = wrote_part _ _ _ _ _ _ _ _ (take_rest c.args.text.now c.loop.written) c.loop.invariant.0 c.loop.invariant.1 c.in-Ok-eq0.is c.write.ensures.bytes

pub returns-in-Err-2 : goal.returns-in-Err-2
returns-in-Err-2 g c = kept_part _ _ _ _ _ c.loop.invariant.1 c.in-Err-2.ensures.bytes

pub loop-preserved : goal.loop-preserved
loop-preserved g c = elim c.match-write.branch [
  | in-Ok w ↦ wrote_on _ _ _ _ _ _ _ _ (take_rest c.args.text.now c.loop.written) w.written-is c.loop.invariant.0 c.loop.invariant.1 w.in-Ok.ensures.bound w.in-Ok.ensures.bytes
  | in-Err w ↦ kept_on _ _ _ _ _ _ w.written-is c.loop.invariant.0 c.loop.invariant.1 w.in-Err.ensures.bytes
]

pub returns : goal.returns
returns g c = writes_part _ _ _ _ c.loop.invariant.1
