use Rattle.std.proofs.Common.{inr}
use Rattle.script_lines.proofs.Scripts.{read_more, bad_line}
use Rattle.script_lines.proofs.reading.read_script.Goals as goal

pub loop-rest-preserved : goal.loop-rest-preserved
loop-rest-preserved c =
    read_more c.args.bytes.now c.loop-rest.rest.now c.first_line.result.0.now c.first_line.result.1.now c.loop-rest.script c.read_line.new.script c.loop-rest.number c.loop-rest.invariant c.first_line.ensures c.in-Ok.ensures.ok

pub returns-in-Err-Malformed-clause-err : goal.returns-in-Err-Malformed-clause-err
returns-in-Err-Malformed-clause-err c =
    inr (
      c.if-bytes-gt-MAX_SCRIPT.false,
      bad_line c.args.bytes.now c.loop-rest.rest.now c.first_line.result.0.now c.first_line.result.1.now c.loop-rest.script c.loop-rest.number c.loop-rest.invariant c.first_line.ensures (c.in-Err-Malformed.ensures.err c.in-Err-Malformed.field-0-is),
    )
