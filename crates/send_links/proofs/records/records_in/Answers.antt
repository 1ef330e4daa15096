use Rattle.std.proofs.Common.{sym, subst}
use Rattle.envelope_records.specs.Records.{IsRecordFault}
use Rattle.send_links.proofs.WholeRecords.{are_read, bad_letter, no_end}
use Rattle.send_links.proofs.records.records_in.Goals as goal

pub returns-in-Ok : goal.returns-in-Ok
returns-in-Ok c = sym (are_read _ _ c.in-Ok.ensures.ok)

pub returns-in-Err-Letter : goal.returns-in-Err-Letter
returns-in-Err-Letter c =
    let w = c.in-Err-Letter in sym (bad_letter c.args.bytes.now _ (subst (λ f. IsRecordFault c.args.bytes.now f) w.field-0-is w.ensures.err))

pub returns-in-Err-Unended : goal.returns-in-Err-Unended
returns-in-Err-Unended c =
    let w = c.in-Err-Unended in sym (no_end c.args.bytes.now _ (subst (λ f. IsRecordFault c.args.bytes.now f) w.field-0-is w.ensures.err))
