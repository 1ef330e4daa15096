use Rattle.received_line.proofs.DateTexts.{received_written}
use Rattle.received_line.proofs.line.received.Goals as goal

pub returns : goal.returns
returns c =
    received_written c.args.pid c.args.invoked c.args.moment _ _ _ _ _ _ _ c.in_ok-line.ensures.items c.in_ok-put_number.ensures c.in_ok-extend_from_slice.ensures.items
    c.in_ok-put_invoked.ensures c.in_ok-extend_from_slice-2.ensures.items c.in_ok-put_date.ensures c.in_ok-push.ensures.items
