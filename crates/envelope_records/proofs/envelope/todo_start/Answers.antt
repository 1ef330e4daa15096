use Rattle.envelope_records.proofs.TodoTexts.{todo_text_none}
use Rattle.envelope_records.proofs.envelope.todo_start.Goals as goal

pub returns : goal.returns
returns c =
    todo_text_none c.args.uid c.args.pid c.args.sender.now _ _ _ _ c.new-start.ensures.items c.in_ok-put_number.ensures c.in_ok-put_number-2.ensures c.in_ok-put_field.ensures
