use Rattle.std.proofs.Common.{refl, rules}
use Rattle.send_known.proofs.Undone.{both_parts, learned_is, same_messages}
use Rattle.send_known.proofs.messages.Messages.learn.Goals as goal

pub returns-in-Err-clause-err : goal.returns-in-Err-clause-err
returns-in-Err-clause-err c =
    same_messages c.args.self.now _ _ _ refl (c.undo.ensures c.args.due c.args.self.now.local c.enter.ensures.schedule c.in_ok-was_local.ensures.was c.in_ok-was_local.ensures.ok) c.in-Err.ensures.err

pub returns-then-is_err-clause-err : goal.returns-then-is_err-clause-err
returns-then-is_err-clause-err c =
    same_messages c.args.self.now _ _ _ (search rules)
    (c.undo-then-is_err-2.ensures c.args.due c.args.self.now.local c.enter.ensures.schedule c.in_ok-was_local.ensures.was c.in_ok-was_local.ensures.ok)
    (c.undo-then-is_err.ensures c.args.due c.args.self.now.remote c.enter-2.ensures.schedule c.in-Ok.ensures.was c.in-Ok.ensures.ok)

pub returns-clause-ok : goal.returns-clause-ok
returns-clause-ok c =
    learned_is c.args.known c.args.due c.args.self.now _ _ _ (search rules)
    (both_parts c.args.known.local c.args.due c.args.known.n c.args.self.now.local _ _ c.in_ok-was_local.ensures.ok c.drop_if.ensures)
    (both_parts c.args.known.remote c.args.due c.args.known.n c.args.self.now.remote _ _ c.in-Ok.ensures.ok c.drop_if-2.ensures)
