use Rattle.std.proofs.Common.{drop, sym, ap, ◌∙◌}
use Rattle.maildir_drop.specs.Table.{appended, is_complete, next_row}
use Rattle.maildir_drop.proofs.Standing.{complete_is, place_with}
use Rattle.maildir_drop.proofs.machine.MaildirDrop.appended.Goals as goal

pub returns-in-Done-clause-place : goal.returns-in-Done-clause-place
returns-in-Done-clause-place c =
    let a = c.args.attempt in
    let fd = c.args.fd in
    let left = c.args.self.now.left in
    let rest = drop 8192 left in
    place_with c.next_row-self.result (next_row a fd (is_complete rest)) c.pass.new.self rest
    (c.next_row-self.ensures ∙ ap (next_row a fd) (complete_is c.pass.new.self c.is_empty.result c.is_empty.ensures ∙ ap is_complete c.pass.ensures)) c.pass.ensures
    ∙ ap (appended a fd left) (sym c.in-Done.is)
