use Rattle.std.proofs.Common.{ap, ◌∙◌, ℕ}
use Rattle.send_core.specs.declared.desk.Desk.{Desk}
use Rattle.send_parts.specs.declared.row.Row.{Row}
use Rattle.send_core.specs.Table.{row_now, step_of}
use Rattle.send_core.proofs.sender.Sender.look.Goals as goal

pub invariant_of-self : goal.invariant_of-self
invariant_of-self c =
    let desk : Desk = c.self.inside.desk in
    let row : Row = row_now desk c.args.now c.args.ready in record {
      moment = c.requires;
      row = λ _. c.row_now-self-inside.ensures;
      step = λ _. c.set.ensures ∙ c.step_of.ensures ∙ ap (λ (r : Row). step_of r c.len.result) c.row_now-self-inside.ensures
          ∙ ap (λ (k : ℕ). step_of row k) c.len.ensures;
    }
