use Rattle.std.proofs.Common.{◌≡◌, sym, ap, ◌∙◌, subst, true}
use Rattle.call_fs.specs.declared.calls.Answer.{Answer}
use Rattle.queue_inject.specs.declared.row.Row.{Row}
use Rattle.queue_inject.specs.Rows.{Place}
use Rattle.queue_inject.specs.Table.{goes_to}
use Rattle.queue_inject.specs.Machine.{Machine, is_call, due_now, row_now, heard_after, unready}
use Rattle.queue_inject.specs.inside.Fields.{machine_of, IsInStep}
use Rattle.queue_inject.proofs.InStep.{in_step_on}
use Rattle.queue_inject.proofs.machine.Injector.go_on.Goals as goal

pub invariant_of-self : goal.invariant_of-self
invariant_of-self c =
    let m : Machine = machine_of c.self.inside in
    let answer : Answer = c.args.answer.now in
    let row : c.row-row.result ≡ row_now m = c.row-row.ensures ∙ ap row_now (sym c.self.view_is) in
    let due : is_call (due_now m) ≡ true = ap (λ n. is_call (due_now n)) c.self.view_is ∙ c.requires in
    let next : c.go_on.new.self ≡ heard_after (row_now m) m.uid m.pid m.heard =
    c.go_on.ensures.after ∙ ap (λ r. heard_after r m.uid c.pid-pid.result m.heard) row ∙ ap (λ p. heard_after (row_now m) m.uid p m.heard) c.pid-pid.ensures in
    let At : Row → Type 0 = λ r. IsInStep (record m { heard = c.go_on.new.self; row = r; ready = unready }) in
    let on : At (goes_to (row_now m) answer) = in_step_on m c.go_on.new.self answer c.self.invariant due next (c.go_on.ensures.short c.self.invariant.short) in
    subst (λ (p : Place). IsInStep (record m { pid = p.pid; start = p.start; heard = c.go_on.new.self; row = p.row; ready = unready })) (sym c.go.ensures)
    (subst At (sym (c.after.ensures ∙ ap (λ r. goes_to r answer) row)) on)
