use Rattle.std.proofs.Common.{refl, sym, subst}
use Rattle.call_fs.specs.declared.past.NeedData.TheVariants as needs
use Rattle.call_fs.specs.Calls.{data_of}
use Rattle.call_fs.specs.Program.{came_of, child_data, IsKind}
use Rattle.test_local.proofs.RunningDeliveries.{looked, may, called, went}
use Rattle.test_local.proofs.tests.running.makes_step.Goals as goal

pub perform-answer-requires-clause-fits : goal.perform-answer-requires-clause-fits
perform-answer-requires-clause-fits g c =
    may c.look.new.self (g.D.CallFs.disk c.args.disk.now) c.look.new.self.ready (looked _ _ _ c.look.ensures.stands c.requires) (data_of c.in-File.call) (sym c.in-File.ensures.due)

pub returns-in-File : goal.returns-in-File
returns-in-File g c =
    let r = looked c.args.local.now c.look.new.self (g.D.CallFs.disk c.args.disk.now) c.look.ensures.stands c.requires in
    let stands = c.done.ensures.stands r.args r.past r.stands in
    let ok = c.is_ok.ensures.value in
    called c.look.new.self c.done.new.self c.look.new.self.present c.look.new.self.ready (g.D.CallFs.disk c.args.disk.now) (g.D.CallFs.disk c.perform-answer.new.disk) c.clock-now.result (data_of c.in-File.call) _ r
    c.done.result c.is_ok.result (sym c.in-File.ensures.due) c.perform-answer.ensures.kind c.perform-answer.ensures.told stands ok

pub returns-in-Take : goal.returns-in-Take
returns-in-Take g c =
    let r = looked c.args.local.now c.look.new.self (g.D.CallFs.disk c.args.disk.now) c.look.ensures.stands c.requires in
    let stands = c.done-in-Take.ensures.stands r.args r.past r.stands in
    went c.look.new.self c.done-in-Take.new.self c.look.new.self.present c.look.new.self.ready (g.D.CallFs.disk c.args.disk.now) (needs.Take c.in-Take.port) (came_of c.taken-got.result) r
    c.done-in-Take.result c.is_ok-in-Take.result (sym c.in-Take.ensures.due) c.taken-got.ensures refl stands c.is_ok-in-Take.ensures.value

pub returns-in-Give : goal.returns-in-Give
returns-in-Give g c =
    let r = looked c.args.local.now c.look.new.self (g.D.CallFs.disk c.args.disk.now) c.look.ensures.stands c.requires in
    let stands = c.done-in-Give.ensures.stands r.args r.past r.stands in
    went c.look.new.self c.done-in-Give.new.self c.look.new.self.present c.look.new.self.ready (g.D.CallFs.disk c.args.disk.now) _ (came_of c.gave-got.result) r
    c.done-in-Give.result c.is_ok-in-Give.result (sym c.in-Give.ensures.due) (c.gave-got.ensures c.in-Give.port c.in-Give.bytes.now) refl stands c.is_ok-in-Give.ensures.value

pub returns-in-Start : goal.returns-in-Start
returns-in-Start g c =
    let r = looked c.args.local.now c.look.new.self (g.D.CallFs.disk c.args.disk.now) c.look.ensures.stands c.requires in
    let stands = c.done-in-Start.ensures.stands r.args r.past r.stands in
    went c.look.new.self c.done-in-Start.new.self c.look.new.self.present c.look.new.self.ready (g.D.CallFs.disk c.args.disk.now) _ (came_of c.started-got.result) r
    c.done-in-Start.result c.is_ok-in-Start.result (sym c.in-Start.ensures.due) (c.started-got.ensures (child_data c.in-Start.child)) refl stands c.is_ok-in-Start.ensures.value

pub returns-in-Command : goal.returns-in-Command
returns-in-Command g c =
    let r = looked c.args.local.now c.look.new.self (g.D.CallFs.disk c.args.disk.now) c.look.ensures.stands c.requires in
    let stands = c.done-in-Command.ensures.stands r.args r.past r.stands in
    went c.look.new.self c.done-in-Command.new.self c.look.new.self.present c.look.new.self.ready (g.D.CallFs.disk c.args.disk.now) _ (came_of c.ran-got.result) r
    c.done-in-Command.result c.is_ok-in-Command.result (sym c.in-Command.ensures.due) (c.ran-got.ensures c.in-Command.text.now) refl stands c.is_ok-in-Command.ensures.value

pub done-requires-in-Give : goal.done-requires-in-Give
done-requires-in-Give g c = record { kind = subst (λ due. IsKind due (came_of c.gave-got.result)) c.in-Give.ensures.due (c.gave-got.ensures c.in-Give.port c.in-Give.bytes.now) }

pub done-requires-in-Start : goal.done-requires-in-Start
done-requires-in-Start g c = record { kind = subst (λ due. IsKind due (came_of c.started-got.result)) c.in-Start.ensures.due (c.started-got.ensures (child_data c.in-Start.child)) }

pub done-requires-in-Command : goal.done-requires-in-Command
done-requires-in-Command g c = record { kind = subst (λ due. IsKind due (came_of c.ran-got.result)) c.in-Command.ensures.due (c.ran-got.ensures c.in-Command.text.now) }
