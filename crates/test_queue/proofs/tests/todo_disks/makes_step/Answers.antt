use Rattle.std.proofs.Common.{◌≡◌, ℕ, List, take, sym, refl, subst}
use Rattle.call_fs.specs.declared.past.GotData.TheVariants as got
use Rattle.call_fs.specs.declared.past.NeedData.TheVariants as needs
use Rattle.call_fs.specs.declared.program.Port.TheVariants as port
use Rattle.call_fs.specs.Calls.{data_of}
use Rattle.call_fs.specs.Program.{MayCome}
use Rattle.todo_pass.specs.Stands.{due_now}
use Rattle.test_queue.proofs.Running.{on_true, looked, may, went, backed_call, backed_same, take_kind}
use Rattle.test_queue.proofs.tests.todo_disks.makes_step.Goals as goal

pub perform-answer-requires-clause-fits : goal.perform-answer-requires-clause-fits
perform-answer-requires-clause-fits g c =
    may c.look.new.self (g.D.CallFs.disk c.args.disk.now) (looked _ _ _ c.look.ensures.stands c.requires) (data_of c.in-File.call) (sym c.in-File.ensures.due)

pub returns-in-File : goal.returns-in-File
returns-in-File g c =
    let r = looked c.args.pass.now c.look.new.self (g.D.CallFs.disk c.args.disk.now) c.look.ensures.stands c.requires in
    let due = sym c.in-File.ensures.due in
    let bytes : List ℕ = take c.count_of-count.result c.perform-answer.new.into in
    let came = got.Answered (record { answer = c.perform-answer.result; bytes = bytes }) in
    on_true c.done.result c.is_ok.result _ _ c.is_ok.ensures.value (c.done.ensures.stands r.args r.past r.stands)
    (went c.look.new.self c.done.new.self (g.D.CallFs.disk c.args.disk.now) (g.D.CallFs.disk c.perform-answer.new.disk) _ _ came r
    (subst (λ x. MayCome x came) (sym due) c.perform-answer.ensures.kind)
    (backed_call c.look.new.self _ _ 5 (data_of c.in-File.call) c.perform-answer.result bytes r due c.perform-answer.ensures.told))

pub returns-in-Give : goal.returns-in-Give
returns-in-Give g c =
    let r = looked c.args.pass.now c.look.new.self (g.D.CallFs.disk c.args.disk.now) c.look.ensures.stands c.requires in
    let due : due_now c.look.new.self ≡ needs.Give c.in-Give.field-0 c.in-Give.field-1.now = sym c.in-Give.ensures.due in
    on_true c.done-in-Give.result c.is_ok-in-Give.result _ _ c.is_ok-in-Give.ensures.value (c.done-in-Give.ensures.stands r.args r.past r.stands)
    (went c.look.new.self c.done-in-Give.new.self (g.D.CallFs.disk c.args.disk.now) (g.D.CallFs.disk c.args.disk.now) _ _ got.Gave r
    (subst (λ x. MayCome x got.Gave) (sym due) tt)
    (backed_same c.look.new.self _ (needs.Give c.in-Give.field-0 c.in-Give.field-1.now) got.Gave r due (λ h. refl)))

pub returns-in-Take : goal.returns-in-Take
returns-in-Take g c =
    let r = looked c.args.pass.now c.look.new.self (g.D.CallFs.disk c.args.disk.now) c.look.ensures.stands c.requires in
    let due : due_now c.look.new.self ≡ needs.Take c.in-Take.field-0 = sym c.in-Take.ensures.due in
    let came = got.Took c.args.answer.now in
    on_true c.done-in-Take.result c.is_ok-in-Take.result _ _ c.is_ok-in-Take.ensures.value (c.done-in-Take.ensures.stands r.args r.past r.stands)
    (went c.look.new.self c.done-in-Take.new.self (g.D.CallFs.disk c.args.disk.now) (g.D.CallFs.disk c.args.disk.now) _ _ came r
    (take_kind c.look.new.self.pass.row c.look.new.self.pass c.in-Take.field-0 c.args.answer.now due)
    (backed_same c.look.new.self _ (needs.Take c.in-Take.field-0) came r due (λ h. refl)))
