use Rattle.std.proofs.Common.{[], sym, subst}
use Rattle.call_fs.specs.declared.past.GotData.TheVariants as got
use Rattle.call_fs.specs.Calls.{data_of}
use Rattle.call_fs.specs.Program.{MayCome}
use Rattle.test_local.proofs.RunningDrops.{looked, may, called}
use Rattle.test_local.proofs.tests.drops.makes_step.Goals as goal

pub perform-answer-requires-clause-fits : goal.perform-answer-requires-clause-fits
perform-answer-requires-clause-fits g c =
    may c.look.new.self (g.D.CallFs.disk c.args.disk.now) c.look.new.self.ready (looked _ _ _ c.look.ensures.stands c.requires) (data_of c.in-File.call) (sym c.in-File.ensures.due)

pub returns-in-File : goal.returns-in-File
returns-in-File g c =
    let r = looked c.args.machine.now c.look.new.self (g.D.CallFs.disk c.args.disk.now) c.look.ensures.stands c.requires in
    let due = sym c.in-File.ensures.due in
    let came = got.Answered (record { answer = c.perform-answer.result; bytes = [] }) in
    called c.look.new.self c.done.new.self (g.D.CallFs.disk c.args.disk.now) (g.D.CallFs.disk c.perform-answer.new.disk) _ 5 _ (data_of c.in-File.call) c.perform-answer.result [] r due
    (subst (λ x. MayCome x came) (sym due) c.perform-answer.ensures.kind) c.perform-answer.ensures.told (c.done.ensures.stands r.args r.past r.stands)
