use Rattle.std.proofs.Common.{ap}
use Rattle.call_fs.specs.Program.{due_of}
use Rattle.program_runner.proofs.Serves.{put_due, served_due}
use Rattle.program_runner.proofs.serving.serve.Goals as goal

pub returns-in-Give-clause-served : goal.returns-in-Give-clause-served
returns-in-Give-clause-served g c =
    served_due (g.C.ChildWords.words c.args.words.now) _ _ c.give_need.result _ _ _ _ _ (ap due_of c.in-Give.is) (c.give_need.ensures.served (g.C.ChildWords.words c.args.words.now) c.args.into.now)

pub returns-in-Give-clause-put : goal.returns-in-Give-clause-put
returns-in-Give-clause-put g c = put_due _ _ _ _ _ _ _ (ap due_of c.in-Give.is) (c.give_need.ensures.put c.args.into.now)

pub returns-in-Start-clause-served : goal.returns-in-Start-clause-served
returns-in-Start-clause-served g c =
    served_due (g.C.ChildWords.words c.args.words.now) _ _ c.start_need.result _ _ _ _ _ (ap due_of c.in-Start.is) (c.start_need.ensures.served c.args.into.now)
