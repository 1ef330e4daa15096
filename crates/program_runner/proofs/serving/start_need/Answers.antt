use Rattle.call_fs.specs.Program.{child_data}
use Rattle.program_runner.proofs.Serves.{start_put, start_served}
use Rattle.program_runner.proofs.serving.start_need.Goals as goal

pub returns-in-Chan-clause-served : goal.returns-in-Chan-clause-served
returns-in-Chan-clause-served g c = λ into. start_served (g.C.ChildWords.words c.args.words.now) c.args.lines.now _ (child_data c.args.child) c.start_child.result _ _ _ c.in-Chan.is c.start_child.ensures.lines c.start_child.ensures.started

pub returns-in-Chan-clause-put : goal.returns-in-Chan-clause-put
returns-in-Chan-clause-put g c = λ into taken faults. start_put _ _ taken faults

pub returns-in-Failed-clause-served : goal.returns-in-Failed-clause-served
returns-in-Failed-clause-served g c = λ into. start_served (g.C.ChildWords.words c.args.words.now) c.args.lines.now _ (child_data c.args.child) c.start_child.result _ _ _ c.in-Failed.is c.start_child.ensures.lines c.start_child.ensures.started

pub returns-in-Failed-clause-put : goal.returns-in-Failed-clause-put
returns-in-Failed-clause-put g c = λ into taken faults. start_put _ _ taken faults

pub returns-in-Memory-clause-served : goal.returns-in-Memory-clause-served
returns-in-Memory-clause-served g c = λ into. start_served (g.C.ChildWords.words c.args.words.now) c.args.lines.now _ (child_data c.args.child) c.start_child.result _ _ _ c.in-Memory.is c.start_child.ensures.lines c.start_child.ensures.started

pub returns-in-Memory-clause-put : goal.returns-in-Memory-clause-put
returns-in-Memory-clause-put g c = λ into taken faults. start_put _ _ taken faults
