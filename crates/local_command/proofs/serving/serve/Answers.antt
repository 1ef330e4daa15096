use Rattle.std.proofs.Common.{ap, refl}
use Rattle.call_fs.specs.Program.{child_data, due_of}
use Rattle.call_fs.specs.declared.past.NeedData.TheVariants as needs
use Rattle.local_command.proofs.Serves.{command_served, moves_as, moves_none, served_as, start_served}
use Rattle.local_command.proofs.serving.serve.Goals as goal

pub returns-in-Take-clause-served : goal.returns-in-Take-clause-served
returns-in-Take-clause-served g c = served_as _ (needs.Take c.in-Take.port) c.serve_take.result c.serve_take.result c.serve_take.new.into (ap due_of c.in-Take.is) refl (g.C.ChildWords.words c.args.words.now) c.args.message.now c.args.injector.now c.args.injector.now _ _ (c.serve_take.ensures.served (g.C.ChildWords.words c.args.words.now) c.args.message.now)

pub returns-in-Take-clause-streams : goal.returns-in-Take-clause-streams
returns-in-Take-clause-streams g c = moves_as _ (needs.Take c.in-Take.port) c.serve_take.result c.serve_take.result c.serve_take.new.into (ap due_of c.in-Take.is) refl _ _ (c.serve_take.ensures.streams _ _)

pub returns-in-Give-clause-served : goal.returns-in-Give-clause-served
returns-in-Give-clause-served g c = served_as _ (needs.Give c.in-Give.port c.in-Give.bytes.now) c.serve_give.result c.serve_give.result c.args.into.now (ap due_of c.in-Give.is) refl (g.C.ChildWords.words c.args.words.now) c.args.message.now c.args.injector.now c.args.injector.now _ _ (c.serve_give.ensures.served (g.C.ChildWords.words c.args.words.now) c.args.message.now c.args.into.now _)

pub returns-in-Give-clause-streams : goal.returns-in-Give-clause-streams
returns-in-Give-clause-streams g c = moves_as _ (needs.Give c.in-Give.port c.in-Give.bytes.now) c.serve_give.result c.serve_give.result c.args.into.now (ap due_of c.in-Give.is) refl _ _ (c.serve_give.ensures.streams c.args.into.now _ _)

pub returns-in-Start-clause-served : goal.returns-in-Start-clause-served
returns-in-Start-clause-served g c = served_as _ (needs.Start (child_data c.in-Start.child)) c.start_injector.result c.start_injector.result c.args.into.now (ap due_of c.in-Start.is) refl (g.C.ChildWords.words c.args.words.now) c.args.message.now c.args.injector.now c.start_injector.new.injector _ _ (start_served (g.C.ChildWords.words c.args.words.now) c.args.message.now c.args.into.now c.args.injector.now c.start_injector.new.injector (child_data c.in-Start.child) c.start_injector.result _ _ _ c.start_injector.ensures)

pub returns-in-Start-clause-streams : goal.returns-in-Start-clause-streams
returns-in-Start-clause-streams g c = moves_as _ (needs.Start (child_data c.in-Start.child)) c.start_injector.result c.start_injector.result c.args.into.now (ap due_of c.in-Start.is) refl _ _ (moves_none (needs.Start (child_data c.in-Start.child)) _ _ tt)

pub returns-in-Command-clause-served : goal.returns-in-Command-clause-served
returns-in-Command-clause-served g c = served_as _ (needs.Command c.in-Command.text.now) c.run_command.result c.run_command.result c.args.into.now (ap due_of c.in-Command.is) refl (g.C.ChildWords.words c.args.words.now) c.args.message.now c.args.injector.now c.args.injector.now _ _ (command_served (g.C.ChildWords.words c.args.words.now) c.args.message.now c.args.into.now c.args.injector.now c.in-Command.text.now c.run_command.result _ _ c.run_command.ensures)

pub returns-in-Command-clause-streams : goal.returns-in-Command-clause-streams
returns-in-Command-clause-streams g c = moves_as _ (needs.Command c.in-Command.text.now) c.run_command.result c.run_command.result c.args.into.now (ap due_of c.in-Command.is) refl _ _ (moves_none (needs.Command c.in-Command.text.now) _ _ tt)

pub returns-in-Command-clause-fits : goal.returns-in-Command-clause-fits
returns-in-Command-clause-fits g c = c.run_command.ensures.fits
