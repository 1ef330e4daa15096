use Rattle.std.proofs.Common.{rules, ◌≡◌, ◌∙◌}
use Rattle.yard_lock.specs.Turns.{Replay}
use Rattle.mail_world.specs.Moves.{moves}
use Rattle.actor_runner.proofs.Runs.{adds_all, ended_among, mails_stay}
use Rattle.actor_runner.proofs.run.run_threads.Goals as goal

pub returns-in-Ok : goal.returns-in-Ok
returns-in-Ok g c =
    let start : c.in_ok-yard.yard.start ≡ c.args.world = search rules in
    let replay : Replay (moves g.D.CallFs.plan g.D.CallFs.disk) c.args.world c.run_all.new.first.seen c.close.result = rw (← start) c.close.ensures.replay in
    let all = adds_all g.D.CallFs.plan g.D.CallFs.disk c.args.world c.run_all.new.first.seen c.close.result replay in record {
      turns = c.run_all.new.first.seen;
      replay = replay;
      added = all.added;
      events = all.events;
      steps = all.steps;
      acted = all.acted;
      present = all.present;
      goes_on = all.goes_on;
      mails_are = mails_stay c.args.world.events all.added c.close.result.events all.events all.steps ∙ c.requires.mails.are;
      ended = λ k d l.
          ended_among g.D.CallFs.plan g.D.CallFs.disk _ c.args.world c.close.result c.run_all.new.first.seen all replay (c.in-Ok.ensures.over k d l) (c.requires.mails.live k d l);
    }
