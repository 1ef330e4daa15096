use Rattle.std.proofs.Common.{[], ◌∷◌, refl, sym, subst, ◌∙◌}
use Rattle.outside.specs.Children.SpawnCall.{Feed, Finish}
use Rattle.program_runner.specs.Lines.{GivesBy}
use Rattle.program_runner.proofs.Serves.{asked_feed, asked_whole}
use Rattle.program_runner.proofs.serving.give_port.Goals as goal

pub returns-in-Link-clause-given : goal.returns-in-Link-clause-given
returns-in-Link-clause-given g c = record {
  calls = Feed c.in-Link.chan c.args.bytes.now c.feed.result ∷ [];
  done = subst (λ x. GivesBy x c.args.bytes.now c.feed.result (Feed c.in-Link.chan c.args.bytes.now c.feed.result ∷ [])) (sym c.in-Link.is ∙ c.line.ensures) refl;
  spawns = asked_feed _ _ c.in-Link.chan c.args.bytes.now c.feed.result c.feed.ensures.same c.feed.ensures.told c.feed.ensures.cause;
}

pub returns-in-Program-clause-given : goal.returns-in-Program-clause-given
returns-in-Program-clause-given g c = record {
  calls = Feed c.in-Program.chan c.args.bytes.now c.feed-gave.result ∷ Finish c.in-Program.chan ∷ [];
  done = subst (λ x. GivesBy x c.args.bytes.now c.feed-gave.result (Feed c.in-Program.chan c.args.bytes.now c.feed-gave.result ∷ Finish c.in-Program.chan ∷ [])) (sym c.in-Program.is ∙ c.line.ensures) refl;
  spawns = asked_whole _ (record { children = g.S.Spawner.children c.feed-gave.new.self; calls = g.S.Spawner.calls c.feed-gave.new.self; faults = g.S.Spawner.faults c.feed-gave.new.self }) _
      c.in-Program.chan c.args.bytes.now c.feed-gave.result c.feed-gave.ensures.same c.feed-gave.ensures.told c.feed-gave.ensures.cause c.finish.ensures.same c.finish.ensures.told c.finish.ensures.cause;
}
