use Rattle.world_events.proofs.Index.{text_put}
use Rattle.world_events.proofs.places.Places.add.Goals as goal

pub returns-clause-ok : goal.returns-clause-ok
returns-clause-ok c = text_put (λ key. key.items) c.args.self.now.map c.insert.new.self c.in_ok-key.key c.args.name.now c.args.place c.in_ok-insert.ensures.updates c.in_ok-key.ensures.items
