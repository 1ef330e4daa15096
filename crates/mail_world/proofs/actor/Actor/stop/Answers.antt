use Rattle.std.proofs.Common.{◌≡◌, [], ◌∷◌, ◌++◌, Some, ap, ◌∙◌}
use Rattle.world_events.specs.declared.event.Event.{Event as Kept}
use Rattle.world_events.specs.declared.event.Event.TheVariants as kept
use Rattle.world_pipes.proofs.Shuts.{shuts_after}
use Rattle.mail_world.proofs.Acts.{shut_of}
use Rattle.mail_world.proofs.actor.Actor.stop.Goals as goal

pub returns-clause-stopped : goal.returns-clause-stopped
returns-clause-stopped g c =
    let x = c.args.self.now in
    let copied = c.copy.ensures in
    let put : Kept = kept.Stop c.copy.result in
    let event : put ≡ kept.Stop x.name = cc in
    record {
      event = c.put.ensures.event ∙ ap (λ (k : Kept). c.args.history.now.events.items ++ k ∷ []) event;
      closed = c.end.ensures.closed;
      shuts = shuts_after c.args.mouths.now.items c.shut_after.new.mouths.items x.name x.wire x.slot c.requires.seat.four
          (shut_of c.args.mouths.now.items c.shut_after.new.mouths.items c.end.new.self.wire x.wire c.end.new.self.slot x.slot c.as_slice.result.now x.name
          c.end.ensures.stays.wire c.end.ensures.stays.slot (c.as_slice.ensures ∙ c.end.ensures.name) c.shut_after.ensures);
      name = c.end.ensures.name;
      descriptors = c.end.ensures.descriptors;
      ended = c.end.ensures.ended ∙ ap Some c.len-index.ensures;
      status_is = c.end.ensures.status;
      stays = c.end.ensures.stays;
    }
