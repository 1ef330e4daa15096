use Rattle.std.proofs.Common.{length, refl, arith}
use Rattle.std.proofs.lemmas.Option.{slice_get_read}
use Rattle.world_pipes.proofs.Slots.{slot_there, actor_there}
use Rattle.world_pipes.proofs.mouths.Mouths.end_actor.Goals as goal

pub index_mut-requires : goal.index_mut-requires
index_mut-requires c = let within = slot_there c.args.self.now c.args.slot c.requires in omega (arith, within, c.args.self.now.slots.ok.0)

pub end_actor-requires : goal.end_actor-requires
end_actor-requires c =
    let m = c.args.self.now in
    actor_there m c.args.slot c.index_mut.result.now
    (slice_get_read m.slots.items (length m.slots.items) c.args.slot c.index_mut.result.now refl (slot_there m c.args.slot c.requires) c.index_mut.ensures.value) c.requires
