use Rattle.world_pipes.proofs.Shuts.{shut_each}
use Rattle.world_pipes.proofs.feeding.shut_at.Goals as goal

pub returns : goal.returns
returns c =
    shut_each c.args.member c.args.place c.args.mouths.now c.shut_if.new.mouths c.shut_if-2.new.mouths c.shut_if-3.new.mouths c.shut_if-4.new.mouths
    c.gives_at.result c.gives_at-2.result c.gives_at-3.result c.gives_at-4.result c.shut_if.ensures c.shut_if-2.ensures c.shut_if-3.ensures c.shut_if-4.ensures
    c.gives_at.ensures c.gives_at-2.ensures c.gives_at-3.ensures c.gives_at-4.ensures
