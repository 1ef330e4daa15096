use Rattle.script_fates.proofs.Lives.{no_lives}
use Rattle.script_fates.proofs.fates.Fates.new.Goals as goal

pub returns : goal.returns
returns c = no_lives (record { living = c.new.result; over = c.new-2.result; routers = c.new-3.result }) c.new.ensures.empty c.new-2.ensures.items c.new-3.ensures.unrouted
