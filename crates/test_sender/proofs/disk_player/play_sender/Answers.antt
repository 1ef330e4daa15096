use Rattle.test_sender.proofs.Running.{begins}
use Rattle.test_sender.proofs.disk_player.play_sender.Goals as goal

pub play_steps-end-requires : goal.play_steps-end-requires
play_steps-end-requires g c = begins c.in-Ok.sender (g.D.CallFs.disk c.args.disk.now) _ c.in-Ok.ensures.stands
