use Rattle.program_runner.proofs.Serves.{asked_start}
use Rattle.send_command.proofs.Linked.{begun_failed, begun_ok, begun_starved}
use Rattle.send_command.proofs.links.start_link.Goals as goal

pub returns-in-Chan : goal.returns-in-Chan
returns-in-Chan g c = begun_ok _ c.start.result c.in-Chan.chan _ _ _ c.in-Chan.is (asked_start _ _ _ c.start.result c.start.ensures.chan c.start.ensures.told c.start.ensures.cause)

pub returns-in-Failed : goal.returns-in-Failed
returns-in-Failed g c = begun_failed _ c.start.result _ _ c.in-Failed.is (asked_start _ _ _ c.start.result c.start.ensures.chan c.start.ensures.told c.start.ensures.cause)

pub returns-in-Memory : goal.returns-in-Memory
returns-in-Memory g c = begun_starved _ c.start.result _ _ c.in-Memory.is (asked_start _ _ _ c.start.result c.start.ensures.chan c.start.ensures.told c.start.ensures.cause)
