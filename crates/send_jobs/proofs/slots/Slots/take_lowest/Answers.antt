use Rattle.std.proofs.Common.{sym, ◌∙◌, subst}
use Rattle.send_jobs.specs.Sending.{lane}
use Rattle.send_jobs.specs.Slots.{IsLeastFree}
use Rattle.send_jobs.proofs.SlotLemmas.{lowest_is_least}
use Rattle.send_jobs.proofs.slots.Slots.take_lowest.Goals as goal

pub returns-in_err-slot-clause-least : goal.returns-in_err-slot-clause-least
returns-in_err-slot-clause-least c =
    let slots = (lane c.args.channel c.args.self.now).slots in
    subst (IsLeastFree slots) (sym c.send.ensures.slot ∙ c.in_err-slot.was ∙ sym c.from_residual.ensures) (lowest_is_least slots)

pub returns-clause-least : goal.returns-clause-least
returns-clause-least c =
    let slots = (lane c.args.channel c.args.self.now).slots in
    subst (IsLeastFree slots) (sym c.send.ensures.slot ∙ c.in_ok-slot.was) (lowest_is_least slots)
