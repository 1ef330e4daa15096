use Rattle.std.proofs.Common.{◌≡◌, sym, subst}
use Rattle.retry_schedule.specs.Due.{IsSchedule, added}
use Rattle.retry_schedule.proofs.Entries.{schedule_added}
use Rattle.retry_schedule.proofs.plain_due.put.Goals as goal

pub returns-clause-schedule : goal.returns-clause-schedule
returns-clause-schedule c =
    let is : c.insert.new.self.items ≡ added c.args.entry c.args.entries.now.items = cc (c.in_ok-insert.ensures.items, c.place-at.ensures.place, c.deref.ensures.value) in
    subst IsSchedule (sym is) (schedule_added c.args.entry c.args.entries.now.items c.requires.schedule c.requires.free)
