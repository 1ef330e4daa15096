use Rattle.std.proofs.Common.{◌-◌}
use Rattle.std.specs.Prelude.{unsigned_abs}
use Rattle.std.proofs.lemmas.Result.{on_ok_weaker}
use Rattle.received_line.proofs.DateTexts.{date_written}
use Rattle.received_line.proofs.line.put_date.Goals as goal

pub returns : goal.returns
returns c =
    let utc = c.in_utc-utc in
    on_ok_weaker c.put_clock.result
    (λ e. date_written c.args.moment _ _ _ (unsigned_abs utc.result.date.year) (utc.result.date.month - 1) utc.result.date.day utc.result.time.hour utc.result.time.minute utc.result.time.second
    utc.result.date.day_in.0 utc.ensures.day utc.ensures.hour utc.ensures.minute utc.ensures.second c.in_ok-put_day.ensures e)
    c.put_clock.ensures
