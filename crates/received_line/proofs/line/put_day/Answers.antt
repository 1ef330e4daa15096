use Rattle.std.proofs.Common.{◌≡◌, ◌<◌, ◌-◌, ◌∷◌, ◌++◌, ◌∙◌, ap, arith}
use Rattle.std.specs.Prelude.{unsigned_abs}
use Rattle.std.proofs.lemmas.Result.{on_ok_weaker}
use Rattle.jiff_core.proofs.SignedLemmas.{signed_arith, one_part}
use Rattle.jiff_core.proofs.CalendarLemmas.{days_in_month_bounds}
use Rattle.mail_bytes.specs.Decimal.{digits}
use Rattle.received_line.specs.Received.{month_name, four}
use Rattle.received_line.proofs.DateTexts.{day_written}
use Rattle.received_line.proofs.line.put_day.Goals as goal

pub returns : goal.returns
returns c =
    let date = c.args.utc.date in
    let old = c.args.text.now.items in
    let longest = days_in_month_bounds date.year date.month in
    let day : c.from.result ≡ date.day = omega (arith, signed_arith) in
    let month : c.unsigned_abs-2.result ≡ date.month = omega (arith, signed_arith) in
    let year : c.unsigned_abs-year.result ≡ unsigned_abs date.year = omega (arith, signed_arith) in
    let short : c.unsigned_abs-year.result < 10000 = omega (arith, signed_arith, one_part date.year) in
    let name = c.month_name.ensures ∙ ap (λ m. month_name (m - 1)) month in
    on_ok_weaker c.put_two-2.result
    (λ last.
    day_written old _ _ _ _ _ _ c.from.result c.month_name.result.now c.unsigned_abs-year.result short
    c.in_ok-put_number.ensures c.in_ok-push.ensures.items c.in_ok-extend_from_slice.ensures.items c.in_ok-push-2.ensures.items c.in_ok-put_two.ensures last
    ∙ ap (λ n. old ++ (digits n ++ (32 ∷ (c.month_name.result.now ++ (32 ∷ four c.unsigned_abs-year.result))))) day
    ∙ ap (λ t. old ++ (digits date.day ++ (32 ∷ (t ++ (32 ∷ four c.unsigned_abs-year.result))))) name
    ∙ ap (λ y. old ++ (digits date.day ++ (32 ∷ (month_name (date.month - 1) ++ (32 ∷ four y))))) year)
    c.put_two-2.ensures
