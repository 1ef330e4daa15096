-- When known messages may be finished as long as no finish fails, by the sender's past (qmail-send(8)).
use Rattle.std.specs.Prelude.{◌≡◌, ℕ, List, [], ◌∷◌, Bool, true, false, Option, Contains, All}
use Rattle.bounce_record.specs.Returning.{return_begun}
use Rattle.call_fs.specs.Past.{IsRunBy}
use Rattle.call_fs.specs.declared.past.Own.{Own}
use Rattle.send_core.specs.Finish.{bounce_on, returned_to}
use Rattle.send_core.specs.Table.{Next, place_after, row_now}
use Rattle.send_core.specs.declared.desk.Desk.{Desk}
use Rattle.send_parts.specs.declared.row.Row.TheVariants as at
use Rattle.send_parts.specs.declared.row.Row.{Row}
use Rattle.send_known.specs.declared.known.Known.{Known}
use Rattle.send_parts.specs.Finish.{finish_to}
use Rattle.send_parts.specs.Replies.{said}
use Rattle.send_parts.specs.declared.rows.FinishRow.TheVariants as finish
use Rattle.send_parts.specs.declared.rows.FinishRow.{FinishRow}
use Rattle.send_runs.specs.FinishMoments.{fails_by, has_misread, has_searched, returning}
use Rattle.send_runs.specs.Knowing.{known_in}

-- no finish of a message fails at an event
abbrev pub IsUnfailing : ℕ → List Own → Own → Type 0
IsUnfailing n past event = fails_by n (returning past) (has_searched past) (has_misread past) event.due event.came ≡ false

-- while it is known
abbrev pub AreUnfailing : ℕ → List Own → Type 0
AreUnfailing n [] = Unit {0}
AreUnfailing n (event ∷ past) = AreUnfailing n past × (known_in past n ≡ true → IsUnfailing n past event)

-- Then it may be finished at once.
abbrev pub FinishesAtOnce : Type 0
FinishesAtOnce = (turns : Option ℕ) (past : List Own) → IsRunBy (Next turns) past → (k : Known) → Contains (place_after turns past).book.messages.known k
    → AreUnfailing k.n past → k.finish_at ≡ 0

-- By rows: where a finish leads that is at a row

abbrev pub finish_after : FinishRow → ℕ → Desk → Own → FinishRow
finish_after finish.OpenBounce n d event = returned_to (bounce_on n event.read event.came (return_begun n) d.book).row
finish_after finish.Return n d event = returned_to (bounce_on n event.read event.came d.bounce d.book).row
finish_after row n d event = finish_to row (said event.came).way

abbrev pub is_later : FinishRow → Bool
is_later finish.Later = true
is_later row = false

-- it is put off by an event
abbrev pub puts_off : Row → Desk → Own → Bool
puts_off (at.Finish row n) d event = is_later (finish_after row n d event)
puts_off row d event = false

abbrev pub NonePutOff : Option ℕ → List Own → Type 0
NonePutOff turns [] = Unit {0}
NonePutOff turns (event ∷ past) =
    let d : Desk = place_after turns past in NonePutOff turns past × (puts_off (row_now d event.read event.ready) d event ≡ false)

-- If none is, each known message may be finished at once.
abbrev pub NoneIsPutOff : Type 0
NoneIsPutOff = (turns : Option ℕ) (past : List Own) → IsRunBy (Next turns) past → NonePutOff turns past → All (λ (k : Known). k.finish_at ≡ 0) (place_after turns past).book.messages.known
