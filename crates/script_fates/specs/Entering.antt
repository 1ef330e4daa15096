-- What events of injectors and senders enter in the books. A history says the same of its actors.
use Rattle.std.specs.Prelude.{◌≡◌, ℕ, List, [], ◌∷◌, Option, None, is_none}
use Rattle.call_fs.specs.declared.past.GotData.{GotData}
use Rattle.call_fs.specs.declared.past.GotData.TheVariants.{Answered}
use Rattle.call_fs.specs.declared.past.NeedData.{NeedData}
use Rattle.call_fs.specs.declared.past.NeedData.TheVariants as needs
use Rattle.call_fs.specs.declared.past.Own.{Own}
use Rattle.call_fs.specs.declared.program.Ready.{Ready}
use Rattle.call_fs.specs.Past.{IsRunBy}
use Rattle.mail_bytes.specs.Moments.{IsMoment}
use Rattle.queue_inject.specs.declared.injection.Arguments.{Arguments}
use Rattle.queue_law.specs.Books.{Books, booked, entered_in}
use Rattle.queue_law.specs.Entered.{Child as Bouncer, booked_all, line_said}
use Rattle.send_core.specs.Booked.{booked_at}
use Rattle.send_core.specs.Table.{Next, place_after as sender_after, row_now}
use Rattle.send_jobs.specs.declared.attempts.Mark.{Mark}
use Rattle.send_known.specs.declared.channel.Channel.{Channel}

-- the books after an event of an injector: a file call enters what its answer says of the injection
abbrev pub booked_after : Books → List ℕ → Arguments → NeedData → GotData → Books
booked_after b a args (needs.File call) (Answered told) = booked b a args call told.answer
booked_after b a args due came = b

-- An event of a sender is due by its past, which is a run.
pub record HasDue (past : List Own) (own : Own) : Type 0 where
  pub run : IsRunBy (Next None) past
  pub moment : IsMoment own.read
  pub due : Next None past own.read own.ready ≡ own.due

-- what a sender with this child enters of what came, with the controls that it has read
abbrev pub said_after : Option Bouncer → Books → List Own → ℕ → Ready → GotData → Books
said_after child b past read ready came =
    let d = sender_after None past in booked_all child d.book.controls (booked_at (row_now d read ready) came d) b

-- the books after an event of it: a file call, a taking and a giving enter that, any other event nothing
abbrev pub heard_after : Option Bouncer → Books → List Own → ℕ → Ready → NeedData → GotData → Books
heard_after child b past read ready (needs.File call) (Answered told) = said_after child b past read ready (Answered told)
heard_after child b past read ready (needs.Take port) came = said_after child b past read ready came
heard_after child b past read ready (needs.Give port bytes) came = said_after child b past read ready came
heard_after child b past read ready due came = b

abbrev pub heard_by : Option Bouncer → List Own → Own → Books → Books
heard_by child past own b = heard_after child b past own.read own.ready own.due own.came

-- The books when the recipient of a mark of a channel is reported: it was delivered to if nothing is to be noted of it, and failed for good
-- else. And when those of these marks are, one after the other.
abbrev pub entered_by : Channel → Mark → Books → Books
entered_by c m b = entered_in b m.attempt.n (line_said (is_none m.note) (record { channel = c; place = m.attempt.place }))

abbrev pub entered_of : Channel → List Mark → Books → Books
entered_of c [] b = b
entered_of c (m ∷ marks) b = entered_of c marks (entered_by c m b)
