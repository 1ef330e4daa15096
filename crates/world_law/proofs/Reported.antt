-- Recipients that ledgers have as delivered, or as failed, were reported so, and those that were reported are in the ledgers.
use Rattle.address_rules.specs.declared.controls.Controls.{Controls}
use Rattle.std.proofs.Common.{◌≡◌, ℕ, List, [], ◌∷◌, ◌++◌, Bool, true, false, Option, Some, None, refl, sym, ap, ◌∙◌, subst}
use Rattle.call_fs.specs.Disk.{Among, Disk}
use Rattle.call_fs.specs.Past.{IsRunBy}
use Rattle.call_fs.specs.declared.past.GotData.{GotData}
use Rattle.call_fs.specs.declared.past.NeedData.{NeedData}
use Rattle.call_fs.specs.declared.past.NeedData.TheVariants as needs
use Rattle.call_fs.specs.declared.past.Own.{Own}
use Rattle.call_fs.specs.declared.program.Ready.{Ready}
use Rattle.queue_law.specs.Books.{Books, Injection}
use Rattle.queue_law.specs.Entered.{Child, booked_all, line_said}
use Rattle.queue_law.specs.Ledgers.{HasGrown, Ledger, Line, Spot}
use Rattle.queue_law.specs.Ledgers.Line.{Delivers, Fails}
use Rattle.send_core.specs.Past.{account}
use Rattle.send_core.specs.Table.{Next, place_after as sender_after}
use Rattle.send_jobs.specs.Bookings.{Booking}
use Rattle.send_jobs.specs.Bookings.Booking.{Reported}
use Rattle.send_known.specs.declared.channel.Channel.{Channel}
use Rattle.send_runs.specs.Reports.{WasReported, taken_by, taken_when}
use Rattle.send_runs.proofs.Flights.{all_settled, flights_were_given}
use Rattle.send_runs.proofs.Reports.{enters, was_entered}
use Rattle.spawn_protocol.specs.declared.report.Report.{Report as Told}
use Rattle.world_events.specs.declared.event.Program.{Program}
use Rattle.world_events.specs.declared.event.Program.TheVariants.{Sender}
use Rattle.mail_world.proofs.Coming.{may_come}
use Rattle.mail_world.specs.History.{Actor, Event, Legal, Life, MayDo, State, acted, after, books_after, bouncer_of, happens, next_of, told_by}
use Rattle.mail_world.specs.History.Event.{Act}
use Rattle.world_law.specs.Reported.{IsTaken, LedgersAreOfReports, TakenAreEntered, WasTaken, WereTaken, spots_in}
use Rattle.world_law.proofs.Lives.{HasLine, IsEntry, all_forth, all_there, booking_of, entries_by, legal_until, lines_were_entered, stays_in}
use Rattle.world_law.proofs.Ran.{have_run}
use Rattle.world_law.proofs.Tenants.{some_actor}

-- What is entered was taken

module _ (d : Disk) (h : List Event) (name : List ℕ) (own : Own) (wrote : ℕ) (start : ℕ) (past : List Own) (life : Life)
    (is : (after d h).actors name ≡ Some (record { program = Sender start; past = past; life = life })) (run : IsRunBy (Next None) (own ∷ past)) where
  taken_now : (delivered : Bool) (n : ℕ) (x : Spot) → Among (Reported delivered x.channel n x.place) (entries_by (Sender start) past own.read own.ready own.came)
      → IsTaken d (Act name own wrote ∷ h) delivered n x
  taken_now delivered n x among =
      let w : WasReported past own delivered x.channel n x.place = was_entered None past own run delivered n x.place x.channel among in
      let flies = all_settled w.report.slot w.task w.earlier (account x.channel past) w.flies in record {
        event = record {
          name = name;
          own = own;
          wrote = wrote;
          earlier = h;
          all = refl;
          sender = record { program = Sender start; past = past; life = life };
          is = is;
          start = start;
          program = refl;
        };
        reported = w;
        given = flights_were_given x.channel past w.report.slot w.task flies.0;
        first = flies.1;
      }

-- the past with the event that an actor did, if it is a sender
ran_now : (d : Disk) (h : List Event) (name : List ℕ) (own : Own) (wrote : ℕ) → Legal d (Act name own wrote ∷ h) → (start : ℕ) (sender : Actor) → sender.program ≡ Sender start
    → (after d h).actors name ≡ Some sender → IsRunBy (Next None) (own ∷ sender.past)
ran_now d h name own wrote legal start sender program is =
    let may : MayDo (after d h) name own wrote = legal.1 in
    let same : may.actor ≡ sender = some_actor may.actor sender (sym may.reads.is ∙ is) in
    let due : next_of sender.program sender.past own.read own.ready ≡ own.due = subst (λ (x : Actor). next_of x.program x.past own.read own.ready ≡ own.due) same may.due in
    let due_is : next_of (Sender start) sender.past own.read own.ready ≡ own.due = subst (λ (p : Program). next_of p sender.past own.read own.ready ≡ own.due) program due in
    let ran : IsRunBy (Next None) sender.past = subst (λ (p : Program). IsRunBy (next_of p) sender.past) program (have_run d h legal.0 name sender is) in
    (ran, (due_is, may_come (after d h) name own.due own.came wrote may.came))

of_entry : (d : Disk) (h : List Event) → Legal d h → (delivered : Bool) (n : ℕ) (x : Spot) (y : Line) → booking_of n y ≡ Reported delivered x.channel n x.place → IsEntry d h n y → IsTaken d h delivered n x
of_entry d h legal delivered n x y of w =
    let legal_then : Legal d (Act w.name w.own w.wrote ∷ w.earlier) = subst (Legal d) w.all legal in
    let run = ran_now d w.earlier w.name w.own w.wrote legal_then w.start (record { program = Sender w.start; past = w.past; life = w.life }) refl w.is in
    subst (λ (t : List Event). IsTaken d t delivered n x) (sym w.all)
    (taken_now d w.earlier w.name w.own w.wrote w.start w.past w.life w.is run delivered n x
    (subst (λ (e : Booking). Among e (entries_by (Sender w.start) w.past w.own.read w.own.ready w.own.came)) of w.among))

pub were_taken : (delivered : Bool) → WereTaken delivered
were_taken true d h legal i here s among =
    let w = lines_were_entered d h legal i here (Delivers s) among in
    record { until = w.until; life = w.life; taken = of_entry d w.until (legal_until d h w.until i legal w.life) true i.number s (Delivers s) refl w.entry }
were_taken false d h legal i here s among =
    let w = lines_were_entered d h legal i here (Fails s) among in
    record { until = w.until; life = w.life; taken = of_entry d w.until (legal_until d h w.until i legal w.life) false i.number s (Fails s) refl w.entry }

-- What is taken is entered

not_empty : (xs : List Told) (y : Told) (ys : List Told) → [] ≡ xs ++ y ∷ ys → ⊥
not_empty [] y ys e = absurd (cc)
not_empty (x ∷ xs) y ys e = absurd (cc)

-- reports come with a taking, of which what they say is entered
books_told : (child : Option Child) (b : Books) (a : List ℕ) (start : ℕ) (past : List Own) (read : ℕ) (ready : Ready) (due : NeedData) (came : GotData) (c : Channel) (heard : Option (List ℕ))
    (xs : List Told) (y : Told) (ys : List Told) → taken_when (taken_by due came c) heard ≡ xs ++ y ∷ ys
    → books_after child b a (Sender start) past read ready due came ≡ told_by child b (Sender start) past read ready came
books_told child b a start past read ready (needs.Take p) came c heard xs y ys e = refl
books_told child b a start past read ready due came c heard xs y ys e = absurd (not_empty xs y ys e)

-- what an event of a sender enters that takes a report
module _ (d : Disk) (h : List Event) (name : List ℕ) (own : Own) (wrote : ℕ) (legal : Legal d (Act name own wrote ∷ h)) (sender : Actor) (is : (after d h).actors name ≡ Some sender)
    (start : ℕ) (program : sender.program ≡ Sender start) (delivered : Bool) (c : Channel) (n place : ℕ) (w : WasReported sender.past own delivered c n place) where
  abbrev s : State
  s = after d h

  abbrev es : List Booking
  es = entries_by (Sender start) sender.past own.read own.ready own.came

  abbrev child : Option Child
  child = bouncer_of s name

  abbrev by : Controls
  by = (sender_after None sender.past).book.controls

  books : (happens s (Act name own wrote)).books ≡ booked_all child by es s.books
  books =
      ap (λ (o : Option Actor). (acted s name own wrote o).books) is
      ∙ ap (λ (p : Program). books_after child s.books name p sender.past own.read own.ready own.due own.came) program
      ∙ books_told child s.books name start sender.past own.read own.ready own.due own.came c (account c sender.past).heard w.earlier w.report w.later w.taken

  among : Among (Reported delivered c n place) es
  among = enters None sender.past own (ran_now d h name own wrote legal start sender program is) delivered n place c w

  there : (j : Injection) → (happens s (Act name own wrote)).books.living n ≡ Some j → HasLine (line_said delivered (record { channel = c; place = place })) j.ledger
  there j lives = all_there child by es n delivered (record { channel = c; place = place }) s.books j among (subst (λ (b : Books). b.living n ≡ Some j) books lives)

  goes : (i : Injection) → s.books.living n ≡ Some i
      → (j : Injection) × ((happens s (Act name own wrote)).books.living n ≡ Some j) × (j.args ≡ i.args) × HasGrown i.ledger j.ledger
  goes i lives = subst (λ (b : Books). (j : Injection) × (b.living n ≡ Some j) × (j.args ≡ i.args) × HasGrown i.ledger j.ledger) (sym books) (all_forth child by es s.books n i lives)

spots_of : (delivered : Bool) (s : Spot) (l : Ledger) → HasLine (line_said delivered s) l → Among s (spots_in delivered l)
spots_of true s l h = h
spots_of false s l h = h

pub taken_are_entered : (delivered : Bool) → TakenAreEntered delivered
taken_are_entered delivered d name own wrote h legal sender is start program c n place w i lives =
    let j = goes d h name own wrote legal sender is start program delivered c n place w i lives in
    (j.0, j.1, j.2, j.3, spots_of delivered (record { channel = c; place = place }) j.0.ledger (there d h name own wrote legal sender is start program delivered c n place w j.0 j.1))

-- so the ledgers have just those that were reported
entered_taken : (delivered : Bool) (d : Disk) (h : List Event) → Legal d h → (i : Injection) (s : Spot) → WasTaken d h delivered i s → Among s (spots_in delivered i.ledger)
entered_taken delivered d h legal i s w =
    let taken = w.taken in
    let t = taken.event in
    let then_legal : Legal d (Act t.name t.own t.wrote ∷ t.earlier) = subst (Legal d) t.all (legal_until d h w.until i legal w.life) in
    spots_of delivered s i.ledger
    (stays_in d h w.until i (line_said delivered s) legal w.life
    (λ j lives. there d t.earlier t.name t.own t.wrote then_legal t.sender t.is t.start t.program delivered s.channel i.number s.place taken.reported j
    (subst (λ (z : List Event). (after d z).books.living i.number ≡ Some j) t.all lives)))

pub ledgers_are_of_reports : LedgersAreOfReports
ledgers_are_of_reports d h legal i here s = (
  (λ among. were_taken true d h legal i here s among, λ was. entered_taken true d h legal i s was),
  (λ among. were_taken false d h legal i here s among, λ was. entered_taken false d h legal i s was),
)
