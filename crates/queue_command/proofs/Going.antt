-- An injector that takes its turns, whatever its input is read from.
use Rattle.std.proofs.Common.{◌≡◌, ◌≢◌, ℕ, ◌+◌, ◌≤◌, List, [], ◌∷◌, length, Bool, true, false, if◌then◌else◌, nat_lt, Option, Some, None, refl, sym, ap, ◌∙◌, subst, arith}
use Rattle.call_fs.specs.declared.calls.Told.{Told}
use Rattle.call_fs.specs.declared.program.Ready.{Ready}
use Rattle.call_fs.specs.declared.past.GotData.{GotData}
use Rattle.call_fs.specs.declared.past.GotData.TheVariants.{Answered}
use Rattle.call_fs.specs.declared.past.NeedData.{NeedData}
use Rattle.call_fs.specs.declared.past.NeedData.TheVariants as needs
use Rattle.call_fs.specs.declared.past.Own.{Own}
use Rattle.call_fs.specs.Past.{LeadsTo, calls_of, moments_of}
use Rattle.call_fs.specs.Program.{MayCome}
use Rattle.mail_bytes.specs.Told.{Meets, Rose}
use Rattle.queue_inject.specs.declared.injection.Arguments.{Arguments}
use Rattle.queue_inject.specs.declared.injection.InputEnd.{InputEnd}
use Rattle.queue_inject.specs.declared.injection.InputEnd.TheVariants as ends
use Rattle.queue_inject.specs.declared.injection.Part.{Part}
use Rattle.queue_inject.specs.declared.intake.Verdict.{Verdict}
use Rattle.queue_inject.specs.declared.intake.Verdict.TheVariants.{Open, Whole, Faulty}
use Rattle.queue_inject.specs.declared.row.Row.{Row}
use Rattle.queue_inject.specs.declared.row.Row.TheVariants as at
use Rattle.queue_inject.specs.Table.{Next, call_at, in_time, is_late, place_after, work_of, next_piece}
use Rattle.queue_inject.specs.Texts.{limit, message_text, message_end}
use Rattle.queue_inject.specs.Machine.{Machine, asks, gone_on}
use Rattle.queue_inject.specs.Stands.{Stands, HearsMessage, Hears, IsStartedBy}
use Rattle.program_runner.specs.Outside.{AreKept}
use Rattle.program_runner.specs.Outside.{Outside as Around}
use Rattle.program_runner.specs.Runs.{IsRunning, GoesOn, IsTurn, IsPlain, MayTurn}
use Rattle.program_runner.specs.Runs.{HasRun as HasRunTo}
use Rattle.call_fs.specs.declared.program.TheConstants.{INPUT_READY}
use Rattle.program_runner.proofs.Deeds.{kept_more, kept_one}
use Rattle.program_runner.proofs.Runs.{begins, narrows, may_turn, turned_on, turned_to_end}
use Rattle.queue_command.specs.Inputs.{Heard, Portion, unread}
use Rattle.queue_command.specs.Feeding.{TellsBy, IsFed}
use Rattle.queue_command.specs.Runs.{Outside, Who, IsPossible, HasRun}
use Rattle.queue_command.proofs.Keeping.{Keeps, KeepsMessage, KeepsIn, keeps_after, keeps_fed, heard_on, open_to, fewer, tells_more}
use Rattle.queue_command.proofs.Possible.{some_arguments, some_possible}

-- What an injector does next is a file call, or it has ended

abbrev IsAct : NeedData → Type 0
IsAct (needs.File call) = Unit {0}
IsAct (needs.Ended status) = Unit {0}
IsAct due = ⊥

act_in_time : (late : Bool) (due : NeedData) → IsAct due → IsAct (in_time true late due)
act_in_time true (needs.File call) act = tt
act_in_time false (needs.File call) act = tt
act_in_time late (needs.Ended status) act = tt
act_in_time late due act = absurd act

call_act : (pid start : ℕ) (piece : List ℕ) (row : Row) → IsAct (call_at pid start piece row)
call_act pid start piece (at.Create seq) = tt
call_act pid start piece (at.LinkMess seq n fd) = tt
call_act pid start piece (at.UnlinkPid seq n fd) = tt
call_act pid start piece (at.AppendMess n fd done) = tt
call_act pid start piece (at.SyncMess n fd) = tt
call_act pid start piece (at.CreateIntd n) = tt
call_act pid start piece (at.AppendTodo n fd done) = tt
call_act pid start piece (at.SyncTodo n fd) = tt
call_act pid start piece (at.LinkTodo n) = tt
call_act pid start piece (at.CleanIntd n status) = tt
call_act pid start piece (at.CleanMess n status) = tt
call_act pid start piece at.Queued = tt
call_act pid start piece (at.Failed status) = tt

next_act : (args : Arguments) (past : List Own) (now : ℕ) → IsAct (Next args past now INPUT_READY)
next_act args past now =
    act_in_time (is_late args now) _ (call_act args.pid args.start (next_piece (work_of args) (place_after args past)) (place_after args past))

act_plain : (due : NeedData) → IsAct due → IsPlain due
act_plain (needs.File call) act = tt
act_plain (needs.Ended status) act = tt
act_plain due act = absurd act

pub next_plain : (args : Arguments) (past : List Own) (now : ℕ) → IsPlain (Next args past now INPUT_READY)
next_plain args past now = act_plain (Next args past now INPUT_READY) (next_act args past now)

came_answer : (due : NeedData) (came : GotData) → IsAct due → MayCome due came → (told : Told) × (came ≡ Answered told)
came_answer (needs.File call) (Answered told) act may = (told, refl)
came_answer (needs.File call) came act may = absurd may
came_answer (needs.Ended status) came act may = absurd may
came_answer due came act may = absurd act

-- An injector that goes on: it ran so far for whatever arguments are possible, and keeps what was heard of its input.
pub record IsGoing (who : Who) (start : ℕ) (m : Machine) (heard : Heard) (old now : Around) : Type 0 where
  pub turns : ℕ
  pub running : IsRunning Next (Stands m) (IsPossible who start heard) INPUT_READY start turns old now
  pub keeps : Keeps m heard

-- a message that ends unread is faulty, so no new injector takes its message as whole
faulty : (t : Bool) (end : InputEnd) → end ≡ ends.Unread → (if t then Some 31 else message_end end) ≢ None
faulty true end is e = absurd (cc)
faulty false ends.Whole is e = absurd (cc)
faulty false ends.Unread is e = absurd (cc)
faulty false ends.Malformed is e = absurd (cc)

unfinished : (v : Verdict) (m : Machine) (args : Arguments) → HearsMessage v m.heard args 0 → args.message_end ≡ ends.Unread → v ≢ Whole
unfolding message_text
unfinished Open m args hears end = λ e. absurd (cc)
unfinished (Faulty status) m args hears end = λ e. absurd (cc)
unfinished Whole m args hears end = λ e. faulty (nat_lt limit (length args.message)) args.message_end end hears.1

keeps_nothing : (v : Verdict) → v ≢ Whole → KeepsMessage v 0 unread
keeps_nothing Open closed = (refl, refl)
keeps_nothing Whole closed = absurd (closed refl)
keeps_nothing (Faulty status) closed = tt

-- what a turn makes of an injector
abbrev pub Became : Machine → Machine → ℕ → Ready → GotData → Type 0
Became m n read found came = (k : Machine) × (k ≡ record m { present = read; ready = found }) × ((told : Told) → came ≡ Answered told → n ≡ gone_on k told.answer)

-- the disk and the clock, of all that lies outside
abbrev pub part_of : Around → Outside
part_of o = record { disk = o.disk; calls = o.calls; faults = o.disk_faults; moments = o.moments }

module _ (who : Who) (start : ℕ) where
  -- It begins

  pub goes_new : (m : Machine) (o : Around) → start ≤ o.last → m.row ≡ at.Create 1 → m.heard.fed ≡ 0
      → ((args : Arguments) → IsStartedBy args who.uid who.pid who.invoked start → Stands m args [])
      → IsGoing who start m (record { message = unread; envelope = unread }) o o
  goes_new m o later row fed stands =
      let cut : Arguments = record (some_arguments who start (record { message = unread; envelope = unread })) { message_end = ends.Unread } in
      let here = stands cut (record { uid_is = refl; pid_is = refl; invoked_is = refl; start_is = refl }) in
      let hears : HearsMessage m.heard.verdict m.heard cut 0 = subst (λ r. Hears r m.heard cut) row here.hears in
      record {
        turns = 0;
        running = begins Next INPUT_READY start (Stands m) (IsPossible who start (record { message = unread; envelope = unread })) o (λ args is. stands args is.started) later;
        keeps = subst (λ r. KeepsIn r m.heard (record { message = unread; envelope = unread })) (sym row)
            (refl, subst (λ k. KeepsMessage m.heard.verdict k unread) (sym fed) (keeps_nothing m.heard.verdict (unfinished m.heard.verdict m cut hears refl)));
      }

  -- It is fed

  pub goes_fed : (m n : Machine) (heard : Heard) (part : Part) (more : Portion) (old now : Around) → asks m ≡ Some part → IsFed m n more.end more.bytes
      → IsGoing who start m heard old now → IsGoing who start n (heard_on part heard more) old now
  goes_fed m n heard part more old now e fed b =
      let going = (open_to m heard part e b.keeps).1 in
      record {
        turns = b.turns;
        running = narrows Next INPUT_READY start (Stands m) (Stands n) (IsPossible who start heard) (IsPossible who start (heard_on part heard more)) b.turns old now
            (λ args is. fewer who start heard part more args going.0 is)
            (λ args past is s. fed.stands args past s
            (subst (λ o. TellsBy o m.heard.fed args more.end more.bytes) (sym e) (tells_more who start m.heard.fed heard part more args going.1 is)))
            b.running;
        keeps = keeps_fed m n heard part more e b.keeps fed;
      }

  -- It takes a turn

  pub goes_may : (m : Machine) (heard : Heard) (old mid : Around) → IsGoing who start m heard old mid → MayTurn Next (Stands m) INPUT_READY mid.disk
  goes_may m heard old mid b = may_turn Next INPUT_READY start (Stands m) (IsPossible who start heard) b.turns old mid (some_arguments who start heard) (some_possible who start heard)
      (λ args past read run. next_plain args past read) b.running

  module _ (m n : Machine) (heard : Heard) (old mid new : Around) (b : IsGoing who start m heard old mid) where
    keeps_turned : GoesOn Next (Stands m) (Stands n) (Became m n) INPUT_READY mid new → Keeps n heard
    keeps_turned g =
        let args = some_arguments who start heard in
        let due = g.due args b.running.past (b.running.holds args (some_possible who start heard)) in
        let act : IsAct g.event.due = subst IsAct (subst (λ r. Next args b.running.past g.event.read r ≡ g.event.due) g.found due) (next_act args b.running.past g.event.read) in
        let answer = came_answer g.event.due g.event.came act g.came in
        let became = g.changed in
        let is : n ≡ gone_on (record m { present = g.event.read; ready = INPUT_READY }) answer.0.answer = became.2 answer.0 answer.1 ∙ ap (λ k. gone_on k answer.0.answer) became.1 in
        subst (λ x. Keeps x heard) (sym is) (keeps_after m.heard.piece m.heard.fed m.heard.reader m.uid m.pid heard m.row m.heard.verdict answer.0.answer b.keeps)

    pub goes_turned : (ended : Option ℕ) → ended ≡ None → IsTurn Next (Stands m) (Stands n) (Became m n) INPUT_READY ended mid new → IsGoing who start n heard old new
    goes_turned ended none t = record {
      turns = b.turns + 1;
      running = turned_on Next INPUT_READY start (Stands m) (Stands n) (Became m n) (IsPossible who start heard) b.turns old mid new ended none b.running t;
      keeps = keeps_turned (subst (λ e. IsTurn Next (Stands m) (Stands n) (Became m n) INPUT_READY e mid new) none t);
    }

    -- It has ended

    ended_run : (possible : Arguments → Type 0) (status : ℕ) (first last : Around) → HasRunTo Next possible INPUT_READY start status first last
        → HasRun possible start (part_of first) (part_of last) status
    ended_run possible status first last r =
        let disk : last.disk ≡ r.before_last.disk = ap (λ (o : Around). o.disk) r.looks.rest in
        let calls : last.calls ≡ r.before_last.calls = ap (λ (o : Around). o.calls) r.looks.rest in
        let faults : last.disk_faults ≡ r.before_last.disk_faults = ap (λ (o : Around). o.disk_faults) r.looks.rest in
        record {
          past = r.past;
          last = r.last;
          run = r.run;
          ends = r.ends;
          ready = r.finds;
          in_order = r.did.in_order;
          later = let h = r.did.later in let k = r.looks.later in omega arith;
          calls = subst (λ c. AreKept first.calls c (calls_of r.past)) (sym calls) r.did.calls;
          moments = kept_more first.moments r.before_last.moments last.moments (moments_of r.past) (r.last ∷ []) r.did.moments (kept_one r.before_last.moments last.moments r.last r.looks.moments);
          disk = subst (λ d. Meets first.disk d (λ before after. LeadsTo before r.past after)) (sym disk) r.did.disk;
          counts = let h = r.did.disk_counts in omega arith;
          cause = λ h. subst (λ k. Rose first.disk_faults k) (sym faults) (r.did.disk_cause h);
        }

    pub goes_to_end : (ended : Option ℕ) (status : ℕ) → ended ≡ Some status → IsTurn Next (Stands m) (Stands n) (Became m n) INPUT_READY ended mid new
        → HasRun (IsPossible who start heard) start (part_of old) (part_of new) status
    goes_to_end ended status is t = ended_run (IsPossible who start heard) status old new
        (turned_to_end Next INPUT_READY start (Stands m) (Stands n) (Became m n) (IsPossible who start heard) b.turns old mid new ended status is b.running t)
