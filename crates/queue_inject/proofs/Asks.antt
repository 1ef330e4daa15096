-- What an injector asks for is a call, a wait or its end, so only answers to calls come to it.
use Rattle.std.proofs.Common.{◌≡◌, ◌≢◌, Bor, ℕ, List, Bool, true, false, refl, ap, ◌∙◌, subst}
use Rattle.call_fs.specs.declared.calls.CallData.{CallData}
use Rattle.call_fs.specs.declared.calls.Told.{Told}
use Rattle.call_fs.specs.declared.program.Ready.{Ready}
use Rattle.call_fs.specs.Columns.{IsAnswerTo}
use Rattle.call_fs.specs.declared.calls.Answer.{Answer}
use Rattle.call_fs.specs.declared.program.Got.{Got}
use Rattle.call_fs.specs.declared.program.Got.TheVariants as got
use Rattle.call_fs.specs.Program.{IsKind, MayCome, came_of}
use Rattle.call_fs.specs.declared.past.NeedData.{NeedData}
use Rattle.call_fs.specs.declared.past.NeedData.TheVariants as needs
use Rattle.call_fs.specs.declared.past.GotData.{GotData}
use Rattle.call_fs.specs.declared.past.GotData.TheVariants.{Answered}
use Rattle.call_fs.specs.declared.past.Own.{Own}
use Rattle.queue_inject.specs.declared.injection.Arguments.{Arguments}
use Rattle.queue_inject.specs.declared.row.Row.{Row}
use Rattle.queue_inject.specs.declared.row.Row.TheVariants as at
use Rattle.queue_inject.specs.Table.{Next, call_at, work_of, next_piece, place_after, in_time, has_input, is_late}
use Rattle.queue_inject.specs.Machine.{Machine, is_call, due_now, late_now, row_now}
use Rattle.queue_inject.specs.Run.{IsDue}

pub data IsAsked : NeedData → Type 0 where
  ForCall : (call : CallData) → IsAsked (needs.File call)
  ToWait : IsAsked needs.Wait
  AtEnd : (status : ℕ) → IsAsked (needs.Ended status)

call_asks : (pid start : ℕ) (piece : List ℕ) (row : Row) → IsAsked (call_at pid start piece row)
call_asks pid start piece (at.Create k) = ForCall _
call_asks pid start piece (at.LinkMess k n fd) = ForCall _
call_asks pid start piece (at.UnlinkPid k n fd) = ForCall _
call_asks pid start piece (at.AppendMess n fd done) = ForCall _
call_asks pid start piece (at.SyncMess n fd) = ForCall _
call_asks pid start piece (at.CreateIntd n) = ForCall _
call_asks pid start piece (at.AppendTodo n fd done) = ForCall _
call_asks pid start piece (at.SyncTodo n fd) = ForCall _
call_asks pid start piece (at.LinkTodo n) = ForCall _
call_asks pid start piece (at.CleanIntd n status) = ForCall _
call_asks pid start piece (at.CleanMess n status) = ForCall _
call_asks pid start piece at.Queued = AtEnd 0
call_asks pid start piece (at.Failed status) = AtEnd status

asks_in_time : (input late : Bool) {due : NeedData} → IsAsked due → IsAsked (in_time input late due)
asks_in_time true true (ForCall call) = AtEnd 52
asks_in_time true false (ForCall call) = ForCall call
asks_in_time false late (ForCall call) = ToWait
asks_in_time true true ToWait = ToWait
asks_in_time true false ToWait = ToWait
asks_in_time false late ToWait = ToWait
asks_in_time input late (AtEnd status) = AtEnd status

next_asks : (args : Arguments) (past : List Own) (now : ℕ) (ready : Ready) → IsAsked (Next args past now ready)
next_asks args past now ready =
    asks_in_time (has_input ready) (is_late args now) (call_asks args.pid args.start (next_piece (work_of args) (place_after args past)) (place_after args past))

-- what came of it

-- it is a call, and this is an answer
pub record IsAnswered (due : NeedData) (came : GotData) : Type 0 where
  pub call : CallData
  pub told : Told
  pub due_is : due ≡ needs.File call
  pub came_is : came ≡ Answered told

kind_answers : {due : NeedData} (came : GotData) → IsAsked due → IsKind due came → IsAnswered due came
kind_answers (Answered told) (ForCall call) kind = record { call = call; told = told; due_is = refl; came_is = refl }
kind_answers _ (ForCall call) kind = absurd kind
kind_answers came ToWait kind = absurd kind
kind_answers came (AtEnd status) kind = absurd kind

may_answer : {due : NeedData} (came : GotData) → IsAsked due → MayCome due came → IsAnswered due came
may_answer (Answered told) (ForCall call) may = record { call = call; told = told; due_is = refl; came_is = refl }
may_answer _ (ForCall call) may = absurd may
may_answer came ToWait may = absurd may
may_answer came (AtEnd status) may = absurd may

pub machine_answered : (m : Machine) (came : GotData) → IsKind (due_now m) came → IsAnswered (due_now m) came
machine_answered m came kind = kind_answers came (asks_in_time (has_input m.ready) (late_now m) (call_asks m.pid m.start m.heard.piece (row_now m))) kind

pub is_call_of : {due : NeedData} {came : GotData} → IsAnswered due came → is_call due ≡ true
is_call_of a = ap is_call a.due_is

-- an event that was due is a call with an answer that it may get
pub record IsCallAt (args : Arguments) (before : List Own) (event : Own) : Type 0 where
  pub call : CallData
  pub told : Told
  pub next : Next args before event.read event.ready ≡ needs.File call
  pub due : event.due ≡ needs.File call
  pub came : event.came ≡ Answered told
  pub fits : IsAnswerTo call told.answer

pub call_at_due : (args : Arguments) (before : List Own) (event : Own) → IsDue args before event → IsCallAt args before event
call_at_due args before event (next, may) =
    let a = may_answer event.came (subst IsAsked next (next_asks args before event.read event.ready)) may in
    record {
      call = a.call;
      told = a.told;
      next = next ∙ a.due_is;
      due = a.due_is;
      came = a.came_is;
      fits = subst (λ c. MayCome (needs.File a.call) c) a.came_is (subst (λ d. MayCome d event.came) a.due_is may);
    }

-- what is handed in as an answer is the answer to a file call
pub no_other_answer : (g : Got) (told : Told) → came_of g ≡ Answered told → ((answer : Answer) (bytes : Bor (List ℕ)) → g ≢ got.File answer bytes) → ⊥
no_other_answer (got.File answer bytes) told is none = none answer bytes refl
no_other_answer (got.Took bytes) told is none = absurd (cc)
no_other_answer got.End told is none = absurd (cc)
no_other_answer (got.Ended status) told is none = absurd (cc)
no_other_answer got.Crashed told is none = absurd (cc)
no_other_answer got.Gave told is none = absurd (cc)
no_other_answer (got.Started pid) told is none = absurd (cc)
no_other_answer got.Failed told is none = absurd (cc)
no_other_answer got.Memory told is none = absurd (cc)
