-- A call that is counted, from what it does uncounted.
use Rattle.std.proofs.Common.{◌≡◌, ◌≢◌, ℕ, ◌≤◌, List, Bool, true, false, Option, Result, Ok, Err, refl, sym, ap, ◌∙◌}
use Rattle.std.specs.Prelude.{IfOk, IsOk, IsSome, OnErr, IsErrOf}
use Rattle.call_fs.specs.declared.calls.Fd.{Fd}
use Rattle.call_fs.specs.declared.calls.Stat.{Stat as StatOf}
use Rattle.call_fs.specs.declared.calls.FsError.{FsError}
use Rattle.call_fs.specs.declared.calls.FsError.TheVariants.{NotThere, Exists, Fault, Memory}
use Rattle.call_fs.specs.declared.calls.CallData.{CallData}
use Rattle.call_fs.specs.declared.calls.CallData.TheVariants as call
use Rattle.call_fs.specs.declared.calls.Answer.{Answer}
use Rattle.call_fs.specs.declared.calls.Answer.TheVariants.{Refused, Done}
use Rattle.call_fs.specs.declared.calls.How.{How}
use Rattle.call_fs.specs.declared.modes.Mode.{Mode}
use Rattle.call_fs.specs.Calls.{created, opened, counted, done, stated, next_found}
use Rattle.call_fs.specs.Columns.{IsAnswerTo, IsNumberIn, IsMomentIn}
use Rattle.call_fs.specs.Told.{HasCause, AnswerHasCause}
use Rattle.mail_bytes.specs.Moments.{IsMoment}
use Rattle.host_fs.specs.Modes.{Opens, OpensNone, Leaves, FitsOpen}
use Rattle.host_fs.specs.Listing.{FoundAfter, ComesAfter}
use Rattle.host_fs.specs.Refusals.{count_after, count_told}

-- how each kind of call answers

as_told : (T : Type 0) (n : ℕ) (why : FsError) → count_after {T = T} n (Err why) ≡ count_told n (Refused why)
as_told T n NotThere = refl
as_told T n Exists = refl
as_told T n Fault = refl
as_told T n Memory = refl

-- an outcome is answered as it is
pub record Answers {T : Type 0} (f : Result T FsError → Answer) : Type 0 where
  pub err : (why : FsError) → f (Err why) ≡ Refused why
  pub uncounted : (n : ℕ) (x : T) → count_told n (f (Ok x)) ≡ n
  pub served : (x : T) → f (Ok x) ≢ Refused Fault

pub as_created : Answers created
as_created = record { err = λ why. refl; uncounted = λ n x. refl; served = λ x is. absurd (cc) }

pub as_opened : Answers opened
as_opened = record { err = λ why. refl; uncounted = λ n x. refl; served = λ x is. absurd (cc) }

pub as_counted : Answers counted
as_counted = record { err = λ why. refl; uncounted = λ n x. refl; served = λ x is. absurd (cc) }

pub as_done : Answers done
as_done = record { err = λ why. refl; uncounted = λ n x. refl; served = λ x is. absurd (cc) }

pub as_stated : Answers stated
as_stated = record { err = λ why. refl; uncounted = λ n x. refl; served = λ x is. absurd (cc) }

pub as_found : (name : List ℕ) → Answers (λ r. next_found r name)
as_found name = record { err = λ why. refl; uncounted = same; served = apart }
  where
    same : (n : ℕ) (found : Bool) → count_told n (next_found (Ok found) name) ≡ n
    same n true = refl
    same n false = refl

    apart : (found : Bool) → next_found (Ok found) name ≢ Refused Fault
    apart true is = absurd (cc)
    apart false is = absurd (cc)

module _ {T : Type 0} {f : Result T FsError → Answer} (a : Answers f) where
  pub count_as : (n : ℕ) (r : Result T FsError) → count_after n r ≡ count_told n (f r)
  count_as n (Ok x) = sym (a.uncounted n x)
  count_as n (Err why) = as_told T n why ∙ ap (count_told n) (sym (a.err why))

  pub fault_as : (r : Result T FsError) → IsErrOf r Fault → f r ≡ Refused Fault
  fault_as r is = ap f is ∙ a.err Fault

  pub cause_as : (before now : ℕ) (r : Result T FsError) → HasCause before now r → AnswerHasCause before now (f r)
  cause_as before now (Ok x) cause = record { later = cause.later; rose = λ is. absurd (a.served x is) }
  cause_as before now (Err why) cause = record { later = cause.later; rose = λ is. cause.rose (let refused : Refused why ≡ Refused Fault = sym (a.err why) ∙ is in cc) }

-- the answers that may come

pub kind_created : (name : List ℕ) (r : Result (Fd × ℕ) FsError) → IsAnswerTo (call.CreateExcl name) (created r)
kind_created name (Ok made) = tt
kind_created name (Err why) = tt

pub number_created : (r : Result (Fd × ℕ) FsError) → IfOk r (λ made. 1 ≤ made.1) → IsNumberIn (created r)
number_created (Ok made) one = one
number_created (Err why) one = tt

pub moment_created : (r : Result (Fd × ℕ) FsError) → IsMomentIn (created r)
moment_created (Ok made) = tt
moment_created (Err why) = tt

pub kind_opened : (name : List ℕ) (how : How) (r : Result Fd FsError) → ¬ (IsErrOf r Exists) → IsAnswerTo (call.Open name how) (opened r)
kind_opened name how (Ok fd) exists = tt
kind_opened name how (Err NotThere) exists = tt
kind_opened name how (Err Exists) exists = absurd (exists refl)
kind_opened name how (Err Fault) exists = tt
kind_opened name how (Err Memory) exists = tt

pub number_opened : (r : Result Fd FsError) → IsNumberIn (opened r)
number_opened (Ok fd) = tt
number_opened (Err why) = tt

pub moment_opened : (r : Result Fd FsError) → IsMomentIn (opened r)
moment_opened (Ok fd) = tt
moment_opened (Err why) = tt

pub kind_counted : (fd : Fd) (at len : ℕ) (r : Result ℕ FsError) → IfOk r (λ count. count ≤ len) → OnErr r (IsErrOf r Fault) → IsAnswerTo (call.ReadAt fd at len) (counted r)
kind_counted fd at len (Ok count) room fault = room
kind_counted fd at len (Err NotThere) room fault = absurd (cc)
kind_counted fd at len (Err Exists) room fault = absurd (cc)
kind_counted fd at len (Err Fault) room fault = tt
kind_counted fd at len (Err Memory) room fault = absurd (cc)

pub number_counted : (r : Result ℕ FsError) → IsNumberIn (counted r)
number_counted (Ok count) = tt
number_counted (Err why) = tt

pub moment_counted : (r : Result ℕ FsError) → IsMomentIn (counted r)
moment_counted (Ok count) = tt
moment_counted (Err why) = tt

pub kind_done : (c : CallData) → IsAnswerTo c Done → IsAnswerTo c (Refused Fault) → (r : Result (Unit {0}) FsError) → OnErr r (IsErrOf r Fault) → IsAnswerTo c (done r)
kind_done c ok fails (Ok x) fault = ok
kind_done c ok fails (Err NotThere) fault = absurd (cc)
kind_done c ok fails (Err Exists) fault = absurd (cc)
kind_done c ok fails (Err Fault) fault = fails
kind_done c ok fails (Err Memory) fault = absurd (cc)

pub kind_linked : (old new : List ℕ) (r : Result (Unit {0}) FsError) → IsAnswerTo (call.Link old new) (done r)
kind_linked old new (Ok x) = tt
kind_linked old new (Err why) = tt

pub kind_unlinked : (name : List ℕ) (r : Result (Unit {0}) FsError) → ¬ (IsErrOf r Exists) → ¬ (IsErrOf r Memory) → IsAnswerTo (call.Unlink name) (done r)
kind_unlinked name (Ok x) exists memory = tt
kind_unlinked name (Err NotThere) exists memory = tt
kind_unlinked name (Err Exists) exists memory = absurd (exists refl)
kind_unlinked name (Err Fault) exists memory = tt
kind_unlinked name (Err Memory) exists memory = absurd (memory refl)

pub number_done : (r : Result (Unit {0}) FsError) → IsNumberIn (done r)
number_done (Ok x) = tt
number_done (Err why) = tt

pub moment_done : (r : Result (Unit {0}) FsError) → IsMomentIn (done r)
moment_done (Ok x) = tt
moment_done (Err why) = tt

pub kind_stated : (name : List ℕ) (r : Result StatOf FsError) → ¬ (IsErrOf r Exists) → ¬ (IsErrOf r Memory) → IsAnswerTo (call.Stat name) (stated r)
kind_stated name (Ok x) exists memory = tt
kind_stated name (Err NotThere) exists memory = tt
kind_stated name (Err Exists) exists memory = absurd (exists refl)
kind_stated name (Err Fault) exists memory = tt
kind_stated name (Err Memory) exists memory = absurd (memory refl)

pub number_stated : (r : Result StatOf FsError) → IsNumberIn (stated r)
number_stated (Ok x) = tt
number_stated (Err why) = tt

pub moment_stated : (r : Result StatOf FsError) → IfOk r (λ stat. IsMoment stat.moment) → IsMomentIn (stated r)
moment_stated (Ok stat) moment = moment
moment_stated (Err why) moment = tt

pub kind_found : (dir after name : List ℕ) (r : Result Bool FsError) → ¬ (IsErrOf r Exists) → ¬ (IsErrOf r Memory) → IsAnswerTo (call.NextName dir after) (next_found r name)
kind_found dir after name (Ok true) exists memory = tt
kind_found dir after name (Ok false) exists memory = tt
kind_found dir after name (Err NotThere) exists memory = tt
kind_found dir after name (Err Exists) exists memory = absurd (exists refl)
kind_found dir after name (Err Fault) exists memory = tt
kind_found dir after name (Err Memory) exists memory = absurd (memory refl)

pub number_found : (name : List ℕ) (r : Result Bool FsError) → IsNumberIn (next_found r name)
number_found name (Ok true) = tt
number_found name (Ok false) = tt
number_found name (Err why) = tt

pub moment_found : (name : List ℕ) (r : Result Bool FsError) → IsMomentIn (next_found r name)
moment_found name (Ok true) = tt
moment_found name (Ok false) = tt
moment_found name (Err why) = tt

pub later_found : (dir after name : List ℕ) (r : Result Bool FsError) → IfOk r (λ found. FoundAfter found after name) → ComesAfter (call.NextName dir after) (next_found r name)
later_found dir after name (Ok true) later = later
later_found dir after name (Ok false) later = tt
later_found dir after name (Err why) later = tt

-- what is open

opens_then : (old mid new : ℕ → Option Mode) (fd : ℕ) (mode : Mode) → OpensNone mid new → Opens old mid fd mode → Opens old new fd mode
opens_then old mid new fd mode none opens = record { not_open = opens.not_open; open_now = none fd ∙ opens.open_now; others = λ other apart. none other ∙ opens.others other apart }

pub leaves_created : (old mid new : ℕ → Option Mode) (name : List ℕ) (r : Result (Fd × ℕ) FsError) → OpensNone mid new → IfOk r (λ made. Opens old mid made.0.0 Mode.Created) → OnErr r (OpensNone old mid) → Leaves (call.CreateExcl name) (created r) old new
leaves_created old mid new name (Ok made) same opens none = opens_then old mid new made.0.0 Mode.Created same opens
leaves_created old mid new name (Err why) same opens none = λ fd. same fd ∙ none fd

pub leaves_opened : (old mid new : ℕ → Option Mode) (name : List ℕ) (how : How) (r : Result Fd FsError) → OpensNone mid new → IfOk r (λ fd. Opens old mid fd.0 (Mode.Opened how)) → OnErr r (OpensNone old mid) → Leaves (call.Open name how) (opened r) old new
leaves_opened old mid new name how (Ok fd) same opens none = opens_then old mid new fd.0 (Mode.Opened how) same opens
leaves_opened old mid new name how (Err why) same opens none = λ fd. same fd ∙ none fd

-- what a call used was open, and fitted

pub fits_counted : (opens : ℕ → Option Mode) (fd : Fd) (at len : ℕ) (r : Result ℕ FsError) → (IsOk r → IsSome (opens fd.0)) → FitsOpen (call.ReadAt fd at len) (counted r) opens
fits_counted opens fd at len (Ok count) fits = fits refl
fits_counted opens fd at len (Err why) fits = tt

pub fits_done : (opens : ℕ → Option Mode) (c : CallData) → ((why : FsError) → FitsOpen c (Refused why) opens) → (r : Result (Unit {0}) FsError) → (IsOk r → FitsOpen c Done opens) → FitsOpen c (done r) opens
fits_done opens c refused (Ok x) fits = fits refl
fits_done opens c refused (Err why) fits = refused why
