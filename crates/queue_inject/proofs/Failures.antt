-- Which calls fail, and with which status.
use Rattle.std.proofs.Common.{◌≡◌, ◌≢◌, ◌⊎◌, ℕ, ◌<◌, List, [], ◌∷◌, Option, Some, None, Bool, true, false, refl, sym, ap, ◌∙◌, ⊎_elim, inl, inr, arith}
use Rattle.std.specs.Prelude.{if◌then◌else◌, ◌==◌}
use Rattle.call_fs.specs.declared.calls.CallData.{CallData}
use Rattle.call_fs.specs.declared.calls.CallData.TheVariants.{CreateExcl, Append, Sync, Link, Unlink}
use Rattle.call_fs.specs.declared.calls.Answer.{Answer}
use Rattle.call_fs.specs.declared.calls.Answer.TheVariants.{Refused}
use Rattle.call_fs.specs.declared.calls.FsError.{FsError}
use Rattle.call_fs.specs.declared.calls.FsError.TheVariants.{NotThere, Exists, Fault, Memory}
use Rattle.call_fs.specs.declared.past.Own.{Own}
use Rattle.queue_paths.specs.Names.{Name, Part, path, parse}
use Rattle.queue_paths.specs.Names.Name.{Pid, Of}
use Rattle.queue_paths.specs.Names.Part.{Mess, Intd, Todo}
use Rattle.queue_paths.proofs.Paths.{exact}
use Rattle.queue_inject.specs.declared.injection.Arguments.{Arguments}
use Rattle.call_fs.specs.Past.{HoldsOf, HasCall}
use Rattle.queue_inject.specs.Causes.{pid_name, IsTaken, IsQueuing, IsCleanUp, IsFailure, FailsWith, is_of_input, is_of_call}
use Rattle.queue_inject.specs.Causes.FailsWith.{WantsMemory, Appends, Syncs, TakesAll, MakesPid, LeavesPid, LinksMess, MakesIntd, LinksTodo}

-- Names

pub same_name : (x y : Name) → path x ≡ path y → x ≡ y
same_name x y e =
    let told : ◌≡◌ {A = Option Name} (Some x) (Some y) = sym (exact.parse_path x) ∙ ap parse e ∙ exact.parse_path y in
    cc

pub same_try : (args : Arguments) (k j : ℕ) → pid_name args k ≡ pid_name args j → k ≡ j
same_try args k j e = let told = same_name (Pid args.pid args.start k) (Pid args.pid args.start j) e in cc

pub pid_is_no_part : (args : Arguments) (k n : ℕ) (part : Part) → pid_name args k ≢ path (Of part n)
pid_is_no_part args k n part e = let told = same_name (Pid args.pid args.start k) (Of part n) e in cc

-- Clean ups

pub no_clean_up : (call : CallData) → ((name : List ℕ) → call ≢ Unlink name) → ¬ (IsCleanUp call)
no_clean_up call other clean = ⊎_elim (other (path (Of Intd clean.0))) (other (path (Of Mess clean.0))) clean.1

pub pid_stays : (args : Arguments) (k : ℕ) → ¬ (IsCleanUp (Unlink (pid_name args k)))
pid_stays args k clean = ⊎_elim
    (λ e. pid_is_no_part args k clean.0 Intd (unlinked _ _ e))
    (λ e. pid_is_no_part args k clean.0 Mess (unlinked _ _ e))
    clean.1 where
      unlinked : (a b : List ℕ) → ◌≡◌ {A = CallData} (Unlink a) (Unlink b) → a ≡ b
      unlinked a b e = cc

pub clean_queues_none : (call : CallData) (answer : Answer) → IsCleanUp call → ¬ (IsQueuing call answer)
clean_queues_none call answer clean queuing = let to = queuing.1 in ⊎_elim (λ e. cc) (λ e. cc) clean.1

pub refused_queues_none : (call : CallData) (why : FsError) → ¬ (IsQueuing call (Refused why))
refused_queues_none call why queuing = let told = queuing.2 in cc

-- Failures

-- what is no creation tries no pid name
other_call : (args : Arguments) (call : CallData) (answer : Answer) → ((name : List ℕ) → call ≢ CreateExcl name) → (k : ℕ) → k < 9 → ¬ (IsTaken args k call answer)
other_call args call answer other k small taken = other (pid_name args k) taken.0

-- and what is refused for another reason finds none taken
other_why : (args : Arguments) (call : CallData) (why : FsError) → why ≢ Exists → (k : ℕ) → k < 9 → ¬ (IsTaken args k call (Refused why))
other_why args call why other k small taken = let told = taken.1 in other (cc)

pub fails : {args : Arguments} {status : ℕ} {call : CallData} {answer : Answer} → FailsWith args status call answer → IsFailure args call answer
fails {args} (WantsMemory call needed) = record { why = Memory; refused = refl; needed = needed; last = other_why args call Memory (λ e. cc) }
fails {args} (Appends fd bytes) = record {
  why = Fault;
  refused = refl;
  needed = no_clean_up (Append fd bytes) (λ name e. cc);
  last = other_why args (Append fd bytes) Fault (λ e. cc);
}
fails {args} (Syncs fd) = record {
  why = Fault;
  refused = refl;
  needed = no_clean_up (Sync fd) (λ name e. cc);
  last = other_why args (Sync fd) Fault (λ e. cc);
}
fails {args} TakesAll = record {
  why = Exists;
  refused = refl;
  needed = no_clean_up (CreateExcl (pid_name args 9)) (λ name e. cc);
  last = λ k small taken. let is : 9 ≡ k = same_try args 9 k (created _ _ taken.0) in omega arith;
} where
  created : (a b : List ℕ) → ◌≡◌ {A = CallData} (CreateExcl a) (CreateExcl b) → a ≡ b
  created a b e = cc
fails {args} (MakesPid k why in_range free given) = record {
  why = why;
  refused = refl;
  needed = no_clean_up (CreateExcl (pid_name args k)) (λ name e. cc);
  last = other_why args (CreateExcl (pid_name args k)) why free;
}
fails {args} (LeavesPid k why in_range given) = record {
  why = why;
  refused = refl;
  needed = pid_stays args k;
  last = other_call args (Unlink (pid_name args k)) (Refused why) (λ name e. cc);
}
fails {args} (LinksMess k n why in_range given) = record {
  why = why;
  refused = refl;
  needed = no_clean_up (Link (pid_name args k) (path (Of Mess n))) (λ name e. cc);
  last = other_call args (Link (pid_name args k) (path (Of Mess n))) (Refused why) (λ name e. cc);
}
fails {args} (MakesIntd n why given) = record {
  why = why;
  refused = refl;
  needed = no_clean_up (CreateExcl (path (Of Intd n))) (λ name e. cc);
  last = λ j small taken. pid_is_no_part args j n Intd (sym (created _ _ taken.0));
} where
  created : (a b : List ℕ) → ◌≡◌ {A = CallData} (CreateExcl a) (CreateExcl b) → a ≡ b
  created a b e = cc
fails {args} (LinksTodo n why given) = record {
  why = why;
  refused = refl;
  needed = no_clean_up (Link (path (Of Intd n)) (path (Of Todo n))) (λ name e. cc);
  last = other_call args (Link (path (Of Intd n)) (path (Of Todo n))) (Refused why) (λ name e. cc);
}

-- A failure has one status: it follows from the call and from why it was refused.

is_pid : Option Name → Bool
is_pid None = false
is_pid (Some (Pid pid start k)) = true
is_pid (Some (Of part n)) = false

abbrev made_status : Bool → ℕ
made_status t = if t then 63 else 65

abbrev linked_status : Bool → ℕ
linked_status t = if t then 64 else 66

abbrev call_status : CallData → ℕ
call_status (CreateExcl name) = made_status (is_pid (parse name))
call_status (Link old new) = linked_status (is_pid (parse old))
call_status (Unlink name) = 63
call_status call = 53

abbrev status_by : CallData → Answer → ℕ
status_by call (Refused Memory) = 51
status_by call answer = call_status call

of_pid : (args : Arguments) (k : ℕ) → is_pid (parse (pid_name args k)) ≡ true
unfolding is_pid
of_pid args k = ap is_pid (exact.parse_path (Pid args.pid args.start k))

of_part : (part : Part) (n : ℕ) → is_pid (parse (path (Of part n))) ≡ false
unfolding is_pid
of_part part n = ap is_pid (exact.parse_path (Of part n))

given_by : (call : CallData) (why : FsError) → why ≢ Memory → status_by call (Refused why) ≡ call_status call
given_by call NotThere other = refl
given_by call Exists other = refl
given_by call Fault other = refl
given_by call Memory other = absurd (other refl)

status_is : {args : Arguments} {status : ℕ} {call : CallData} {answer : Answer} → FailsWith args status call answer → status_by call answer ≡ status
status_is (WantsMemory call needed) = refl
status_is (Appends fd bytes) = refl
status_is (Syncs fd) = refl
status_is {args} TakesAll = ap made_status (of_pid args 9)
status_is {args} (MakesPid k why in_range free given) = given_by (CreateExcl (pid_name args k)) why given ∙ ap made_status (of_pid args k)
status_is {args} (LeavesPid k why in_range given) = given_by (Unlink (pid_name args k)) why given
status_is {args} (LinksMess k n why in_range given) = given_by (Link (pid_name args k) (path (Of Mess n))) why given ∙ ap linked_status (of_pid args k)
status_is (MakesIntd n why given) = given_by (CreateExcl (path (Of Intd n))) why given ∙ ap made_status (of_part Intd n)
status_is (LinksTodo n why given) = given_by (Link (path (Of Intd n)) (path (Of Todo n))) why given ∙ ap linked_status (of_part Intd n)

pub one_status : {args : Arguments} {a b : ℕ} {call : CallData} {answer : Answer} → FailsWith args a call answer → FailsWith args b call answer → a ≡ b
one_status f g = sym (status_is f) ∙ status_is g

-- Kinds of statuses

-- neither 0 nor 52, and of the input or of a call
pub record IsOfKind (input : Bool) (status : ℕ) : Type 0 where
  pub no_success : (status == 0) ≡ false
  pub no_timeout : (status == 52) ≡ false
  pub of_input : is_of_input status ≡ input
  pub of_call : is_of_call status ≡ if input then false else true

pub kind_of_call : {args : Arguments} {status : ℕ} {call : CallData} {answer : Answer} → FailsWith args status call answer → IsOfKind false status
kind_of_call (WantsMemory call needed) = record { no_success = refl; no_timeout = refl; of_input = refl; of_call = refl }
kind_of_call (Appends fd bytes) = record { no_success = refl; no_timeout = refl; of_input = refl; of_call = refl }
kind_of_call (Syncs fd) = record { no_success = refl; no_timeout = refl; of_input = refl; of_call = refl }
kind_of_call TakesAll = record { no_success = refl; no_timeout = refl; of_input = refl; of_call = refl }
kind_of_call (MakesPid k why in_range free given) = record { no_success = refl; no_timeout = refl; of_input = refl; of_call = refl }
kind_of_call (LeavesPid k why in_range given) = record { no_success = refl; no_timeout = refl; of_input = refl; of_call = refl }
kind_of_call (LinksMess k n why in_range given) = record { no_success = refl; no_timeout = refl; of_input = refl; of_call = refl }
kind_of_call (MakesIntd n why given) = record { no_success = refl; no_timeout = refl; of_input = refl; of_call = refl }
kind_of_call (LinksTodo n why given) = record { no_success = refl; no_timeout = refl; of_input = refl; of_call = refl }

-- a failure that means out of memory has 51, no other has
pub by_memory : {args : Arguments} {status : ℕ} {call : CallData} {answer : Answer} → FailsWith args status call answer → (status ≡ 51) ⊎ (answer ≢ Refused Memory)
by_memory (WantsMemory call needed) = inl refl
by_memory (Appends fd bytes) = inr (λ e. cc)
by_memory (Syncs fd) = inr (λ e. cc)
by_memory TakesAll = inr (λ e. cc)
by_memory (MakesPid k why in_range free given) = inr (λ e. given (cc))
by_memory (LeavesPid k why in_range given) = inr (λ e. given (cc))
by_memory (LinksMess k n why in_range given) = inr (λ e. given (cc))
by_memory (MakesIntd n why given) = inr (λ e. given (cc))
by_memory (LinksTodo n why given) = inr (λ e. given (cc))

-- In a past

such_or : (P Q : CallData → Answer → Type 0) (R : Type 0) → ((call : CallData) (answer : Answer) → P call answer → R ⊎ Q call answer) → (event : Own) → HoldsOf P event → R ⊎ HoldsOf Q event
such_or P Q R to event h = ⊎_elim
    (λ r. inl r)
    (λ q. inr (record { call = h.call; told = h.told; due = h.due; came = h.came; holds = q }))
    (to h.call h.told.answer h.holds)

-- each such call gives this, or is also such
pub has_or : (P Q : CallData → Answer → Type 0) (R : Type 0) → ((call : CallData) (answer : Answer) → P call answer → R ⊎ Q call answer) → (past : List Own)
    → HasCall past P → R ⊎ HasCall past Q
has_or P Q R to [] h = absurd h
has_or P Q R to (event ∷ before) h = ⊎_elim
    (λ here. ⊎_elim (λ r. inl r) (λ q. inr (inl q)) (such_or P Q R to event here))
    (λ there. ⊎_elim (λ r. inl r) (λ q. inr (inr q)) (has_or P Q R to before there))
    h

has_none : (past : List Own) → ¬ (HasCall past (λ call answer. ⊥))
has_none [] h = h
has_none (event ∷ before) h = ⊎_elim (λ here. here.holds) (has_none before) h

pub has_gives : (P : CallData → Answer → Type 0) (R : Type 0) → ((call : CallData) (answer : Answer) → P call answer → R) → (past : List Own) → HasCall past P → R
has_gives P R to past h = ⊎_elim (λ r. r) (λ none. absurd (has_none past none)) (has_or P (λ call answer. ⊥) R (λ call answer p. inl (to call answer p)) past h)

pub has_failure : (args : Arguments) (status : ℕ) (past : List Own) → HasCall past (FailsWith args status) → HasCall past (IsFailure args)
has_failure args status past h = ⊎_elim absurd (λ f. f) (has_or (FailsWith args status) (IsFailure args) ⊥ (λ call answer f. inr (fails f)) past h)
