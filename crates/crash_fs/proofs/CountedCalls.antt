-- Calls by a plan: `close` never fails and isn't counted, each other call is.
use Rattle.std.proofs.Common.{◌≡◌, ◌≢◌, ◌⊎◌, inl, inr, ⊎_elim, ℕ, Option, Some}
use Rattle.std.specs.Prelude.{◌↔◌}
use Rattle.call_fs.specs.declared.calls.Fd.{Fd}
use Rattle.call_fs.specs.declared.calls.FsError.TheVariants.{Fault}
use Rattle.call_fs.specs.declared.calls.CallData.{CallData}
use Rattle.call_fs.specs.declared.calls.CallData.TheVariants as call
use Rattle.call_fs.specs.declared.calls.Answer.{Answer}
use Rattle.call_fs.specs.declared.calls.Answer.TheVariants.{Done, Refused}
use Rattle.call_fs.specs.Disk.{Disk}
use Rattle.call_fs.specs.Apply.{Fits}
use Rattle.call_fs.specs.Plan.{Plan, Takes, plan_left, KeepsPlan, CallKeepsPlan}
use Rattle.crash_fs.specs.Answers.{FailsBy, plan_left_by}
use Rattle.crash_fs.proofs.Decided.{is_number}

-- it fails if it is the chosen call, and only then
abbrev FailsWhereChosen : Plan → Answer → Type 0
FailsWhereChosen plan answer = (answer ≡ Refused Fault) ↔ (plan.fault ≡ Some 1)

-- what holds of `close`, and of a call that is counted, holds of each call
by_call : (P : CallData → (Plan → Answer → Type 0) → (Plan → Answer → Plan)
    → (Option Plan → Option Plan → Option Disk → Option Disk → Answer → Type 0) → Type 0)
    → ((fd : Fd) → P (call.Close fd) (λ plan answer. answer ≢ Refused Fault) (λ plan answer. plan) (λ old new told told_after answer. new ≡ old))
    → ((c : CallData) → P c FailsWhereChosen plan_left KeepsPlan)
    → (c : CallData) → P c (FailsBy c) (plan_left_by c) (CallKeepsPlan c)
by_call P closes counts (call.CreateExcl name) = counts (call.CreateExcl name)
by_call P closes counts (call.Open name how) = counts (call.Open name how)
by_call P closes counts (call.ReadAt fd at len) = counts (call.ReadAt fd at len)
by_call P closes counts (call.WriteAt fd at bytes) = counts (call.WriteAt fd at bytes)
by_call P closes counts (call.Append fd bytes) = counts (call.Append fd bytes)
by_call P closes counts (call.Truncate fd len) = counts (call.Truncate fd len)
by_call P closes counts (call.Sync fd) = counts (call.Sync fd)
by_call P closes counts (call.Close fd) = closes fd
by_call P closes counts (call.Link old new) = counts (call.Link old new)
by_call P closes counts (call.Unlink name) = counts (call.Unlink name)
by_call P closes counts (call.Stat name) = counts (call.Stat name)
by_call P closes counts (call.NextName dir last) = counts (call.NextName dir last)

-- what is no failure fits a plan by which no failure is due
pub not_failed : (c : CallData) (plan : Plan) (answer : Answer) → plan.fault ≢ Some 1 → answer ≢ Refused Fault → FailsBy c plan answer
not_failed = by_call
    (λ c fails left keeps. (plan : Plan) (answer : Answer) → plan.fault ≢ Some 1 → answer ≢ Refused Fault → fails plan answer)
    (λ fd plan answer other is. is)
    (λ c plan answer other is. ((λ e. absurd (is e)), (λ e. absurd (other e))))

-- of two answers to one call both are a failure, or neither is
abbrev FailBoth : Answer → Answer → Type 0
FailBoth a b = ((a ≡ Refused Fault) × (b ≡ Refused Fault)) ⊎ ((a ≢ Refused Fault) × (b ≢ Refused Fault))

pub fail_both : (c : CallData) (plan : Plan) (a b : Answer) → FailsBy c plan a → FailsBy c plan b → FailBoth a b
fail_both = by_call
    (λ c fails left keeps. (plan : Plan) (a b : Answer) → fails plan a → fails plan b → FailBoth a b)
    (λ fd plan a b p q. inr (p, q))
    (λ c plan a b p q. ⊎_elim
    (λ due. inl (p.1 due, q.1 due))
    (λ other. inr ((λ e. other (p.0 e)), (λ e. other (q.0 e))))
    (is_number plan.fault 1))

-- what a disk did that keeps its plan, if the call fails so, and leaves this of the plan
pub record IsDoneBy (plan : Plan) (left : Option Plan) (failing : Type 0) (next : Plan) (d after : Disk) (answer : Answer) : Type 0 where
  pub planned : left ≡ Some next
  pub fails : failing
  pub nothing_done : answer ≡ Refused Fault → after ≡ d
  pub takes : Takes d plan.pick answer

close_done : (e : Disk) (fd : Fd) (plan : Plan) (left : Option Plan) (d after : Disk) (answer : Answer) (w : ℕ) → Fits e (call.Close fd) answer w
    → left ≡ Some plan → IsDoneBy plan left (answer ≢ Refused Fault) plan d after answer
close_done e fd plan left d after Done w fits is = record { planned = is; fails = λ e. absurd (cc); nothing_done = λ e. absurd (cc); takes = tt }
close_done e fd plan left d after answer w fits is = absurd fits

-- each call is done by the plan that the disk tells
pub done_by : (c : CallData) (e : Disk) (plan : Plan) (left : Option Plan) (d after : Disk) (answer : Answer) (w : ℕ) → Fits e c answer w
    → CallKeepsPlan c (Some plan) left (Some d) (Some after) answer → IsDoneBy plan left (FailsBy c plan answer) (plan_left_by c plan answer) d after answer
done_by = by_call
    (λ c fails left_by keeps. (e : Disk) (plan : Plan) (left : Option Plan) (d after : Disk) (answer : Answer) (w : ℕ) → Fits e c answer w
    → keeps (Some plan) left (Some d) (Some after) answer → IsDoneBy plan left (fails plan answer) (left_by plan answer) d after answer)
    (λ fd e plan left d after answer w fits is. close_done e fd plan left d after answer w fits is)
    (λ c e plan left d after answer w fits by. record { planned = by.0; fails = by.1.fails; nothing_done = by.1.nothing_done; takes = by.1.takes })
