-- A pass that runs over a disk.
use Rattle.std.proofs.Common.{◌≡◌, ℕ, List, [], ◌∷◌, Bool, true, false, Option, Some, None, refl, sym, ap, ◌∙◌, subst}
use Rattle.std.specs.Prelude.{Result, Ok, Err}
use Rattle.std.specs.Result.{is_ok, OnOk}
use Rattle.std.specs.Bool.{OnTrue}
use Rattle.call_fs.specs.declared.calls.Answer.{Answer}
use Rattle.call_fs.specs.declared.calls.CallData.{CallData}
use Rattle.call_fs.specs.declared.past.GotData.{GotData}
use Rattle.call_fs.specs.declared.past.NeedData.{NeedData}
use Rattle.call_fs.specs.declared.past.NeedData.TheVariants.{File, Take}
use Rattle.call_fs.specs.declared.past.Own.{Own}
use Rattle.call_fs.specs.declared.program.Port.{Port}
use Rattle.call_fs.specs.declared.program.Ready.{Ready}
use Rattle.call_fs.specs.Apply.{Apply, MayCall}
use Rattle.call_fs.specs.Disk.{Disk}
use Rattle.call_fs.specs.declared.modes.Mode.{Mode}
use Rattle.call_fs.specs.Past.{Backs, Uses, UsesHeld, held, held_by, held_after}
use Rattle.call_fs.specs.Program.{MayCome}
use Rattle.call_fs.proofs.Held.{backs_call, may_call}
use Rattle.mail_bytes.specs.Told.{Meets, OnTold}
use Rattle.todo_pass.specs.declared.arguments.Arguments.{Arguments}
use Rattle.todo_pass.specs.declared.machine.TodoPass.{TodoPass}
use Rattle.todo_pass.specs.Stands.{Stands, due_now}
use Rattle.todo_pass.specs.declared.row.Row.{Row}
use Rattle.todo_pass.specs.declared.row.Row.TheVariants as at
use Rattle.todo_pass.specs.Table.{Pass, due_at, due_by}
use Rattle.todo_pass.proofs.Holds.{uses}
use Rattle.test_queue.specs.Passes.{IsRunning}

pub on_true : {T E : Type 0} (r : Result T E) (b : Bool) (P Q : Type 0) → b ≡ is_ok r → OnOk r P → (P → Q) → OnTrue b Q
on_true (Ok x) true P Q e h f = f h
on_true (Ok x) false P Q e h f = tt
on_true (Err x) true P Q e h f = absurd (cc)
on_true (Err x) false P Q e h f = tt

-- it is told the moment
pub looked : (m n : TodoPass) (o : Option Disk) → ((args : Arguments) (past : List Own) → Stands m args past → Stands n args past) → IsRunning m o → IsRunning n o
looked m n o keeps r = record { args = r.args; past = r.past; stands = keeps r.args r.past r.stands; run = r.run; backs = r.backs }

its_uses : (m : TodoPass) (o : Option Disk) (r : IsRunning m o) → UsesHeld (held r.past) (due_now m)
its_uses m o r = subst (λ p. UsesHeld (held r.past) (due_by p)) (sym r.stands.pass_is) (uses r.args.controls r.args.n r.past r.run)

-- its call may be made
pub may : (m : TodoPass) (o : Option Disk) (r : IsRunning m o) (c : CallData) → due_now m ≡ File c → OnTold o (λ d. MayCall d c)
may m None r c due = tt
may m (Some d) r c due = may_call d (held r.past) r.backs c (subst (UsesHeld (held r.past)) due (its_uses m (Some d) r))

-- what is held after the call is open
backed : (o o' : Option Disk) (h : ℕ → Option Mode) (now : ℕ) (c : CallData) (a : Answer) → OnTold o (λ d. Backs d h)
    → Meets o o' (λ before after. Apply before now c a after) → OnTold o' (λ d. Backs d (held_after h c a))
backed None None h now c a backs told = tt
backed None (Some e) h now c a backs told = absurd told
backed (Some d) None h now c a backs told = absurd told
backed (Some d) (Some e) h now c a backs told = backs_call d e now c a h told backs

-- after an event
pub went : (m n : TodoPass) (o e : Option Disk) (read : ℕ) (ready : Ready) (got : GotData) (r : IsRunning m o) → MayCome (due_now m) got
    → OnTold e (λ d. Backs d (held_by (held r.past) (due_now m) got))
    → Stands n r.args (record { read = read; ready = ready; due = due_now m; came = got } ∷ r.past) → IsRunning n e
went m n o e read ready got r may backs stands = record {
  args = r.args;
  past = record { read = read; ready = ready; due = due_now m; came = got } ∷ r.past;
  stands = stands;
  run = (r.run, (ap due_by (sym r.stands.pass_is), may));
  backs = backs;
}

pub backed_call : (m : TodoPass) (o e : Option Disk) (now : ℕ) (c : CallData) (a : Answer) (bytes : List ℕ) (r : IsRunning m o) → due_now m ≡ File c
    → Meets o e (λ before after. Apply before now c a after)
    → OnTold e (λ d. Backs d (held_by (held r.past) (due_now m) (GotData.Answered (record { answer = a; bytes = bytes }))))
backed_call m o e now c a bytes r due told =
    subst (λ x. OnTold e (λ d. Backs d (held_by (held r.past) x (GotData.Answered (record { answer = a; bytes = bytes }))))) (sym due)
    (backed o e (held r.past) now c a r.backs told)

-- nothing is held by what isn't a call
pub backed_same : (m : TodoPass) (o : Option Disk) (due : NeedData) (got : GotData) (r : IsRunning m o) → due_now m ≡ due
    → ((h : ℕ → Option Mode) → held_by h due got ≡ h) → OnTold o (λ d. Backs d (held_by (held r.past) (due_now m) got))
backed_same m o due got r is same =
    subst (λ x. OnTold o (λ d. Backs d (held_by (held r.past) x got))) (sym is) (subst (λ h. OnTold o (λ d. Backs d h)) (sym (same (held r.past))) r.backs)

-- only the cleaner's answer is taken
pub take_kind : (row : Row) (p : Pass) (port : Port) (bytes : List ℕ) → due_at row p ≡ Take port → MayCome (due_at row p) (GotData.Took bytes)
take_kind at.Answer p port bytes e = tt
take_kind (at.Clear t) p port bytes e = absurd (cc)
take_kind at.StatMess p port bytes e = absurd (cc)
take_kind at.OpenTodo p port bytes e = absurd (cc)
take_kind (at.ReadTodo fd) p port bytes e = absurd (cc)
take_kind (at.CloseTodo fd) p port bytes e = absurd (cc)
take_kind (at.Create t) p port bytes e = absurd (cc)
take_kind (at.Append t fd done) p port bytes e = absurd (cc)
take_kind (at.Sync t fd) p port bytes e = absurd (cc)
take_kind (at.Close t fd) p port bytes e = absurd (cc)
take_kind (at.Shut fd why) p port bytes e = absurd (cc)
take_kind at.Give p port bytes e = absurd (cc)
take_kind at.Done p port bytes e = absurd (cc)
take_kind (at.Left why) p port bytes e = absurd (cc)
take_kind at.Lost p port bytes e = absurd (cc)

-- before the first step
pub begins : (m : TodoPass) (o : Option Disk) (args : Arguments) → Stands m args [] → IsRunning m o
begins m o args stands = record { args = args; past = []; stands = stands; run = tt; backs = none o } where
  none : (o : Option Disk) → OnTold o (λ d. Backs d (held []))
  none None = tt
  none (Some d) = λ fd mode e. absurd (cc)
