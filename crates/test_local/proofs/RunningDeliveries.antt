-- A delivery that runs over a disk.
use Rattle.std.proofs.Common.{◌≡◌, ℕ, List, [], ◌∷◌, Bool, true, false, Option, Some, None, Result, Ok, Err, is_ok, OnOk, sym, subst}
use Rattle.std.specs.Bool.{OnTrue}
use Rattle.call_fs.specs.declared.calls.Answer.{Answer}
use Rattle.call_fs.specs.declared.calls.CallData.{CallData}
use Rattle.call_fs.specs.declared.calls.Told.{Told}
use Rattle.call_fs.specs.declared.modes.Mode.{Mode}
use Rattle.call_fs.specs.declared.past.GotData.{GotData}
use Rattle.call_fs.specs.declared.past.GotData.TheVariants.{Answered}
use Rattle.call_fs.specs.declared.past.NeedData.{NeedData}
use Rattle.call_fs.specs.declared.past.NeedData.TheVariants.{File}
use Rattle.call_fs.specs.declared.past.Own.{Own}
use Rattle.call_fs.specs.declared.program.Ready.{Ready}
use Rattle.call_fs.specs.Apply.{Apply, MayCall}
use Rattle.call_fs.specs.Disk.{Disk}
use Rattle.call_fs.specs.Past.{Backs, UsesHeld, held, held_by, held_after}
use Rattle.call_fs.specs.Program.{MayCome}
use Rattle.call_fs.proofs.Held.{backs_call, may_call}
use Rattle.mail_bytes.specs.Told.{Meets, OnTold}
use Rattle.local_parts.specs.declared.arguments.LocalArgs.{LocalArgs}
use Rattle.local_deliver.specs.declared.machine.Local.{Local}
use Rattle.local_deliver.specs.Stands.{Stands, due_now}
use Rattle.local_deliver.proofs.Holds.{uses}
use Rattle.local_deliver.proofs.Standing.{due_is}
use Rattle.test_local.specs.Deliveries.{IsRunning}

-- it is told the moment
pub looked : (m n : Local) (o : Option Disk) → ((args : LocalArgs) (past : List Own) → Stands m args past → Stands n args past) → IsRunning m o → IsRunning n o
looked m n o keeps r = record { args = r.args; past = r.past; stands = keeps r.args r.past r.stands; run = r.run; backs = r.backs }

its_uses : (m : Local) (o : Option Disk) (ready : Ready) (r : IsRunning m o) → UsesHeld (held r.past) (due_now m)
its_uses m o ready r = subst (UsesHeld (held r.past)) (sym (due_is m r.args r.past 0 ready r.stands)) (uses r.args r.past r.run)

-- its call may be made
pub may : (m : Local) (o : Option Disk) (ready : Ready) (r : IsRunning m o) (c : CallData) → due_now m ≡ File c → OnTold o (λ d. MayCall d c)
may m None ready r c due = tt
may m (Some d) ready r c due = may_call d (held r.past) r.backs c (subst (UsesHeld (held r.past)) due (its_uses m (Some d) ready r))

-- what is held after the call is open
backed : (o o' : Option Disk) (h : ℕ → Option Mode) (now : ℕ) (c : CallData) (a : Answer) → OnTold o (λ d. Backs d h)
    → Meets o o' (λ before after. Apply before now c a after) → OnTold o' (λ d. Backs d (held_after h c a))
backed None None h now c a backs told = tt
backed None (Some e) h now c a backs told = absurd told
backed (Some d) None h now c a backs told = absurd told
backed (Some d) (Some e) h now c a backs told = backs_call d e now c a h told backs

-- after what came of a need
goes : (m n : Local) (o e : Option Disk) (read : ℕ) (ready : Ready) (due : NeedData) (got : GotData) (r : IsRunning m o) → due_now m ≡ due → MayCome due got
    → OnTold e (λ d. Backs d (held_by (held r.past) due got)) → Stands n r.args (record { read = read; ready = ready; due = due_now m; came = got } ∷ r.past) → IsRunning n e
goes m n o e read ready due got r is may backs stands = record {
  args = r.args;
  past = record { read = read; ready = ready; due = due_now m; came = got } ∷ r.past;
  stands = stands;
  run = (r.run, (sym (due_is m r.args r.past read ready r.stands), subst (λ x. MayCome x got) (sym is) may));
  backs = subst (λ x. OnTold e (λ d. Backs d (held_by (held r.past) x got))) (sym is) backs;
}

-- if all went well
on_true : {T E P Q : Type 0} (r : Result T E) (b : Bool) → OnOk r P → (P → Q) → b ≡ is_ok r → OnTrue b Q
on_true (Ok x) true h f e = f h
on_true (Ok x) false h f e = tt
on_true (Err x) true h f e = absurd (cc)
on_true (Err x) false h f e = tt

module _ (m n : Local) (read : ℕ) (ready : Ready) where
  abbrev Stood : LocalArgs → List Own → GotData → Type 0
  Stood args past got = Stands n args (record { read = read; ready = ready; due = due_now m; came = got } ∷ past)

  -- after a call
  pub called : {T E : Type 0} (o e : Option Disk) (now : ℕ) (c : CallData) (told : Told) (r : IsRunning m o) (done : Result T E) (b : Bool) → due_now m ≡ File c → MayCome (File c) (Answered told)
      → Meets o e (λ before after. Apply before now c told.answer after) → OnOk done (Stood r.args r.past (Answered told)) → b ≡ is_ok done → OnTrue b (IsRunning n e)
  called o e now c told r done b due fit meets stands is =
      on_true done b stands (λ s. goes m n o e read ready (File c) (Answered told) r due fit (backed o e (held r.past) now c told.answer r.backs meets) s) is

  -- after something else
  pub went : {T E : Type 0} (o : Option Disk) (due : NeedData) (got : GotData) (r : IsRunning m o) (done : Result T E) (b : Bool) → due_now m ≡ due → MayCome due got
      → held_by (held r.past) due got ≡ held r.past → OnOk done (Stood r.args r.past got) → b ≡ is_ok done → OnTrue b (IsRunning n o)
  went o due got r done b is fit same stands e =
      on_true done b stands (λ s. goes m n o o read ready due got r is fit (subst (λ h. OnTold o (λ d. Backs d h)) (sym same) r.backs) s) e

-- before the first step
pub begins : (m : Local) (o : Option Disk) (args : LocalArgs) → Stands m args [] → IsRunning m o
begins m o args stands = record { args = args; past = []; stands = stands; run = tt; backs = none o } where
  none : (o : Option Disk) → OnTold o (λ d. Backs d (held []))
  none None = tt
  none (Some d) = λ fd mode e. absurd (cc)
