-- A sender that runs over a disk.
use Rattle.std.proofs.Common.{◌≡◌, ℕ, List, [], ◌∷◌, Bool, true, false, Option, Some, None, refl, sym, ap, ◌∙◌, subst}
use Rattle.std.specs.Prelude.{Result, Ok, Err}
use Rattle.std.specs.Result.{is_ok, OnOk}
use Rattle.std.specs.Bool.{OnTrue}
use Rattle.call_fs.specs.declared.calls.Answer.{Answer}
use Rattle.call_fs.specs.declared.calls.CallData.{CallData}
use Rattle.call_fs.specs.declared.past.GotData.{GotData}
use Rattle.call_fs.specs.declared.past.NeedData.{NeedData}
use Rattle.call_fs.specs.declared.past.NeedData.TheVariants.{File, Take}
use Rattle.call_fs.specs.declared.past.Own.{Own}
use Rattle.call_fs.specs.declared.program.Port.{Port}
use Rattle.call_fs.specs.declared.program.Port.TheVariants as port
use Rattle.call_fs.specs.declared.modes.Mode.{Mode}
use Rattle.call_fs.specs.Apply.{Apply, MayCall}
use Rattle.call_fs.specs.Columns.{HasRoomFor}
use Rattle.call_fs.specs.Disk.{Disk}
use Rattle.call_fs.specs.Past.{Backs, UsesHeld, held, held_by, held_after}
use Rattle.call_fs.specs.Program.{MayCome}
use Rattle.call_fs.proofs.Held.{backs_call, has_room, may_call}
use Rattle.mail_bytes.specs.Told.{Meets, OnTold}
use Rattle.send_core.specs.Stands.{Machine, Stands, due_if, due_now}
use Rattle.send_core.specs.Table.{Next, due_at, row_now}
use Rattle.send_core.proofs.Holds.{uses}
use Rattle.test_sender.specs.Runs.{IsRunning, taken_of}

pub on_true : {T E : Type 0} (r : Result T E) (b : Bool) (P Q : Type 0) → b ≡ is_ok r → OnOk r P → (P → Q) → OnTrue b Q
on_true (Ok x) true P Q e h f = f h
on_true (Ok x) false P Q e h f = tt
on_true (Err x) true P Q e h f = absurd (cc)
on_true (Err x) false P Q e h f = tt

-- it is told the moment
pub looked : (m n : Machine) (o : Option Disk) → ((turns : Option ℕ) (past : List Own) → Stands m turns past → Stands n turns past) → IsRunning m o → IsRunning n o
looked m n o keeps r = record { turns = r.turns; past = r.past; stands = keeps r.turns r.past r.stands; run = r.run; backs = r.backs }

its_due : (m : Machine) (turns : Option ℕ) (past : List Own) → m.looked ≡ true → Stands m turns past → Next turns past m.present m.ready ≡ due_now m
its_due m turns past told stands = ap (λ d. due_at (row_now d m.present m.ready) d) (sym stands) ∙ sym (ap (λ b. due_if b m) told)

its_uses : (m : Machine) (o : Option Disk) (r : IsRunning m o) → m.looked ≡ true → UsesHeld (held r.past) (due_now m)
its_uses m o r told = subst (UsesHeld (held r.past)) (its_due m r.turns r.past told r.stands) (uses r.turns r.past m.present m.ready r.run)

-- its call may be made
pub may : (m : Machine) (o : Option Disk) (r : IsRunning m o) (c : CallData) → m.looked ≡ true → due_now m ≡ File c → OnTold o (λ d. MayCall d c)
may m None r c told due = tt
may m (Some d) r c told due = may_call d (held r.past) r.backs c (subst (UsesHeld (held r.past)) due (its_uses m (Some d) r told))

-- a read of it has room
pub room : (m : Machine) (o : Option Disk) (r : IsRunning m o) (c : CallData) → m.looked ≡ true → due_now m ≡ File c → HasRoomFor 8192 c
room m o r c told due = has_room (held r.past) c (subst (UsesHeld (held r.past)) due (its_uses m o r told))

-- what is held after the call is open
pub backed : (o o' : Option Disk) (h : ℕ → Option Mode) (now : ℕ) (c : CallData) (a : Answer) → OnTold o (λ d. Backs d h)
    → Meets o o' (λ before after. Apply before now c a after) → OnTold o' (λ d. Backs d (held_after h c a))
backed None None h now c a backs told = tt
backed None (Some e) h now c a backs told = absurd told
backed (Some d) None h now c a backs told = absurd told
backed (Some d) (Some e) h now c a backs told = backs_call d e now c a h told backs

-- after an event
pub went : (m n : Machine) (o e : Option Disk) (got : GotData) (r : IsRunning m o) → m.looked ≡ true → MayCome (due_now m) got
    → OnTold e (λ d. Backs d (held_by (held r.past) (due_now m) got))
    → Stands n r.turns (record { read = m.present; ready = m.ready; due = due_now m; came = got } ∷ r.past) → IsRunning n e
went m n o e got r told may backs stands = record {
  turns = r.turns;
  past = record { read = m.present; ready = m.ready; due = due_now m; came = got } ∷ r.past;
  stands = stands;
  run = (r.run, (its_due m r.turns r.past told r.stands, may));
  backs = backs;
}

pub backed_call : (m : Machine) (o e : Option Disk) (now : ℕ) (c : CallData) (a : Answer) (bytes : List ℕ) (r : IsRunning m o) → due_now m ≡ File c
    → Meets o e (λ before after. Apply before now c a after)
    → OnTold e (λ d. Backs d (held_by (held r.past) (due_now m) (GotData.Answered (record { answer = a; bytes = bytes }))))
backed_call m o e now c a bytes r due told =
    subst (λ x. OnTold e (λ d. Backs d (held_by (held r.past) x (GotData.Answered (record { answer = a; bytes = bytes }))))) (sym due)
    (backed o e (held r.past) now c a r.backs told)

-- nothing is held by what isn't a call
pub backed_same : (m : Machine) (o e : Option Disk) (due : NeedData) (got : GotData) (r : IsRunning m o) → due_now m ≡ due
    → ((h : ℕ → Option Mode) → held_by h due got ≡ h) → OnTold e (λ d. Backs d (held r.past)) → OnTold e (λ d. Backs d (held_by (held r.past) (due_now m) got))
backed_same m o e due got r is same backs =
    subst (λ x. OnTold e (λ d. Backs d (held_by (held r.past) x got))) (sym is) (subst (λ h. OnTold e (λ d. Backs d h)) (sym (same (held r.past))) backs)

-- that may come of a taking
pub may_take : (p : Port) (bytes : List ℕ) → MayCome (Take p) (taken_of p bytes)
may_take port.Input bytes = tt
may_take port.Output bytes = tt
may_take port.Clean bytes = tt
may_take port.Lspawn bytes = tt
may_take port.Rspawn bytes = tt
may_take port.Todo bytes = tt
may_take (port.Program slot) bytes = tt
may_take (port.Status slot) bytes = tt

-- before the first step
pub begins : (m : Machine) (o : Option Disk) (turns : Option ℕ) → Stands m turns [] → IsRunning m o
begins m o turns stands = record { turns = turns; past = []; stands = stands; run = tt; backs = none o } where
  none : (o : Option Disk) → OnTold o (λ d. Backs d (held []))
  none None = tt
  none (Some d) = λ fd mode e. absurd (cc)
