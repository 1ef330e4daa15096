-- A drop that runs over a disk.
use Rattle.std.proofs.Common.{◌≡◌, ℕ, List, [], ◌∷◌, Option, Some, None, refl, sym, ap, ◌∙◌, subst}
use Rattle.call_fs.specs.declared.calls.Answer.{Answer}
use Rattle.call_fs.specs.declared.calls.Answer.TheVariants as answer
use Rattle.call_fs.specs.declared.calls.CallData.{CallData}
use Rattle.call_fs.specs.declared.calls.CallData.TheVariants as call
use Rattle.call_fs.specs.declared.past.GotData.{GotData}
use Rattle.call_fs.specs.declared.past.NeedData.{NeedData}
use Rattle.call_fs.specs.declared.past.NeedData.TheVariants.{File}
use Rattle.call_fs.specs.declared.past.Own.{Own}
use Rattle.call_fs.specs.declared.program.Ready.{Ready}
use Rattle.call_fs.specs.Apply.{Apply, MayCall}
use Rattle.call_fs.specs.Columns.{IsAnswerTo}
use Rattle.call_fs.specs.Disk.{Disk}
use Rattle.call_fs.specs.declared.modes.Mode.{Mode}
use Rattle.call_fs.specs.Past.{Backs, Uses, UsesHeld, held, held_by, held_after}
use Rattle.call_fs.specs.Program.{MayCome}
use Rattle.call_fs.proofs.Held.{backs_call, may_call}
use Rattle.mail_bytes.specs.Told.{Meets, OnTold}
use Rattle.maildir_drop.specs.declared.arguments.Arguments.{Arguments}
use Rattle.maildir_drop.specs.declared.machine.MaildirDrop.{MaildirDrop}
use Rattle.maildir_drop.specs.Names.{names_of}
use Rattle.maildir_drop.specs.Stands.{Stands, due_now, place_of}
use Rattle.maildir_drop.specs.Table.{Place, due_at, place_after, Next}
use Rattle.maildir_drop.proofs.Holds.{uses}
use Rattle.test_local.specs.Drops.{IsRunning}

-- it is told the moment
pub looked : (m n : MaildirDrop) (o : Option Disk) → ((args : Arguments) (past : List Own) → Stands m args past → Stands n args past) → IsRunning m o → IsRunning n o
looked m n o keeps r = record { args = r.args; past = r.past; stands = keeps r.args r.past r.stands; run = r.run; backs = r.backs }

-- what it needs is the next of its table
due_is : (m : MaildirDrop) (args : Arguments) (past : List Own) (now : ℕ) (ready : Ready) → Stands m args past → due_now m ≡ Next args past now ready
due_is m args past now ready s =
    ap (λ names. due_at names m.row m.left) s.names_are ∙ ap (λ (p : Place). due_at (names_of args) p.row p.left) s.place_is

its_uses : (m : MaildirDrop) (o : Option Disk) (ready : Ready) (r : IsRunning m o) → UsesHeld (held r.past) (due_now m)
its_uses m o ready r = subst (UsesHeld (held r.past)) (sym (due_is m r.args r.past 0 ready r.stands)) (uses r.args r.past r.run)

-- its call may be made
pub may : (m : MaildirDrop) (o : Option Disk) (ready : Ready) (r : IsRunning m o) (c : CallData) → due_now m ≡ File c → OnTold o (λ d. MayCall d c)
may m None ready r c due = tt
may m (Some d) ready r c due = may_call d (held r.past) r.backs c (subst (UsesHeld (held r.past)) due (its_uses m (Some d) ready r))

-- what is held after the call is open
backed : (o o' : Option Disk) (h : ℕ → Option Mode) (now : ℕ) (c : CallData) (a : Answer) → OnTold o (λ d. Backs d h)
    → Meets o o' (λ before after. Apply before now c a after) → OnTold o' (λ d. Backs d (held_after h c a))
backed None None h now c a backs told = tt
backed None (Some e) h now c a backs told = absurd told
backed (Some d) None h now c a backs told = absurd told
backed (Some d) (Some e) h now c a backs told = backs_call d e now c a h told backs

-- a call that gives a name to a file, or takes one away, opens nothing and closes nothing
abbrev pub IsOfNames : CallData → Type 0
IsOfNames (call.Link old new) = Unit {0}
IsOfNames (call.Unlink name) = Unit {0}
IsOfNames c = ⊥

none_opened : (h : ℕ → Option Mode) (c : CallData) (a : Answer) → IsOfNames c → IsAnswerTo c a → held_after h c a ≡ h
none_opened h (call.Link old new) answer.Done names fit = refl
none_opened h (call.Link old new) (answer.Refused why) names fit = refl
none_opened h (call.Link old new) a names fit = absurd fit
none_opened h (call.Unlink name) answer.Done names fit = refl
none_opened h (call.Unlink name) (answer.Refused why) names fit = refl
none_opened h (call.Unlink name) a names fit = absurd fit
none_opened h c a names fit = absurd names

-- after a call
pub called : (m n : MaildirDrop) (o e : Option Disk) (read now : ℕ) (ready : Ready) (c : CallData) (a : Answer) (bytes : List ℕ) (r : IsRunning m o) → due_now m ≡ File c
    → MayCome (due_now m) (GotData.Answered (record { answer = a; bytes = bytes })) → Meets o e (λ before after. Apply before now c a after)
    → Stands n r.args (record { read = read; ready = ready; due = due_now m; came = GotData.Answered (record { answer = a; bytes = bytes }) } ∷ r.past) → IsRunning n e
called m n o e read now ready c a bytes r due may told stands =
    let got : GotData = GotData.Answered (record { answer = a; bytes = bytes }) in
    record {
      args = r.args;
      past = record { read = read; ready = ready; due = due_now m; came = got } ∷ r.past;
      stands = stands;
      run = (r.run, (sym (due_is m r.args r.past read ready r.stands), may));
      backs = subst (λ x. OnTold e (λ d. Backs d (held_by (held r.past) x got))) (sym due) (backed o e (held r.past) now c a r.backs told);
    }

-- after a call of another, who moves or takes names
pub left_by : (m : MaildirDrop) (o e : Option Disk) (now : ℕ) (c : CallData) (a : Answer) → IsOfNames c → IsAnswerTo c a → IsRunning m o
    → Meets o e (λ before after. Apply before now c a after) → IsRunning m e
left_by m o e now c a names fit r told = record {
  args = r.args;
  past = r.past;
  stands = r.stands;
  run = r.run;
  backs = subst (λ h. OnTold e (λ d. Backs d h)) (none_opened (held r.past) c a names fit) (backed o e (held r.past) now c a r.backs told);
}

-- before the first step
pub begins : (m : MaildirDrop) (o : Option Disk) (args : Arguments) → Stands m args [] → IsRunning m o
begins m o args stands = record { args = args; past = []; stands = stands; run = tt; backs = none o } where
  none : (o : Option Disk) → OnTold o (λ d. Backs d (held []))
  none None = tt
  none (Some d) = λ fd mode e. absurd (cc)
