-- Who awaits its input, as one event comes.
use Rattle.std.proofs.Common.{◌≡◌, ◌≢◌, ℕ, List, [], Bool, true, false, ◌&&◌, not, if◌then◌else◌, take, Option, Some, None, is_some, refl, sym, ap, ◌∙◌, subst, ⊎_elim, bytes_eq, codes}
use Rattle.std.specs.Prelude.{option_map, ◌==◌, length}
use Rattle.std.proofs.Math.Bool.{or-true}
use Rattle.call_fs.specs.declared.program.Port.{Port}
use Rattle.call_fs.specs.declared.program.Port.TheVariants as port
use Rattle.call_fs.specs.declared.past.ChildData.TheVariants as child
use Rattle.call_fs.specs.declared.past.GotData.{GotData}
use Rattle.call_fs.specs.declared.past.GotData.TheVariants as got
use Rattle.call_fs.specs.declared.past.NeedData.{NeedData}
use Rattle.call_fs.specs.declared.past.NeedData.TheVariants as needs
use Rattle.call_fs.specs.declared.past.Own.{Own}
use Rattle.world_pipes.specs.Pipework.{Pipe, Pipework, Tenant, Slot, Mouth, fresh, given, taken, closed, mouth, is_ready, is_port, is_member, input_of, output, child_output, is_by, gives, put_pipe, put_program, pipework_after, is_writer, feeder}
use Rattle.world_pipes.specs.Pipework.Tenant.{Runs, Remote}
use Rattle.call_fs.specs.Program.{IsKind}
use Rattle.call_fs.specs.declared.program.TheConstants.{INPUT_READY}
use Rattle.queue_inject.specs.declared.injection.Arguments.{Arguments}
use Rattle.queue_inject.specs.declared.row.Row.TheVariants as at
use Rattle.queue_inject.specs.Machine.{Machine}
use Rattle.queue_inject.specs.Table.{has_input, in_time, is_late, due_by as inject_due, Next}
use Rattle.fed_injector.specs.declared.machine.FedInjector.{FedInjector}
use Rattle.fed_injector.specs.declared.machine.Input.{Input}
use Rattle.fed_injector.specs.declared.machine.Input.TheVariants.{Awaited, Given, Cut}
use Rattle.fed_injector.specs.Inputs.{IsWaiting, StandsWith, is_awaited}
use Rattle.world_events.specs.declared.event.Event.{Event as Kept}
use Rattle.world_events.specs.declared.event.Program.{Program}
use Rattle.world_events.specs.declared.event.Program.TheVariants.{Injector}
use Rattle.mail_world.specs.declared.actor.Actor.{Actor as Held}
use Rattle.mail_world.specs.declared.any_machine.AnyMachine.{AnyMachine}
use Rattle.mail_world.specs.declared.any_machine.AnyMachine.TheVariants.{Mail, Clean, Send, Local, Deliver, Over as Gone, Remote as RemoteSpawns}
use Rattle.mail_world.specs.ByKind.{IsMail, Follows, Mails, CanFind, awaits_of, need_of}
use Rattle.mail_world.specs.History.{Actor, Life, State, acted, finished, happens, next_of}
use Rattle.mail_world.specs.History.Event.{Report}
use Rattle.mail_world.specs.Inside.{Owes}
use Rattle.mail_world.specs.Readiness.{input_alone, is_awaiting, found_by}
use Rattle.mail_world.proofs.Members.{whether, other_than}
use Rattle.queue_law.proofs.Tests.{text_cases, same_text, other_text}

-- what is given to a slot is given to no actor
abbrev pub GivesToNone : Pipework → List ℕ → NeedData → Type 0
GivesToNone w a (needs.Give (port.Program d) bytes) = (c : List ℕ) → w.programs a d ≡ Some (Runs c) → ⊥
GivesToNone w a due = Unit {0}

pub and_false : (t : Bool) → (t && false) ≡ false
and_false true = refl
and_false false = refl

-- the same slot, and the same input
pub awaits_same : (s t : State) (b : List ℕ) → t.pipework.slots b ≡ s.pipework.slots b → t.pipework.pipes b port.Input ≡ s.pipework.pipes b port.Input → is_awaiting t b ≡ is_awaiting s b
awaits_same s t b slots pipes =
    ap (λ (o : Option Slot). is_some o && not (is_ready (t.pipework.pipes b port.Input))) slots
    ∙ ap (λ (pipe : Pipe). is_some (s.pipework.slots b) && not (is_ready pipe)) pipes

-- no slot
pub no_slot : (s : State) (b : List ℕ) → s.pipework.slots b ≡ None → is_awaiting s b ≡ false
no_slot s b none = ap (λ (o : Option Slot). is_some o && not (is_ready (s.pipework.pipes b port.Input))) none

-- An event of an actor

put_not : (pipes : List ℕ → Port → Pipe) (to : Mouth) (change : Pipe → Pipe) (b : List ℕ) → (bytes_eq b to.actor && is_port port.Input to.port) ≡ false
    → put_pipe pipes (Some to) change b port.Input ≡ pipes b port.Input
put_not pipes to change b other = ap (λ (t : Bool). if t then change (pipes b port.Input) else pipes b port.Input) other

member_not : (pipes : List ℕ → Port → Pipe) (m : List ℕ) (change : Pipe → Pipe) (b : List ℕ) → is_member b ≡ false → is_member m ≡ true → put_pipe pipes (Some (mouth m port.Input)) change b port.Input ≡ pipes b port.Input
member_not pipes m change b named is = put_not pipes (mouth m port.Input) change b (ap (λ (t : Bool). t && true) (other_text b m (other_than b m named is)))

slot_not : (w : Pipework) (a b bytes : List ℕ) (d : ℕ) → (w.programs a d ≡ Some (Runs b) → ⊥) → (o : Option Tenant) → w.programs a d ≡ o
    → put_pipe w.pipes (input_of o) (λ pipe. closed (given bytes pipe)) b port.Input ≡ w.pipes b port.Input
slot_not w a b bytes d none None is = refl
slot_not w a b bytes d none (Some (Remote reported)) is = refl
slot_not w a b bytes d none (Some (Runs c)) is =
    put_not w.pipes (mouth c port.Input) (λ pipe. closed (given bytes pipe)) b
    (ap (λ (t : Bool). t && true) (other_text b c (λ same. none (is ∙ ap (λ (n : List ℕ). Some (Runs n)) (sym same)))))

module _ (pipes : List ℕ → Port → Pipe) (change : Pipe → Pipe) (b : List ℕ) where
  pub port_not : (a : List ℕ) (p : Port) → is_port port.Input p ≡ false → put_pipe pipes (Some (mouth a p)) change b port.Input ≡ pipes b port.Input
  port_not a p other = put_not pipes (mouth a p) change b (ap (λ (t : Bool). bytes_eq b a && t) other ∙ and_false (bytes_eq b a))

  put_if : (t : Bool) (o q : Option Mouth) → put_pipe pipes o change b port.Input ≡ pipes b port.Input → put_pipe pipes q change b port.Input ≡ pipes b port.Input
      → put_pipe pipes (if t then o else q) change b port.Input ≡ pipes b port.Input
  put_if true o q here there = here
  put_if false o q here there = there

  child_not : (w : Pipework) (a : List ℕ) (o : Option Slot) → put_pipe pipes (child_output w a o) change b port.Input ≡ pipes b port.Input
  child_not w a None = refl
  child_not w a (Some slot) =
      put_if (is_by a (w.programs slot.parent slot.number)) (Some (mouth slot.parent (port.Program slot.number))) None (port_not slot.parent (port.Program slot.number) refl) refl

  output_not : (w : Pipework) (a : List ℕ) → put_pipe pipes (output w a) change b port.Input ≡ pipes b port.Input
  output_not w a =
      let by_child = child_output w a (w.slots a) in
      let by_rspawn = if bytes_eq a (codes "rspawn") then Some (mouth (codes "sender") port.Rspawn) else by_child in
      let by_lspawn = if bytes_eq a (codes "lspawn") then Some (mouth (codes "sender") port.Lspawn) else by_rspawn in
      put_if (bytes_eq a (codes "clean")) (Some (mouth (codes "sender") port.Clean)) by_lspawn (port_not (codes "sender") port.Clean refl)
      (put_if (bytes_eq a (codes "lspawn")) (Some (mouth (codes "sender") port.Lspawn)) by_rspawn (port_not (codes "sender") port.Lspawn refl)
      (put_if (bytes_eq a (codes "rspawn")) (Some (mouth (codes "sender") port.Rspawn)) by_child (port_not (codes "sender") port.Rspawn refl)
      (child_not w a (w.slots a))))

-- what is given to a slot isn't given to this actor
abbrev pub GivesPast : Pipework → (a b : List ℕ) → NeedData → Type 0
GivesPast w a b (needs.Give (port.Program d) bytes) = w.programs a d ≡ Some (Runs b) → ⊥
GivesPast w a b due = Unit {0}

pub past_each : (w : Pipework) (a b : List ℕ) → ((d : ℕ) → w.programs a d ≡ Some (Runs b) → ⊥) → (due : NeedData) → GivesPast w a b due
past_each w a b none (needs.Give (port.Program d) bytes) = none d
past_each w a b none due = tt

past_none : (w : Pipework) (a b : List ℕ) (due : NeedData) → GivesToNone w a due → GivesPast w a b due
past_none w a b (needs.Give (port.Program d) bytes) none = none b
past_none w a b due none = tt

pub gives_not : (w : Pipework) (a b : List ℕ) (p : Port) (bytes : List ℕ) → is_member b ≡ false → GivesPast w a b (needs.Give p bytes) → gives w a p bytes b port.Input ≡ w.pipes b port.Input
gives_not w a b (port.Program d) bytes named none = slot_not w a b bytes d none (w.programs a d) refl
gives_not w a b port.Clean bytes named none = member_not w.pipes (codes "clean") (given bytes) b named refl
gives_not w a b port.Lspawn bytes named none = member_not w.pipes (codes "lspawn") (given bytes) b named refl
gives_not w a b port.Rspawn bytes named none = member_not w.pipes (codes "rspawn") (given bytes) b named refl
gives_not w a b port.Output bytes named none = output_not w.pipes (given bytes) b w a
gives_not w a b port.Input bytes named none = refl
gives_not w a b port.Todo bytes named none = refl
gives_not w a b (port.Status d) bytes named none = refl

any_bytes : (w : Pipework) (a b : List ℕ) (p : Port) (bytes other : List ℕ) → GivesPast w a b (needs.Give p bytes) → GivesPast w a b (needs.Give p other)
any_bytes w a b (port.Program d) bytes other none = none
any_bytes w a b other_port bytes other none = tt

-- it leaves the input of each other actor that is no member
pub input_past : (w : Pipework) (a b : List ℕ) (due : NeedData) (came : GotData) (wrote : ℕ) → is_member b ≡ false → b ≢ a → GivesPast w a b due
    → (pipework_after w a due came wrote).pipes b port.Input ≡ w.pipes b port.Input
input_past w a b (needs.Give p bytes) got.Gave wrote named apart none = gives_not w a b p bytes named none
input_past w a b (needs.Give p bytes) got.Failed wrote named apart none = gives_not w a b p (take wrote bytes) named (any_bytes w a b p bytes (take wrote bytes) none)
input_past w a b (needs.Take p) (got.Took bytes) wrote named apart none = put_not w.pipes (mouth a p) (taken bytes) b (ap (λ (t : Bool). t && is_port port.Input p) (other_text b a apart))
input_past w a b (needs.Start (child.Remote slot domain sender recipient)) (got.Started pid) wrote named apart none = port_not w.pipes (λ _. fresh) b a (port.Program slot) refl
input_past w a b due came wrote named apart none = refl

pub input_still : (w : Pipework) (a b : List ℕ) (due : NeedData) (came : GotData) → is_member b ≡ false → b ≢ a → GivesToNone w a due → (pipework_after w a due came 0).pipes b port.Input ≡ w.pipes b port.Input
input_still w a b due came named apart none = input_past w a b due came 0 named apart (past_none w a b due none)

put_runs : (t : Bool) (o v : Option Tenant) (c : List ℕ) → (v ≡ Some (Runs c) → ⊥) → (if t then v else o) ≡ Some (Runs c) → o ≡ Some (Runs c)
put_runs true o v c none is = absurd (none is)
put_runs false o v c none is = is

-- who runs in a slot ran there before
pub ran_before : (w : Pipework) (a : List ℕ) (due : NeedData) (came : GotData) (b : List ℕ) (d : ℕ) (c : List ℕ) → (pipework_after w a due came 0).programs b d ≡ Some (Runs c) → w.programs b d ≡ Some (Runs c)
ran_before w a (needs.Take (port.Status e)) (got.Ended status) b d c is = put_runs (bytes_eq b a && (d == e)) (w.programs b d) None c (λ none. cc) is
ran_before w a (needs.Take (port.Status e)) got.Crashed b d c is = put_runs (bytes_eq b a && (d == e)) (w.programs b d) None c (λ none. cc) is
ran_before w a (needs.Start (child.Remote slot domain sender recipient)) (got.Started pid) b d c is = put_runs (bytes_eq b a && (d == slot)) (w.programs b d) (Some (Remote false)) c (λ remote. cc) is
ran_before w a due came b d c is = is

put_elsewhere : (programs : List ℕ → ℕ → Option Tenant) (a : List ℕ) (e : ℕ) (v : Option Tenant) (b : List ℕ) (d : ℕ) → b ≢ a → put_program programs a e v b d ≡ programs b d
put_elsewhere programs a e v b d apart = ap (λ (t : Bool). if t && (d == e) then v else programs b d) (other_text b a apart)

-- and another actor's slots are as they were
pub runs_still : (w : Pipework) (a : List ℕ) (due : NeedData) (came : GotData) (b : List ℕ) (d : ℕ) → b ≢ a → (pipework_after w a due came 0).programs b d ≡ w.programs b d
runs_still w a (needs.Take (port.Status e)) (got.Ended status) b d apart = put_elsewhere w.programs a e None b d apart
runs_still w a (needs.Take (port.Status e)) got.Crashed b d apart = put_elsewhere w.programs a e None b d apart
runs_still w a (needs.Start (child.Remote slot domain sender recipient)) (got.Started pid) b d apart = put_elsewhere w.programs a slot (Some (Remote false)) b d apart
runs_still w a due came b d apart = refl

-- no member has a slot
abbrev pub HaveNoSlots : Pipework → Type 0
HaveNoSlots w = (a : List ℕ) → is_member a ≡ true → w.slots a ≡ None

-- so after an event of an actor each other one awaits what it awaited, and so does that one, if it passes nothing
pub own_awaits : (s : State) (a : List ℕ) (x : Actor) (own : Own) → HaveNoSlots s.pipework → GivesToNone s.pipework a own.due
    → (b : List ℕ) → (b ≡ a → pipework_after s.pipework a own.due own.came 0 ≡ s.pipework) → is_awaiting (acted s a own 0 (Some x)) b ≡ is_awaiting s b
own_awaits s a x own members none b alone = ⊎_elim
    (λ member. no_slot (acted s a own 0 (Some x)) b (members b member) ∙ sym (no_slot s b (members b member)))
    (λ named. awaits_same s (acted s a own 0 (Some x)) b refl (⊎_elim
    (λ f. ap (λ (w : Pipework). w.pipes b port.Input) (alone f.0))
    (λ f. input_still s.pipework a b own.due own.came named f.0 none)
    (text_cases b a)))
    (whether (is_member b))

-- An end or a stop

-- a child in a slot of that parent
pub record IsChildOf (s : State) (parent b : List ℕ) : Type 0 where
  pub named : is_member b ≡ false
  pub number : ℕ
  pub slot : s.pipework.slots b ≡ Some (record { parent = parent; number = number })

closed_ready : (pipe : Pipe) → is_ready (closed pipe) ≡ true
closed_ready pipe = or-true (not (length pipe.bytes == 0))

shut_not : (t u : Bool) (pipe : Pipe) → (t && not (is_ready (if u then closed pipe else pipe))) ≡ true → (t && not (is_ready pipe)) ≡ true
shut_not t false pipe is = is
shut_not t true pipe is = let both : false ≡ true = sym (ap (λ (v : Bool). t && not v) (closed_ready pipe) ∙ and_false t) ∙ is in absurd (cc)

-- who awaits afterwards awaited before
pub finish_less : (s : State) (a : List ℕ) (x : Actor) (life : Life) (b : List ℕ) → is_awaiting (finished s a life (Some x)) b ≡ true → is_awaiting s b ≡ true
finish_less s a x life b is =
    shut_not (is_some (s.pipework.slots b)) (is_writer a (feeder s.pipework b)) (s.pipework.pipes b port.Input) is

fed_by_parent : (s : State) (parent b : List ℕ) → IsChildOf s parent b → feeder s.pipework b ≡ Some parent
fed_by_parent s parent b of =
    ap (λ (t : Bool). if t then Some (codes "sender") else option_map (λ slot. slot.parent) (s.pipework.slots b)) of.named ∙ ap (option_map (λ slot. slot.parent)) of.slot

module _ (s : State) (x : Actor) (life : Life) (a b : List ℕ) where
  -- of another actor than its parent
  pub finish_other : (parent : List ℕ) → IsChildOf s parent b → a ≢ parent → is_awaiting (finished s a life (Some x)) b ≡ is_awaiting s b
  finish_other parent of apart =
      let by : is_writer a (feeder s.pipework b) ≡ false = ap (is_writer a) (fed_by_parent s parent b of) ∙ other_text a parent apart in
      awaits_same s (finished s a life (Some x)) b refl (ap (λ (t : Bool). if t then closed (s.pipework.pipes b port.Input) else s.pipework.pipes b port.Input) by)

  -- of its parent
  pub finish_parent : IsChildOf s a b → is_awaiting (finished s a life (Some x)) b ≡ false
  finish_parent of =
      let by : is_writer a (feeder s.pipework b) ≡ true = ap (is_writer a) (fed_by_parent s a b of) ∙ same_text a in
      ap (λ (t : Bool). is_some (s.pipework.slots b) && not (is_ready (if t then closed (s.pipework.pipes b port.Input) else s.pipework.pipes b port.Input))) by
      ∙ ap (λ (v : Bool). is_some (s.pipework.slots b) && not v) (closed_ready (s.pipework.pipes b port.Input)) ∙ and_false (is_some (s.pipework.slots b))

  -- who awaits nothing still awaits nothing
  pub finish_none : is_awaiting s b ≡ false → is_awaiting (finished s a life (Some x)) b ≡ false
  finish_none none = ⊎_elim
      (λ awaits. let both : false ≡ true = sym none ∙ finish_less s a x life b awaits in absurd (cc))
      (λ still. still)
      (whether (is_awaiting (finished s a life (Some x)) b))

-- The report of a remote program
pub report_awaits : (s : State) (slot : ℕ) (output : List ℕ) (b : List ℕ) → is_awaiting (happens s (Report slot output)) b ≡ is_awaiting s b
report_awaits s slot output b =
    awaits_same s (happens s (Report slot output)) b refl
    (port_not s.pipework.pipes (λ pipe. closed (given output pipe)) b (codes "rspawn") (port.Program slot) refl)

-- Its machine

-- it has done nothing, and waits
pub record Waits (m : AnyMachine) (program : Program) (past : List Own) : Type 0 where
  pub args : Arguments
  pub runs : program ≡ Injector args
  pub past_is : past ≡ []
  pub due : need_of m ≡ needs.Wait

fed_waits : (i : Input) (m : Machine) (args : Arguments) (past : List Own) → StandsWith i m args past → is_awaited i ≡ true → IsWaiting m args past
fed_waits Awaited m args past f awaits = f
fed_waits (Given message envelope) m args past f awaits = absurd cc
fed_waits Cut m args past f awaits = absurd cc

mail_waits : (m : FedInjector) (program : Program) (past : List Own) → Mails m program past → is_awaited m.input ≡ true → Waits (Mail m) program past
mail_waits m (Injector args) past f awaits =
    let w = fed_waits m.input m.injector args past f awaits in
    record { args = args; runs = refl; past_is = w.past_is; due = w.waits }
mail_waits m other past f awaits = absurd f

pub it_waits : (m : AnyMachine) (program : Program) (past : List Own) → Follows m program past → awaits_of m ≡ true → Waits m program past
it_waits (Mail m) program past f awaits = mail_waits m program past f awaits
it_waits (Clean m) program past f awaits = absurd cc
it_waits (Send m) program past f awaits = absurd cc
it_waits (Local m) program past f awaits = absurd cc
it_waits (RemoteSpawns m) program past f awaits = absurd cc
it_waits (Deliver m) program past f awaits = absurd cc
it_waits Gone program past f awaits = absurd f

-- who is no mail awaits nothing
pub none_awaits : (m : AnyMachine) (program : Program) (past : List Own) → Follows m program past → (IsMail program → ⊥) → awaits_of m ≡ false
none_awaits m program past follows other = ⊎_elim
    (λ awaits. absurd (other (subst IsMail (sym (it_waits m program past follows awaits).runs) tt)))
    (λ none. none)
    (whether (awaits_of m))

-- so it owes nothing
pub owes_none : (x : Held) (events : List Kept) (program : Program) (past rest : List Own) (at : ℕ) → Owes x events past at → Follows x.machine program rest → awaits_of x.machine ≡ true → ⊥
owes_none x events program past rest at o follows awaits =
    let w = it_waits x.machine program rest follows awaits in
    subst (λ (due : NeedData). IsKind due o.own.came) (sym o.due ∙ w.due) o.kind

-- what it finds isn't its input
no_input : (s : State) (a : List ℕ) (args : Arguments) → is_awaiting s a ≡ true → has_input (found_by s a (Injector args)) ≡ false
no_input s a args awaits = ap (λ (t : Bool). has_input (if t then input_alone false else INPUT_READY)) awaits

first_waits : (late : Bool) (args : Arguments) → in_time false late (inject_due args (at.Create 1)) ≡ needs.Wait
first_waits late args = refl

pub due_waits : (s : State) (a : List ℕ) (m : AnyMachine) (program : Program) (past : List Own) (now : ℕ) → Follows m program past → awaits_of m ≡ true → is_awaiting s a ≡ true
    → next_of program past now (found_by s a program) ≡ needs.Wait
due_waits s a m program past now follows awaits is =
    let w = it_waits m program past follows awaits in
    ap (λ (program : Program). next_of program past now (found_by s a program)) w.runs ∙ ap (λ (past : List Own). Next w.args past now (found_by s a (Injector w.args))) w.past_is
    ∙ ap (λ (t : Bool). in_time t (is_late w.args now) (inject_due w.args (at.Create 1))) (no_input s a w.args is) ∙ first_waits (is_late w.args now) w.args

-- and it may be told what it finds
mail_can : (s : State) (a : List ℕ) (m : FedInjector) (program : Program) (past : List Own) → Mails m program past → (IsMail program → is_awaited m.input ≡ is_awaiting s a) → CanFind (Mail m) (found_by s a program)
mail_can s a m (Injector args) past f same = λ awaits. no_input s a args (sym (same tt) ∙ awaits)
mail_can s a m other past f same = absurd f

pub can_find : (s : State) (a : List ℕ) (m : AnyMachine) (program : Program) (past : List Own) → Follows m program past → (IsMail program → awaits_of m ≡ is_awaiting s a) → CanFind m (found_by s a program)
can_find s a (Mail m) program past f same = mail_can s a m program past f same
can_find s a (Clean m) program past f same = tt
can_find s a (Send m) program past f same = tt
can_find s a (Local m) program past f same = tt
can_find s a (RemoteSpawns m) program past f same = tt
can_find s a (Deliver m) program past f same = tt
can_find s a Gone program past f same = absurd f
