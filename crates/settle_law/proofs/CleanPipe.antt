-- What lies in the pipe from the cleaner to the sender, and that it stays open where nothing fails.
use Rattle.std.proofs.Common.{◌≡◌, ◌≢◌, ⊎_elim, ℕ, List, [], ◌∷◌, take, Bool, true, false, if◌then◌else◌, Option, Some, None, refl, sym, ap, ◌∙◌, subst, bytes_eq, codes}
use Rattle.std.specs.List.{list_all}
use Rattle.std.proofs.lemmas.Bool.{and_parts}
use Rattle.call_fs.specs.Disk.{Disk}
use Rattle.call_fs.specs.Maps.{put_at}
use Rattle.call_fs.proofs.Maps.{put_at_cases, put_at_same}
use Rattle.call_fs.specs.declared.past.ChildData.{ChildData}
use Rattle.call_fs.specs.declared.past.ChildData.TheVariants as child
use Rattle.call_fs.specs.declared.past.GotData.{GotData}
use Rattle.call_fs.specs.declared.past.GotData.TheVariants as came
use Rattle.call_fs.specs.declared.past.NeedData.{NeedData}
use Rattle.call_fs.specs.declared.past.NeedData.TheVariants as needs
use Rattle.call_fs.specs.declared.past.Own.{Own}
use Rattle.call_fs.specs.declared.program.Port.{Port}
use Rattle.call_fs.specs.declared.program.Port.TheVariants as port
use Rattle.queue_law.proofs.Tests.{other_text, text_cases}
use Rattle.world_events.specs.declared.event.Program.{Program}
use Rattle.world_pipes.specs.Pipework.{Mouth, Pipe, Pipework, Tenant, child_output, closed, far_end, fresh, given, gives, input_of, mouth, output, pipes_after, put_pipe, taken, with_output}
use Rattle.world_pipes.specs.Pipework.Tenant.{Remote as Far, Runs}
use Rattle.mail_world.specs.History.{Actor, Allowed, Event, IsSender, MayBear, State, acted, after, bears, finished, happens, newborn, slot_by}
use Rattle.mail_world.specs.History.Event.{Start, Act, Child, Generation, Report, End, Stop, Moment, Halt}
use Rattle.mail_world.specs.History.Life.{Alive, Over}
use Rattle.world_law.proofs.Pipes.{IsAway, away_same, child_away}
use Rattle.world_law.proofs.PostPipes.{other_pipe}
use Rattle.world_law.proofs.Tenants.{some_actor}
use Rattle.settle_law.specs.inside.Living.Servant.{Cleans}
use Rattle.settle_law.specs.inside.Living.{IsServed}
use Rattle.settle_law.specs.Well.{GoesWell, goes_well}
use Rattle.settle_law.proofs.Living.{no_sender_alone, no_sender_child, put_keeps, servants_live}

abbrev pub reply_pipe : Pipework → Pipe
reply_pipe w = w.pipes (codes "sender") port.Clean

-- a file call, a taking of the input or an end
abbrev pub IsCalm : NeedData → Type 0
IsCalm (needs.File c) = Unit {0}
IsCalm (needs.Take port.Input) = Unit {0}
IsCalm (needs.Ended status) = Unit {0}
IsCalm due = ⊥

-- Who is neither of both leaves it

-- of what is printed only the cleaner's goes there
printed_away : (u v t : Bool) (o : Option Mouth) → t ≡ false → IsAway o port.Clean
    → IsAway (if t then Some (mouth (codes "sender") port.Clean) else
    (if u then Some (mouth (codes "sender") port.Lspawn) else (if v then Some (mouth (codes "sender") port.Rspawn) else o))) port.Clean
printed_away u v true o other away = absurd (cc)
printed_away true v false o other away = refl
printed_away false true false o other away = refl
printed_away false false false o other away = away

module _ (w : Pipework) (a : List ℕ) where
  fed_left : (o : Option Tenant) (change : Pipe → Pipe) → put_pipe w.pipes (input_of o) change (codes "sender") port.Clean ≡ reply_pipe w
  fed_left None change = refl
  fed_left (Some (Far told)) change = refl
  fed_left (Some (Runs b)) change = away_same w.pipes (Some (mouth b port.Input)) change (codes "sender") port.Clean refl

  gives_left : (p : Port) (bytes : List ℕ) → a ≢ codes "clean" → gives w a p bytes (codes "sender") port.Clean ≡ reply_pipe w
  gives_left port.Output bytes other = away_same w.pipes (output w a) (given bytes) (codes "sender") port.Clean
      (printed_away (bytes_eq a (codes "lspawn")) (bytes_eq a (codes "rspawn")) (bytes_eq a (codes "clean")) (child_output w a (w.slots a)) (other_text a (codes "clean") other)
      (child_away w a (w.slots a) port.Clean (λ number. refl)))
  gives_left (port.Program d) bytes other = fed_left (w.programs a d) (λ pipe. closed (given bytes pipe))
  gives_left p bytes other = refl

  pub output_left : (d : ℕ) → with_output w.pipes a d (codes "sender") port.Clean ≡ reply_pipe w
  output_left d = away_same w.pipes (Some (mouth a (port.Program d))) (λ pipe. fresh) (codes "sender") port.Clean refl

  pub pipe_left : (due : NeedData) (got : GotData) (wrote : ℕ) → a ≢ codes "clean" → a ≢ codes "sender" → pipes_after w a due got wrote (codes "sender") port.Clean ≡ reply_pipe w
  pipe_left (needs.Give p bytes) came.Gave wrote other apart = gives_left p bytes other
  pipe_left (needs.Give p bytes) came.Failed wrote other apart = gives_left p (take wrote bytes) other
  pipe_left (needs.Take p) (came.Took bytes) wrote other apart = other_pipe w.pipes (mouth a p) (taken bytes) (codes "sender") port.Clean (λ same. apart (sym same))
  pipe_left (needs.Start (child.Remote slot domain sender recipient)) (came.Started pid) wrote other apart = output_left slot
  pipe_left due got wrote other apart = refl

  -- so does whoever only calls, and takes its input
  pub calm_left : (due : NeedData) (got : GotData) (wrote : ℕ) → IsCalm due → pipes_after w a due got wrote (codes "sender") port.Clean ≡ reply_pipe w
  calm_left (needs.File c) got wrote calm = refl
  calm_left (needs.Take port.Input) (came.Took bytes) wrote calm = away_same w.pipes (Some (mouth a port.Input)) (taken bytes) (codes "sender") port.Clean refl
  calm_left (needs.Take port.Input) got wrote calm = refl
  calm_left (needs.Ended status) got wrote calm = refl
  calm_left due got wrote calm = absurd calm

  -- a start leaves it, whoever starts
  pub start_left : (asked : ChildData) (got : GotData) (wrote : ℕ) → pipes_after w a (needs.Start asked) got wrote (codes "sender") port.Clean ≡ reply_pipe w
  start_left (child.Remote slot domain sender recipient) (came.Started pid) wrote = output_left slot
  start_left asked got wrote = refl

  -- An event of an actor leaves it open

  gives_open : (p : Port) (bytes : List ℕ) → (gives w a p bytes (codes "sender") port.Clean).shut ≡ (reply_pipe w).shut
  gives_open (port.Program d) bytes = ap (λ (pipe : Pipe). pipe.shut) (fed_left (w.programs a d) (λ pipe. closed (given bytes pipe)))
  gives_open p bytes = put_keeps w.pipes (far_end w a p) (given bytes) (λ pipe. refl) (codes "sender") port.Clean

  open_left : (due : NeedData) (got : GotData) (wrote : ℕ) → (pipes_after w a due got wrote (codes "sender") port.Clean).shut ≡ (reply_pipe w).shut
  open_left (needs.Give p bytes) came.Gave wrote = gives_open p bytes
  open_left (needs.Give p bytes) came.Failed wrote = gives_open p (take wrote bytes)
  open_left (needs.Take p) (came.Took bytes) wrote = put_keeps w.pipes (Some (mouth a p)) (taken bytes) (λ pipe. refl) (codes "sender") port.Clean
  open_left (needs.Start (child.Remote slot domain sender recipient)) (came.Started pid) wrote = ap (λ (pipe : Pipe). pipe.shut) (output_left slot)
  open_left due got wrote = refl

-- It is open while the sender lives, since its cleaner lives so long

-- a sender lives
pub record Sends (s : State) : Type 0 where
  pub actor : Actor
  pub is : s.actors (codes "sender") ≡ Some actor
  pub alive : actor.life ≡ Alive
  pub sends : IsSender actor.program

abbrev pub IsOpen : State → Type 0
IsOpen s = Sends s → (reply_pipe s.pipework).shut ≡ false

-- the sender lived before, or it starts
abbrev Lived : State → State → Type 0
Lived s t = Sends t → Sends s

put_sends : (s t : State) (a : List ℕ) (y : Actor) → t.actors ≡ put_at s.actors a (Some y) → (y.life ≡ Alive → IsSender y.program → a ≡ codes "sender" → Sends s) → Lived s t
put_sends s t a y are own it =
    let there : put_at s.actors a (Some y) (codes "sender") ≡ Some it.actor = ap (λ (f : List ℕ → Option Actor). f (codes "sender")) (sym are) ∙ it.is in
    ⊎_elim
    (λ (c : (codes "sender" ≡ a) × (put_at s.actors a (Some y) (codes "sender") ≡ Some y)).
    let same : it.actor ≡ y = some_actor it.actor y (sym there ∙ c.1) in
    own (subst (λ (o : Actor). o.life ≡ Alive) same it.alive) (subst (λ (o : Actor). IsSender o.program) same it.sends) (sym c.0))
    (λ (c : (codes "sender" ≢ a) × (put_at s.actors a (Some y) (codes "sender") ≡ s.actors (codes "sender"))). record { actor = it.actor; is = sym c.1 ∙ there; alive = it.alive; sends = it.sends })
    (put_at_cases s.actors a (Some y) (codes "sender"))

acted_lived : (s : State) (a : List ℕ) (own : Own) (wrote : ℕ) (x : Actor) → s.actors a ≡ Some x → Lived s (acted s a own wrote (Some x))
acted_lived s a own wrote x is =
    put_sends s (acted s a own wrote (Some x)) a (record { program = x.program; past = own ∷ x.past; life = x.life }) refl
    (λ alive sends e. record { actor = x; is = ap s.actors (sym e) ∙ is; alive = alive; sends = sends })

acted_open : (s : State) → IsOpen s → (a : List ℕ) (own : Own) (wrote : ℕ) (x : Actor) → s.actors a ≡ Some x → IsOpen (acted s a own wrote (Some x))
acted_open s U a own wrote x is it = open_left s.pipework a own.due own.came wrote ∙ U (acted_lived s a own wrote x is it)

newborn_lived : (s t : State) (a : List ℕ) (program : Program) → t.actors ≡ put_at s.actors a (Some (newborn program)) → (IsSender program → ⊥) → Lived s t
newborn_lived s t a program are other = put_sends s t a (newborn program) are (λ alive sends e. absurd (other sends))

child_open : (s : State) → IsOpen s → (parent : List ℕ) (own : Own) (a : List ℕ) (program : Program) (may : MayBear s parent own a program)
    → IsOpen (bears (acted s parent own 0 (Some may.actor)) parent own a program)
child_open s U parent own a program may it =
    let mid : State = acted s parent own 0 (Some may.actor) in
    let born : State = bears (acted s parent own 0 (Some may.actor)) parent own a program in
    ap (λ (pipe : Pipe). pipe.shut) (output_left mid.pipework parent (slot_by own.due))
    ∙ acted_open s U parent own 0 may.actor may.reads.is (newborn_lived mid born a program refl (no_sender_child may.asked may.pid program may.is) it)

end_open : (s : State) → IsOpen s → (a : List ℕ) (x : Actor) (status : ℕ) → (Sends (finished s a (Over status) (Some x)) → IsServed Cleans (finished s a (Over status) (Some x))) → IsOpen (finished s a (Over status) (Some x))
end_open s U a x status served it = ⊎_elim
    (λ (c : (a ≡ codes "clean") × (bytes_eq a (codes "clean") ≡ true)).
    let w = served it in
    let there : put_at s.actors a (Some over) a ≡ Some w.actor = ap (put_at s.actors a (Some over)) c.0 ∙ w.is in
    absurd (dead (ap (λ (o : Actor). o.life) (some_actor over w.actor (sym (put_at_same s.actors a (Some over)) ∙ there)) ∙ w.alive)))
    (λ (c : (a ≢ codes "clean") × (bytes_eq a (codes "clean") ≡ false)).
    ap (λ (b : Bool). (if b then closed (reply_pipe s.pipework) else reply_pipe s.pipework).shut) c.1
    ∙ U (put_sends s (finished s a (Over status) (Some x)) a over refl (λ alive sends e. absurd (dead alive)) it))
    (text_cases a (codes "clean"))
  where
    over : Actor
    over = record { program = x.program; past = x.past; life = Over status }

    dead : Over status ≡ Alive → ⊥
    dead e = cc

event_open : (e : Event) (s : State) → IsOpen s → Allowed s e → goes_well e ≡ true → (Sends (happens s e) → IsServed Cleans (happens s e)) → IsOpen (happens s e)
event_open (Start a program) s U may well served = λ it. U (newborn_lived s (happens s (Start a program)) a program refl (no_sender_alone program may.runs) it)
event_open (Act a own wrote) s U may well served = subst (λ (o : Option Actor). IsOpen (acted s a own wrote o)) (sym may.reads.is) (acted_open s U a own wrote may.actor may.reads.is)
event_open (Child parent own a program) s U may well served =
    subst (λ (o : Option Actor). IsOpen (bears (acted s parent own 0 o) parent own a program)) (sym may.reads.is) (child_open s U parent own a program may)
event_open (Generation crew) s U may well served = λ it. refl
event_open (Report slot output) s U may well served = λ it.
    ap (λ (pipe : Pipe). pipe.shut) (away_same s.pipework.pipes (Some (mouth (codes "rspawn") (port.Program slot))) (λ pipe. closed (given output pipe)) (codes "sender") port.Clean refl)
    ∙ U (record { actor = it.actor; is = it.is; alive = it.alive; sends = it.sends })
event_open (End a read ready status) s U may well served =
    subst (λ (o : Option Actor). IsOpen (finished s a (Over status) o)) (sym may.reads.is)
    (end_open s U a may.actor status (subst (λ (o : Option Actor). Sends (finished s a (Over status) o) → IsServed Cleans (finished s a (Over status) o)) may.reads.is served))
event_open (Stop a) s U may well served = absurd (cc)
event_open (Moment m) s U may well served = λ it. U (record { actor = it.actor; is = it.is; alive = it.alive; sends = it.sends })
event_open (Halt how contents) s U may well served = absurd (cc)

pub open_always : (d : Disk) (h : List Event) → GoesWell d h → IsOpen (after d h)
open_always d [] g = λ it. refl
open_always d (e ∷ h) g =
    let parts = and_parts (goes_well e) (list_all goes_well h) g.well in
    let before : GoesWell d h = record { legal = g.legal.0; well = parts.1 } in
    event_open e (after d h) (open_always d h before) g.legal.1 parts.0 (λ it. servants_live d (e ∷ h) g Cleans it.actor it.is it.alive it.sends)
