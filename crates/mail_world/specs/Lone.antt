-- What an actor of the class `Lone` may take and give. It starts alone with its whole input, which lies in its pipe, shut: nobody adds to it.
-- It gives to nobody: what it gave is told by its own past, whatever became of it since.
-- No program has this class yet, and nothing ties the class to `begins_lone` before one has: of the class alone it is known that it may start
-- alone and is no member, and `happens` leaves the pipes as they are at a start. The first such program brings the case of `happens` that goes by
-- `begins_lone`. What is said below holds of `begins_lone` and of events as they are.
use Rattle.std.specs.Prelude.{◌≡◌, ◌≢◌, ◌⊎◌, ℕ, List, [], ◌∷◌, ◌++◌, bytes_eq, false, if◌then◌else◌, true, Option, Some, None}
use Rattle.call_fs.specs.declared.past.GotData.{GotData}
use Rattle.call_fs.specs.declared.past.GotData.TheVariants.{Took, Gave}
use Rattle.call_fs.specs.declared.past.NeedData.{NeedData}
use Rattle.call_fs.specs.declared.past.NeedData.TheVariants as needs
use Rattle.call_fs.specs.declared.past.Own.{Own}
use Rattle.call_fs.specs.declared.program.Port.{Port}
use Rattle.call_fs.specs.declared.program.Port.TheVariants as port
use Rattle.world_events.specs.declared.event.Program.{Program}
use Rattle.mail_world.specs.Pipework.{Pipework, closed, fresh, given, is_member, mouth, pipework_after, put_pipe}
use Rattle.mail_world.specs.Pipework.Tenant.{Runs}
use Rattle.mail_world.specs.History.{Actor, Allowed, Event, MayRun, State, begins, happens}
use Rattle.mail_world.specs.History.Event.{Act}
use Rattle.mail_world.specs.Untouched.{is_halt}

-- what may be due to it: a file call, its input, its output, its end, or to wait
abbrev pub IsLoneNeed : NeedData → Type 0
IsLoneNeed (needs.File call) = Unit {0}
IsLoneNeed (needs.Take port.Input) = Unit {0}
IsLoneNeed (needs.Give port.Output bytes) = Unit {0}
IsLoneNeed (needs.Ended status) = Unit {0}
IsLoneNeed needs.Wait = Unit {0}
IsLoneNeed due = ⊥

-- the state after it has started with this input
abbrev pub begins_lone : State → List ℕ → Program → List ℕ → State
begins_lone s a program input = begins s a program (record {
  pipes = put_pipe s.pipework.pipes (Some (mouth a port.Input)) (λ _. closed (given input fresh));
  programs = s.pipework.programs;
  slots = s.pipework.slots;
})

-- what it took of its input with an event, and by its past: with `ab` and then `c` taken, `abc`; the end is nothing more
abbrev pub takes_in : NeedData → GotData → List ℕ
takes_in (needs.Take port.Input) (Took bytes) = bytes
takes_in due came = []

abbrev pub taken_of : List Own → List ℕ
taken_of [] = []
taken_of (own ∷ past) = taken_of past ++ takes_in own.due own.came

-- and what it gave: with `+OK` given, and `.` not, since that failed, `+OK`
abbrev pub gives_out : NeedData → GotData → List ℕ
gives_out (needs.Give port.Output bytes) Gave = bytes
gives_out due came = []

abbrev pub given_of : List Own → List ℕ
given_of [] = []
given_of (own ∷ past) = given_of past ++ gives_out own.due own.came

-- so an actor, alive or over
abbrev pub said_by : Option Actor → List ℕ
said_by None = []
said_by (Some x) = given_of x.past

-- It has no name of a member, was started in no slot, and none is its: no actor's pipe leads to it.
pub record IsApart (w : Pipework) (a : List ℕ) : Type 0 where
  pub named : is_member a ≡ false
  pub slot : w.slots a ≡ None
  pub tenant : (b : List ℕ) (d : ℕ) → w.programs b d ≢ Some (Runs a)

-- This is its whole input: what it took, and then what lies in its pipe, to which nothing is added.
pub record HasInput (s : State) (a input : List ℕ) : Type 0 where
  pub actor : Actor
  pub is : s.actors a ≡ Some actor
  pub apart : IsApart s.pipework a
  pub parts : taken_of actor.past ++ (s.pipework.pipes a port.Input).bytes ≡ input
  pub shut : (s.pipework.pipes a port.Input).shut ≡ true

-- So it is from its start until the machine stops, whoever acts; and its own events change no other pipe and no slot.
pub record LonesHaveTheirInput : Type 0 where
  pub starts : (s : State) (a : List ℕ) (program : Program) (input : List ℕ) → IsApart s.pipework a → HasInput (begins_lone s a program input) a input
  pub stays : (s : State) (e : Event) (a input : List ℕ) → Allowed s e → is_halt e ≡ false → HasInput s a input → HasInput (happens s e) a input
  pub pipes : (w : Pipework) (a : List ℕ) (own : Own) (wrote : ℕ) → IsApart w a → IsLoneNeed own.due → (b : List ℕ) (p : Port) → (b ≢ a) ⊎ (p ≢ port.Input)
      → (pipework_after w a own.due own.came wrote).pipes b p ≡ w.pipes b p
  pub programs : (w : Pipework) (a : List ℕ) (own : Own) (wrote : ℕ) → IsLoneNeed own.due → (b : List ℕ) (d : ℕ) → (pipework_after w a own.due own.came wrote).programs b d ≡ w.programs b d

-- what an actor gives with an event
abbrev pub gives_in : List ℕ → Event → List ℕ
gives_in a (Act b own wrote) = if bytes_eq a b then gives_out own.due own.came else []
gives_in a e = []

-- Of one that started alone nothing that it gave is ever taken back: not by its end, not by a stop, not by a machine stop.
abbrev pub WhatWasGivenStays : Type 0
WhatWasGivenStays = (s : State) (e : Event) (a : List ℕ) (x : Actor) → s.actors a ≡ Some x → MayRun x.program → Allowed s e
    → said_by ((happens s e).actors a) ≡ said_by (s.actors a) ++ gives_in a e
