-- An event of an actor that may happen: a file call, or what passes between programs.
use Rattle.std.proofs.Common.{◌≡◌, ℕ, List}
use Rattle.call_fs.specs.declared.calls.CallData.{CallData}
use Rattle.call_fs.specs.declared.calls.Told.{Told}
use Rattle.call_fs.specs.declared.program.Ready.{Ready}
use Rattle.call_fs.specs.declared.past.NeedData.{NeedData}
use Rattle.call_fs.specs.declared.past.NeedData.TheVariants as needs
use Rattle.call_fs.specs.declared.past.GotData.{GotData}
use Rattle.call_fs.specs.declared.past.GotData.TheVariants as got
use Rattle.call_fs.specs.declared.past.Own.{Own}
use Rattle.call_fs.specs.Apply.{Fits, IsReadBy}
use Rattle.mail_world.specs.History.{Actor, State, MayRead, ComesOf, MayDo, next_of, own_call}

-- a call that is next by the actor's table, with an answer that the disk may give, and the bytes of a read
pub record MayCall (s : State) (a : List ℕ) (read : ℕ) (ready : Ready) (call : CallData) (told : Told) (wrote : ℕ) : Type 0 where
  pub actor : Actor
  pub reads : MayRead s a actor read
  pub due : next_of actor.program actor.past read ready ≡ needs.File call
  pub fits : Fits s.disk call told.answer wrote
  pub bytes : IsReadBy s.disk call told

abbrev pub own_of : ℕ → Ready → NeedData → GotData → Own
own_of read ready due came = record { read = read; ready = ready; due = due; came = came }

-- what passes between programs: a taking, a giving, a start or a command
abbrev pub IsPass : NeedData → Type 0
IsPass (needs.Take port) = Unit {0}
IsPass (needs.Give port bytes) = Unit {0}
IsPass (needs.Start asked) = Unit {0}
IsPass (needs.Command bytes) = Unit {0}
IsPass other = ⊥

module _ (s : State) (a : List ℕ) (wrote : ℕ) (P : Own → Type 0)
    (calls : (read : ℕ) (ready : Ready) (call : CallData) (told : Told) → MayCall s a read ready call told wrote → P (own_call read ready call told))
    (passes : (x : Actor) (read : ℕ) (ready : Ready) (due : NeedData) (came : GotData) → MayRead s a x read → next_of x.program x.past read ready ≡ due → IsPass due → P (own_of read ready due came)) where
  by_came : (x : Actor) (read : ℕ) (ready : Ready) (call : CallData) (came : GotData) → MayRead s a x read
      → next_of x.program x.past read ready ≡ needs.File call → ComesOf s a (needs.File call) came wrote → P (own_of read ready (needs.File call) came)
  by_came x read ready call (got.Answered told) reads due may = calls read ready call told (record { actor = x; reads = reads; due = due; fits = may.0; bytes = may.1 })
  by_came x read ready call (got.Took bytes) reads due may = absurd may
  by_came x read ready call got.End reads due may = absurd may
  by_came x read ready call (got.Ended status) reads due may = absurd may
  by_came x read ready call got.Crashed reads due may = absurd may
  by_came x read ready call got.Gave reads due may = absurd may
  by_came x read ready call (got.Started pid) reads due may = absurd may
  by_came x read ready call got.Failed reads due may = absurd may
  by_came x read ready call got.Memory reads due may = absurd may

  by_due : (x : Actor) (read : ℕ) (ready : Ready) (due : NeedData) (came : GotData) → MayRead s a x read
      → next_of x.program x.past read ready ≡ due → ComesOf s a due came wrote → P (own_of read ready due came)
  by_due x read ready (needs.File call) came reads due may = by_came x read ready call came reads due may
  by_due x read ready (needs.Take port) came reads due may = passes x read ready (needs.Take port) came reads due tt
  by_due x read ready (needs.Give port bytes) came reads due may = passes x read ready (needs.Give port bytes) came reads due tt
  by_due x read ready (needs.Start asked) came reads due may = passes x read ready (needs.Start asked) came reads due tt
  by_due x read ready (needs.Command bytes) came reads due may = passes x read ready (needs.Command bytes) came reads due tt
  by_due x read ready needs.Wait came reads due may = absurd may
  by_due x read ready (needs.Ended status) came reads due may = absurd may

  -- what holds of each file call that may happen, and of all that may pass, holds of each event of an actor that may happen
  pub by_act : (own : Own) → MayDo s a own wrote → P own
  by_act own may = by_due may.actor own.read own.ready own.due own.came may.reads may.due may.came

-- who did something might read the moment
pub may_read : (s : State) (a : List ℕ) (wrote : ℕ) (own : Own) → MayDo s a own wrote → (x : Actor) × MayRead s a x own.read
may_read s a wrote own may = (may.actor, may.reads)
