-- An event of an injector, which is a file call.
use Rattle.std.proofs.Common.{◌≡◌, ℕ, List, ◌∷◌, Option, Some, refl, sym, subst}
use Rattle.call_fs.specs.declared.calls.CallData.{CallData}
use Rattle.call_fs.specs.declared.calls.Told.{Told}
use Rattle.call_fs.specs.declared.past.GotData.{GotData}
use Rattle.call_fs.specs.declared.past.GotData.TheVariants as got
use Rattle.call_fs.specs.declared.past.NeedData.{NeedData}
use Rattle.call_fs.specs.declared.past.NeedData.TheVariants as needs
use Rattle.call_fs.specs.declared.past.Own.{Own}
use Rattle.queue_inject.specs.declared.injection.Arguments.{Arguments}
use Rattle.queue_inject.specs.Table.{Next}
use Rattle.queue_inject.proofs.Acts.{IsAlone, next_alone}
use Rattle.program_law.proofs.Delivery.Stay.{drops_stay}
use Rattle.queue_law.specs.Numbers.{Queue}
use Rattle.queue_law.specs.Steps.{queue_after}
use Rattle.queue_law.proofs.Injectors.{injector_calls}
use Rattle.program_law.proofs.Sender.Spares.{others_spare}
use Rattle.world_events.specs.declared.event.Program.{Program}
use Rattle.world_events.specs.declared.event.Program.TheVariants.{Injector}
use Rattle.mail_world.specs.ByKind.{IsMail}
use Rattle.mail_world.specs.History.{Actor, ComesOf, Life, MayRead, State, acted, next_of}
use Rattle.mail_world.specs.History.Life.{Alive}
use Rattle.mail_world.specs.Untouched.{queue}
use Rattle.world_law.specs.Inv.{Inv}
use Rattle.world_law.specs.Laws.{InjectorsKeep}
use Rattle.world_law.proofs.Bounces.{called_bounces}
use Rattle.world_law.proofs.Moved.{IsSeenAs}
use Rattle.world_law.proofs.Stepped.{stepped_keeps}
use Rattle.world_law.proofs.Tenants.{GoesOn}

module _ (s : State) (I : Inv s) (a : List ℕ) (wrote : ℕ) (args : Arguments) (past : List Own) (own : Own) where
  abbrev injector : List Own → Actor
  injector events = record { program = Injector args; past = events; life = Alive }

  abbrev event : NeedData → GotData → Own
  event due came = record { read = own.read; ready = own.ready; due = due; came = came }

  abbrev then_state : NeedData → GotData → State
  then_state due came = acted s a (event due came) wrote (Some (injector past))

  called_keeps : MayRead s a (injector past) own.read → (call : CallData) (told : Told) → Next args past own.read own.ready ≡ needs.File call
      → ComesOf s a (needs.File call) (got.Answered told) wrote → Inv (then_state (needs.File call) (got.Answered told))
  called_keeps may call told due comes =
      let q : Queue = queue s I.role in
      let c = injector_calls s.now q a args past own.read own.ready call told wrote I.sound (I.fares a (injector past) may.is) may.no_earlier may.no_stall due comes.0 in
      let r : Queue = queue_after q a args own.read call told.answer wrote c.role in
      let y : Actor = injector (event (needs.File call) (got.Answered told) ∷ past) in
      let seen : IsSeenAs (s.actors a) y = subst (λ (o : Option Actor). IsSeenAs o y) (sym may.is) (record { awaits = refl; place = refl; lives = λ h. h }) in
      let goes : GoesOn (s.actors a) (Injector args) = subst (λ (o : Option Actor). GoesOn o (Injector args)) (sym may.is) refl in
      stepped_keeps s I a r c.number c.elsewhere c.spares c.names (others_spare.injectors s.now q a args past own.read own.ready call told wrote c)
      (drops_stay.tmp a q r (drops_stay.outside a q r c.outside c.old)) c.sound
      (called_bounces s.books a args call told.answer c.elsewhere.accepted I.bounces) y tt goes seen tt c.fares

  came_keeps : MayRead s a (injector past) own.read → (call : CallData) → Next args past own.read own.ready ≡ needs.File call → (came : GotData)
      → ComesOf s a (needs.File call) came wrote → Inv (then_state (needs.File call) came)
  came_keeps may call due (got.Answered told) comes = called_keeps may call told due comes
  came_keeps may call due (got.Took bytes) comes = absurd comes
  came_keeps may call due got.End comes = absurd comes
  came_keeps may call due (got.Ended status) comes = absurd comes
  came_keeps may call due got.Crashed comes = absurd comes
  came_keeps may call due got.Gave comes = absurd comes
  came_keeps may call due (got.Started pid) comes = absurd comes
  came_keeps may call due got.Failed comes = absurd comes
  came_keeps may call due got.Memory comes = absurd comes

  due_keeps : MayRead s a (injector past) own.read → (due : NeedData) → Next args past own.read own.ready ≡ due → IsAlone due → ComesOf s a due own.came wrote
      → Inv (then_state due own.came)
  due_keeps may (needs.File call) is alone comes = came_keeps may call is own.came comes
  due_keeps may (needs.Ended status) is alone comes = absurd comes
  due_keeps may needs.Wait is alone comes = absurd comes
  due_keeps may (needs.Take port) is alone comes = absurd alone
  due_keeps may (needs.Give port bytes) is alone comes = absurd alone
  due_keeps may (needs.Start child) is alone comes = absurd alone
  due_keeps may (needs.Command text) is alone comes = absurd alone

by_program : (s : State) (I : Inv s) (a : List ℕ) (wrote : ℕ) (program : Program) (past : List Own) (life : Life) (own : Own) → IsMail program → life ≡ Alive
    → MayRead s a (record { program = program; past = past; life = life }) own.read → next_of program past own.read own.ready ≡ own.due → ComesOf s a own.due own.came wrote
    → Inv (acted s a own wrote (Some (record { program = program; past = past; life = life })))
by_program s I a wrote (Injector args) past Alive own it alive may due comes =
    due_keeps s I a wrote args past own may own.due due (subst IsAlone due (next_alone args past own.read own.ready)) comes
by_program s I a wrote (Injector args) past life own it alive may due comes = absurd (cc)
by_program s I a wrote other past life own it alive may due comes = absurd it

pub injectors_keep : InjectorsKeep
injectors_keep a own wrote s I may it =
    let x = may.actor in
    subst (λ (o : Option Actor). Inv (acted s a own wrote o)) (sym may.reads.is)
    (by_program s I a wrote x.program x.past x.life own it may.reads.alive may.reads may.due may.came)
