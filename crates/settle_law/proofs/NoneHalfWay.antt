-- At a rest no number is half-way.
use Rattle.std.proofs.Common.{◌≡◌, ◌≢◌, ◌⊎◌, ⊎_elim, ℕ, List, ◌∷◌, ◌++◌, Bool, true, false, Option, Some, None, refl, sym, ap, ◌∙◌, subst, bytes_eq, codes}
use Rattle.std.specs.Prelude.{is_some}
use Rattle.std.proofs.lemmas.Bool.{false≢true}
use Rattle.call_fs.specs.Disk.{Disk}
use Rattle.call_fs.specs.declared.past.NeedData.{NeedData}
use Rattle.call_fs.specs.declared.past.NeedData.TheVariants as needs
use Rattle.call_fs.specs.declared.past.Own.{Own}
use Rattle.call_fs.specs.declared.program.Port.TheVariants as port
use Rattle.call_fs.specs.declared.program.Ready.{Ready}
use Rattle.queue_inject.specs.declared.injection.Arguments.{Arguments}
use Rattle.queue_law.proofs.Tests.{text_cases}
use Rattle.queue_paths.specs.Names.{path}
use Rattle.queue_paths.specs.Names.Name.{Of}
use Rattle.queue_paths.specs.Names.Part.{Bounce, Info, Local, Mess, Remote}
use Rattle.queue_paths.specs.Parts.{in_todo, parts_of}
use Rattle.queue_states.specs.declared.state.State.TheVariants.{S2, S3}
use Rattle.queue_states.specs.States.{is_there, state_by, state_of, is_in_intd, is_in_todo}
use Rattle.send_core.specs.Stands.{is_search}
use Rattle.send_core.specs.Table.{row_now}
use Rattle.send_parts.specs.declared.row.Row.{Row}
use Rattle.send_parts.specs.declared.row.Row.TheVariants as at
use Rattle.send_parts.specs.declared.rows.FinishRow.{FinishRow}
use Rattle.send_parts.specs.declared.rows.FinishRow.TheVariants as finish
use Rattle.world_events.specs.declared.event.Program.{Program}
use Rattle.world_events.specs.declared.event.Program.TheVariants.{Injector, Sender}
use Rattle.world_pipes.specs.Pipework.{Pipework, Slot}
use Rattle.mail_world.specs.Generations.{CanNot}
use Rattle.mail_world.specs.History.{Actor, Event, MayDo, State, next_of}
use Rattle.mail_world.specs.History.Life.{Alive}
use Rattle.mail_world.specs.Readiness.{found_at, found_by}
use Rattle.scenario.specs.Deeds.{Deed, after, history_of}
use Rattle.scenario.specs.Turns.{is_search_call}
use Rattle.world_law.proofs.Tenants.{some_actor}
use Rattle.settle_law.specs.inside.HalfWay.{IsHalfWay, IsMinded, NoneIsHalfWay}
use Rattle.settle_law.specs.inside.HalfWay.IsMinded.{Gives, Injects, Waits}
use Rattle.settle_law.proofs.SenderRests.{SendersRest, newest_rest}
use Rattle.settle_law.proofs.Searchers.{searches_not}
use Rattle.settle_law.specs.Rests.{BeginsTurn}
use Rattle.settle_law.specs.Suffices.{desk_of}
use Rattle.settle_law.specs.Well.{GoesWell}
use Rattle.settle_law.proofs.Alike.{AreAlike}
use Rattle.settle_law.proofs.FedSlots.{IsFed, IsFeeding, fed_always}
use Rattle.settle_law.proofs.Minded.{half_ways_are_minded}
use Rattle.settle_law.proofs.QuietSpawners.{injector_acts, input_found, others_end}
use Rattle.settle_law.proofs.Tended.{FeedsNow}
use Rattle.settle_law.proofs.TurnPasts as turned

-- Both states are half-way

abbrev Half : Bool → Bool → Bool → Type 0
Half mess todo info = (mess ≡ true) × (todo ≡ false) × (info ≡ false)

second : (mess intd todo info local remote bounce : Bool) → state_by mess intd todo info local remote bounce ≡ S2 → Half mess todo info
second false false false false false false false e = absurd (cc)
second true false false false false false false e = (refl, refl, refl)
second true true false false false false false e = absurd (cc)
second true intd true info local remote false e = absurd (cc)
second true false false true local remote bounce e = absurd (cc)
second mess intd todo info local remote bounce e = absurd (cc)

third : (mess intd todo info local remote bounce : Bool) → state_by mess intd todo info local remote bounce ≡ S3 → Half mess todo info
third false false false false false false false e = absurd (cc)
third true false false false false false false e = absurd (cc)
third true true false false false false false e = (refl, refl, refl)
third true intd true info local remote false e = absurd (cc)
third true false false true local remote bounce e = absurd (cc)
third mess intd todo info local remote bounce e = absurd (cc)

some_is : (o : Option ℕ) → is_some o ≡ true → o ≢ None
some_is None e none = false≢true e
some_is (Some i) e none = cc

none_is : (o : Option ℕ) → is_some o ≡ false → o ≡ None
none_is None e = refl
none_is (Some i) e = absurd (cc)

module _ (d : Disk) (n : ℕ) where
  half_way : Half (is_there d Mess n) (is_in_todo d n) (is_there d Info n) → IsHalfWay d n
  half_way h = record { mess = some_is (d.names (path (Of Mess n))) h.0; no_todo = none_is (in_todo (parts_of d.names n)) h.1; no_info = none_is (d.names (path (Of Info n))) h.2 }

  in_second : state_of d n ≡ S2 → IsHalfWay d n
  in_second e = half_way (second (is_there d Mess n) (is_in_intd d n) (is_in_todo d n) (is_there d Info n) (is_there d Local n) (is_there d Remote n) (is_there d Bounce n) e)

  in_third : state_of d n ≡ S3 → IsHalfWay d n
  in_third e = half_way (third (is_there d Mess n) (is_in_intd d n) (is_in_todo d n) (is_there d Info n) (is_there d Local n) (is_there d Remote n) (is_there d Bounce n) e)

-- A search gives nothing

search_gives : (due : NeedData) (d : ℕ) (text : List ℕ) → is_search_call due ≡ true → due ≡ needs.Give (port.Program d) text → ⊥
search_gives due d text e is = false≢true (ap is_search_call (sym is) ∙ e)

-- Where a turn begins no message is finished

no_finish : (row : Row) (step : FinishRow) (n : ℕ) → row ≡ at.Finish step n → BeginsTurn row → ⊥
no_finish row step n e begins = subst BeginsTurn e begins

module _ (d : Disk) (later : List Deed) (first : Deed) (before : List Deed) (rest : SendersRest d later first before) (n : ℕ) where
  abbrev h : List Event
  h = history_of before

  abbrev s : State
  s = after d before

  -- the state then
  abbrev t : State
  t = after d (later ++ first ∷ before)

  abbrev x : Actor
  x = rest.turn.actor

  abbrev own : Own
  own = rest.turn.searches.own

  well : GoesWell d h
  well = turned.well_before d later first before rest.turn rest.well

  alike : AreAlike s t
  alike = turned.alike d later first before rest.turn

  may : MayDo s (codes "sender") own rest.turn.searches.wrote
  may = (turned.well_first d later first before rest.turn rest.well).legal.1

  sends : (start : ℕ) × (x.program ≡ Sender start) × (is_search (row_now (desk_of x.past) own.read own.ready) ≡ true)
  sends = turned.sends d later first before rest.turn

  none_finishes : (z : Actor) (step : FinishRow) → s.actors (codes "sender") ≡ Some z → (desk_of z.past).row ≡ at.Finish step n → ⊥
  none_finishes z step is row =
      no_finish (desk_of x.past).row step n (subst (λ (o : Actor). (desk_of o.past).row ≡ at.Finish step n) (some_actor z x (sym is ∙ rest.turn.is)) row) (turned.whole d later first before rest.turn).begins

  -- whoever else lives waits
  left : (b : List ℕ) → b ≢ codes "sender" → t.actors b ≡ s.actors b
  left b far = sym (alike.others b far)

  cannot : (b : List ℕ) (z : Actor) → s.actors b ≡ Some z → z.life ≡ Alive → b ≢ codes "sender" → CanNot t b (next_of z.program z.past t.now (found_by t b z.program))
  cannot b z is alive far =
      subst (λ (r : Ready). CanNot t b (next_of z.program z.past t.now r)) (ap (λ (o : Option Actor). found_at t b o) (left b far ∙ is)) (rest.others.waits b z (left b far ∙ is) alive (searches_not b far))

  -- nobody is next to give a child its input
  none_feeds : (slot : Slot) (b : List ℕ) → IsFeeding s.actors s.pipework slot b → ⊥
  none_feeds slot b g = ⊎_elim
      (λ (c : (slot.parent ≡ codes "sender") × (bytes_eq slot.parent (codes "sender") ≡ true)).
      let same : g.parent ≡ may.actor = some_actor g.parent may.actor (sym g.is ∙ ap s.actors c.0 ∙ may.reads.is) in
      let f = (subst (λ (z : Actor). FeedsNow z slot.number) same g.feeds) own.read own.ready in
      search_gives own.due slot.number f.0 rest.turn.searches.search (sym may.due ∙ f.1))
      (λ (c : (slot.parent ≢ codes "sender") × (bytes_eq slot.parent (codes "sender") ≡ false)).
      let f = g.feeds t.now (found_by t slot.parent g.parent.program) in
      let can : CanNot t slot.parent (needs.Give (port.Program slot.number) f.0) = subst (CanNot t slot.parent) f.1 (cannot slot.parent g.parent g.is g.alive c.0) in
      can)
      (text_cases slot.parent (codes "sender"))

  -- no injector lives
  no_injector : (b : List ℕ) (z : Actor) (args : Arguments) → s.actors b ≡ Some z → z.life ≡ Alive → z.program ≡ Injector args → ⊥
  no_injector b z args is alive runs = by (s.pipework.slots b) refl
    where
      far : b ≢ codes "sender"
      far e =
          let both : Injector args ≡ Sender sends.0 = sym runs ∙ ap (λ (o : Actor). o.program) (some_actor z x (sym is ∙ ap s.actors e ∙ rest.turn.is)) ∙ sends.1 in
          absurd (cc)

      acts : (s.pipework.pipes b port.Input).shut ≡ true → ⊥
      acts shut =
          injector_acts t b args z.past t.now (found_by t b (Injector args)) (input_found t b args (ap (λ (w : Pipework). (w.pipes b port.Input).shut) (sym alike.pipework) ∙ shut))
          (subst (λ (p : Program). CanNot t b (next_of p z.past t.now (found_by t b p))) runs (cannot b z is alive far))

      by : (o : Option Slot) → s.pipework.slots b ≡ o → ⊥
      by None alone =
          others_end.mails d (history_of (later ++ first ∷ before)) rest.well rest.others b z args (left b far ∙ is) alive (searches_not b far) runs
          (ap (λ (w : Pipework). w.slots b) (sym alike.pipework) ∙ alone)
      by (Some slot) at_it =
          let f : IsFed s.actors s.pipework slot b = fed_always d h well.legal well.well b slot at_it in
          ⊎_elim acts (none_feeds slot b) f.fed

  none_minds : IsMinded s n → ⊥
  none_minds (Injects b z args is alive runs number) = no_injector b z args is alive runs
  none_minds (Gives z start is alive runs row small) = none_finishes z finish.Give is row
  none_minds (Waits z start is alive runs row small empty free) = none_finishes z finish.Take is row

  none_half : IsHalfWay t.disk n → ⊥
  none_half half = none_minds (half_ways_are_minded d h well n (subst (λ (disk : Disk). IsHalfWay disk n) (sym alike.disk) half))

pub not_half_way : (d : Disk) (later : List Deed) (first : Deed) (before : List Deed) → SendersRest d later first before
    → (n : ℕ) → (state_of (after d (later ++ first ∷ before)).disk n ≢ S2) × (state_of (after d (later ++ first ∷ before)).disk n ≢ S3)
not_half_way d later first before rest n = (
  λ e. none_half d later first before rest n (in_second (after d (later ++ first ∷ before)).disk n e),
  λ e. none_half d later first before rest n (in_third (after d (later ++ first ∷ before)).disk n e),
)

pub none_is_half_way : NoneIsHalfWay
none_is_half_way d turns before rest n =
    let w = newest_rest d turns before rest in
    subst (λ (l : List Deed). (state_of (after d l).disk n ≢ S2) × (state_of (after d l).disk n ≢ S3)) (sym w.are) (not_half_way d w.later w.first w.before w.rest n)
