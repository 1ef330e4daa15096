-- At each rest the facts hold of which a settled state comes.
use Rattle.std.proofs.Common.{◌≡◌, ◌<◌, ℕ, List, ◌∷◌, ◌++◌, length, true, Some, None, codes, refl, sym, ap, ◌∙◌, subst}
use Rattle.std.specs.Prelude.{Contains}
use Rattle.address_rules.specs.declared.controls.Controls.{Controls}
use Rattle.call_fs.specs.Disk.{Disk}
use Rattle.call_fs.specs.Past.{IsRunBy}
use Rattle.call_fs.specs.declared.past.Own.{Own}
use Rattle.call_fs.specs.declared.program.Ready.{Ready}
use Rattle.queue_law.specs.Routes.{lane_part}
use Rattle.queue_paths.specs.Names.Name.{Of}
use Rattle.queue_paths.specs.Names.Part.{Info}
use Rattle.queue_paths.specs.Names.{path}
use Rattle.queue_states.specs.States.{state_of}
use Rattle.queue_states.specs.declared.state.State.TheVariants.{S5}
use Rattle.send_core.specs.Stands.{is_search}
use Rattle.send_core.specs.Table.{Next, row_now}
use Rattle.send_jobs.specs.Sending.{lane}
use Rattle.send_jobs.specs.Slots.{attempt_in}
use Rattle.send_known.specs.declared.channel.Channel.{Channel}
use Rattle.send_jobs.specs.declared.slots.Slots.{Slots}
use Rattle.send_known.specs.declared.known.Known.{Known}
use Rattle.send_known.specs.declared.messages.Messages.{Messages}
use Rattle.world_events.specs.declared.event.Program.{Program}
use Rattle.world_events.specs.declared.event.Program.TheVariants.{Sender}
use Rattle.mail_world.specs.History.Life.{Alive}
use Rattle.mail_world.specs.History.{Actor, State, next_of}
use Rattle.scenario.specs.Deeds.{Deed, after, history_of}
use Rattle.world_law.proofs.Histories.{safe_always}
use Rattle.world_law.proofs.Ran.{have_run}
use Rattle.world_law.proofs.Tenants.{some_actor}
use Rattle.settle_law.specs.Promised.{RestsHold}
use Rattle.settle_law.specs.inside.Rests.{IsWholeTurn}
use Rattle.settle_law.specs.Rests.{IsAtRest}
use Rattle.settle_law.specs.Suffices.{HasRest, IsDueSo, IsKnown, desk_of}
use Rattle.settle_law.specs.Well.{GoesWell}
use Rattle.settle_law.proofs.Alike.{AreAlike}
use Rattle.settle_law.proofs.FreeRests.{free_before}
use Rattle.settle_law.proofs.HasSlots.{rests_have_slots, told_same}
use Rattle.settle_law.proofs.KnownBorn.{known_are_born}
use Rattle.settle_law.proofs.KnownDue.{known_are_due}
use Rattle.settle_law.proofs.KnownGone.{known_are_gone}
use Rattle.settle_law.proofs.KnownUndone.{known_are_undone}
use Rattle.settle_law.proofs.NoneHalfWay.{not_half_way}
use Rattle.settle_law.proofs.NoneQueued.{unqueued_then}
use Rattle.settle_law.proofs.PreprocessedKnown.{preprocessed_are_known}
use Rattle.settle_law.proofs.SenderRests.{SendersRest, newest_rest}
use Rattle.settle_law.proofs.Searching.{Keeps, turn_keeps}
use Rattle.settle_law.proofs.Staying.{rests_stay}
use Rattle.settle_law.proofs.TurnPasts as turned
use Rattle.settle_law.proofs.Unfailing.{known_finish_at_once}
use Rattle.send_runs.specs.Status.{allowed}

module _ (d : Disk) (later : List Deed) (first : Deed) (before : List Deed) (rest : SendersRest d later first before) where
  abbrev s : State
  s = after d before

  abbrev now : State
  now = after d (later ++ first ∷ before)

  -- the sender before its first search, and after all
  abbrev x : Actor
  x = rest.turn.actor

  abbrev y : Actor
  y = turned.y d later first before rest.turn

  abbrev own : Own
  own = rest.turn.searches.own

  abbrev more : List Own
  more = turned.more d later first before rest.turn

  whole : IsWholeTurn x.past own more
  whole = turned.whole d later first before rest.turn

  well : GoesWell d (history_of before)
  well = turned.well_before d later first before rest.turn rest.well

  sends : (start : ℕ) × (x.program ≡ Sender start) × (is_search (row_now (desk_of x.past) own.read own.ready) ≡ true)
  sends = turned.sends d later first before rest.turn

  alike : AreAlike s now
  alike = turned.alike d later first before rest.turn

  is_now : now.actors (codes "sender") ≡ Some y
  is_now = turned.is_now d later first before rest.turn

  alive : x.life ≡ Alive
  alive = turned.alive d later first before rest.turn rest.well

  read_is : own.read ≡ now.now
  read_is = rest.turn.searches.finds.now ∙ alike.now

  run : IsRunBy (Next None) x.past
  run = subst (λ (p : Program). IsRunBy (next_of p) x.past) sends.1 (have_run d (history_of before) well.legal (codes "sender") x rest.turn.is)

  keeps : Keeps (desk_of x.past) (desk_of y.past)
  keeps = turn_keeps x.past own more whole

  slots : (c : Channel) → 0 < length (lane c (desk_of x.past).slots).slots
  slots c = rests_have_slots d (history_of before) well x sends.0 rest.turn.is alive sends.1 whole.begins c
      (subst (λ (k : Controls). 0 < allowed c k) (told_same x.past run whole.begins own more) (rest.may y is_now c))

  free : (c : Channel) (slot : ℕ) → attempt_in (lane c (desk_of x.past).slots).slots slot ≡ None
  free = free_before d later first before rest

  known_before : (k : Known) → IsKnown y.past k → IsKnown x.past k
  known_before k known = subst (λ (m : Messages). Contains m.known k) keeps.messages known

  has : HasRest now y.past own.ready
  has = record {
    safe = (safe_always d (history_of (later ++ first ∷ before)) rest.well.legal).states;
    no_s2 = λ n. (not_half_way d later first before rest n).0;
    no_s3 = λ n. (not_half_way d later first before rest n).1;
    no_s4 = unqueued_then d later first before rest;
    known = λ n e.
        let k = preprocessed_are_known d (history_of before) well (codes "sender") x sends.0 rest.turn.is alive sends.1 whole.begins n
        (subst (λ (disk : Disk). state_of disk n ≡ S5) (sym alike.disk) e) in
        (k.0, subst (λ (m : Messages). Contains m.known k.0) (sym keeps.messages) k.1, k.2);
    rests = subst (λ (m : ℕ). IsAtRest (desk_of y.past) m own.ready) read_is (rests_stay x.past own more whole);
    slots = λ c. subst (λ (l : Slots). 0 < length (lane c l).slots) (sym keeps.slots) (slots c);
    free = λ c slot. subst (λ (l : Slots). attempt_in (lane c l).slots slot ≡ None) (sym keeps.slots) (free c slot);
    finish = known_finish_at_once d (history_of (later ++ first ∷ before)) rest.well (codes "sender") y sends.0 is_now sends.1;
    dues = λ k c known file. subst (λ (m : ℕ). IsDueSo m y.past c k) read_is
        (known_are_due d (history_of (later ++ first ∷ before)) rest.well (codes "sender") y sends.0 is_now sends.1 x.past own more refl whole slots free c k known file);
    undone = λ k c begun known file tried. known_are_undone d (history_of (later ++ first ∷ before)) rest.well (codes "sender") y sends.0 is_now alive sends.1 x.past own more refl whole
        slots free c k begun known file tried;
    gone = λ k c known none. ap (λ (disk : Disk). disk.names (path (Of (lane_part c) k.n))) (sym alike.disk)
        ∙ known_are_gone d (history_of before) well.legal (codes "sender") x sends.0 rest.turn.is alive sends.1 whole.begins c k (known_before k known) none;
    births = λ k info known. subst (λ (disk : Disk). disk.names (path (Of Info k.n)) ≡ Some info → (disk.files info).moment ≡ k.birth) alike.disk
        (known_are_born d (history_of before) well.legal (codes "sender") x sends.0 rest.turn.is alive sends.1 whole.begins k info (known_before k known));
  }

hold_then : (d : Disk) (later : List Deed) (first : Deed) (before : List Deed) → SendersRest d later first before → (z : Actor)
    → (after d (later ++ first ∷ before)).actors (codes "sender") ≡ Some z → (ready : Ready) × HasRest (after d (later ++ first ∷ before)) z.past ready
hold_then d later first before rest z there =
    let y = turned.y d later first before rest.turn in
    let same : y ≡ z = some_actor y z (sym (turned.is_now d later first before rest.turn) ∙ there) in
    (rest.turn.searches.own.ready, subst (λ (u : Actor). HasRest (after d (later ++ first ∷ before)) u.past rest.turn.searches.own.ready) same (has d later first before rest))

pub rests_hold : RestsHold
rests_hold d turns before rest =
    let w = newest_rest d turns before rest in
    subst (λ (l : List Deed). (z : Actor) → (after d l).actors (codes "sender") ≡ Some z → (ready : Ready) × HasRest (after d l) z.past ready) (sym w.are)
    (hold_then d w.later w.first w.before w.rest)
