-- A whole idle turn of the sender in a play, by the sender's own past.
use Rattle.std.proofs.Common.{◌≡◌, ℕ, List, [], ◌∷◌, ◌++◌, true, Option, Some, refl, sym, ap, ◌∙◌, subst, bytes_eq, codes}
use Rattle.std.specs.List.{list_all}
use Rattle.std.proofs.lemmas.Bool.{and_from, and_parts}
use Rattle.std.proofs.lemmas.Slice.Eq.{bytes_eq-Decides}
use Rattle.call_fs.specs.Disk.{Disk}
use Rattle.call_fs.specs.declared.past.Own.{Own}
use Rattle.call_fs.proofs.Maps.{put_at_same}
use Rattle.send_core.specs.Stands.{ends_idle, is_search}
use Rattle.send_core.specs.Table.{row_now}
use Rattle.world_events.specs.declared.event.Program.{Program}
use Rattle.world_events.specs.declared.event.Program.TheVariants.{Injector, Cleaner, Sender, LocalSpawner, RemoteSpawner, Delivery}
use Rattle.mail_world.specs.Generations.{idled_by, idled_in}
use Rattle.mail_world.specs.History.{Actor, State, acted}
use Rattle.mail_world.specs.History.Event.{Act}
use Rattle.mail_world.specs.History.Life.{Alive}
use Rattle.world_law.proofs.Tenants.{some_actor}
use Rattle.scenario.specs.Chains.{EachFollows}
use Rattle.scenario.specs.Deeds.{Deed, after, event_in, history_of}
use Rattle.scenario.specs.Deeds.Deed.{Came}
use Rattle.scenario.specs.Steps.{idles}
use Rattle.scenario.specs.Turns.{is_search_call, is_search_deed}
use Rattle.settle_law.specs.Ends.{BeginsIn, Searches, is_over, searches_by, searches_in}
use Rattle.settle_law.specs.inside.Rests.{IsWholeTurn, SearchesOn, ends_turn}
use Rattle.settle_law.specs.Suffices.{desk_of}
use Rattle.settle_law.specs.Well.{GoesWell, goes_well}
use Rattle.settle_law.proofs.SenderRests.{SendersTurn}
use Rattle.settle_law.proofs.Alike.{AreAlike, alike_then, searches_alike}

-- One search

pub searcher : (p : Program) (past : List Own) (own : Own) → searches_in p past own ≡ true → (start : ℕ) × (p ≡ Sender start) × (is_search (row_now (desk_of past) own.read own.ready) ≡ true)
searcher (Sender start) past own e = (start, refl, e)
searcher row past own e = absurd (cc)

pub well_back : (d : Disk) (before : List Deed) (deed : Deed) → Searches d (codes "sender") before deed → GoesWell d (history_of (deed ∷ before)) → GoesWell d (history_of before)
well_back d before deed s well =
    let one = subst (λ (e : Deed). GoesWell d (history_of (e ∷ before))) s.is well in
    record {
      legal = one.legal.0;
      well = (and_parts (goes_well (Act (codes "sender") s.own s.wrote)) (list_all goes_well (history_of before)) one.well).1;
    }

is_search_then : (d : Disk) (before : List Deed) (deed : Deed) → Searches d (codes "sender") before deed → is_search_deed deed ≡ true
is_search_then d before deed s =
    ap is_search_deed s.is
    ∙ and_from (bytes_eq (codes "sender") (codes "sender")) (is_search_call s.own.due) ((bytes_eq-Decides (codes "sender") (codes "sender")).1 refl) s.search

-- Searches, the newest first, after these deeds, at which the sender was this actor

module _ (d : Disk) (base : List Deed) (x : Actor) (is : (after d base).actors (codes "sender") ≡ Some x) where
  abbrev pub Each : List Deed → Type 0
  Each later = EachFollows (λ older deed. Searches d (codes "sender") (older ++ base) deed) later

  abbrev pub owns : (later : List Deed) → Each later → List Own
  owns [] all = []
  owns (deed ∷ older) all = all.1.own ∷ owns older all.0

  abbrev pub grown : List Own → Actor
  grown more = record { program = x.program; past = more ++ x.past; life = x.life }

  pub actor_then : (later : List Deed) (all : Each later) → (after d (later ++ base)).actors (codes "sender") ≡ Some (grown (owns later all))
  actor_then [] all = is
  actor_then (deed ∷ older) all =
      let h = older ++ base in
      let s = after d h in
      ap (λ (e : Deed). (after d (e ∷ h)).actors (codes "sender")) all.1.is
      ∙ ap (λ (o : Option Actor). (acted s (codes "sender") all.1.own all.1.wrote o).actors (codes "sender")) (actor_then older all.0)
      ∙ put_at_same s.actors (codes "sender") (Some (grown (all.1.own ∷ owns older all.0)))

  pub all_search : (later : List Deed) → Each later → list_all is_search_deed later ≡ true
  all_search [] all = refl
  all_search (deed ∷ older) all = and_from (is_search_deed deed) (list_all is_search_deed older) (is_search_then d (older ++ base) deed all.1) (all_search older all.0)

  pub all_alike : (later : List Deed) → Each later → AreAlike (after d base) (after d (later ++ base))
  all_alike later all = searches_alike d base later (all_search later all)

  pub all_well : (later : List Deed) → Each later → GoesWell d (history_of (later ++ base)) → GoesWell d (history_of base)
  all_well [] all well = well
  all_well (deed ∷ older) all well = all_well older all.0 (well_back d (older ++ base) deed all.1 well)

  module _ (start : ℕ) (program : x.program ≡ Sender start) where
    pub searches_on : (later : List Deed) (all : Each later) → EachFollows (SearchesOn x.past (after d base).now) (owns later all)
    searches_on [] all = tt
    searches_on (deed ∷ older) all =
        let by : searches_in x.program (owns older all.0 ++ x.past) all.1.own ≡ true = ap (λ (o : Option Actor). searches_by o all.1.own) (sym (actor_then older all.0)) ∙ all.1.by in (
          searches_on older all.0,
          (subst (λ (p : Program). searches_in p (owns older all.0 ++ x.past) all.1.own ≡ true) program by, all.1.finds.now ∙ sym (all_alike older all.0).now),
        )

    pub ended : (later : List Deed) (all : Each later) (deed : Deed) (own : Own) (wrote : ℕ) → deed ≡ Came (Act (codes "sender") own wrote) → idles (after d (later ++ base)) (event_in deed) ≡ true
        → ends_idle (desk_of (owns later all ++ x.past)) own ≡ true
    ended later all deed own wrote at_it e =
        let one : idled_by ((after d (later ++ base)).actors (codes "sender")) own ≡ true = ap (λ (f : Deed). idles (after d (later ++ base)) (event_in f)) (sym at_it) ∙ e in
        let by : idled_in x.program (owns later all ++ x.past) own ≡ true = ap (λ (o : Option Actor). idled_by o own) (sym (actor_then later all)) ∙ one in
        subst (λ (p : Program). idled_in p (owns later all ++ x.past) own ≡ true) program by

-- The turn

module _ (d : Disk) (later : List Deed) (first : Deed) (before : List Deed) (turn : SendersTurn d later first before) where
  abbrev pub s : State
  s = after d before

  abbrev pub now : State
  now = after d (later ++ first ∷ before)

  -- the sender before it, after its first search, and after it
  abbrev pub x : Actor
  x = turn.actor

  abbrev pub own : Own
  own = turn.searches.own

  pub sends : (start : ℕ) × (x.program ≡ Sender start) × (is_search (row_now (desk_of x.past) own.read own.ready) ≡ true)
  sends = searcher x.program x.past own (ap (λ (o : Option Actor). searches_by o own) (sym turn.is) ∙ turn.searches.by)

  abbrev pub one : Actor
  one = record { program = x.program; past = own ∷ x.past; life = x.life }

  pub is_one : (after d (first ∷ before)).actors (codes "sender") ≡ Some one
  is_one = actor_then d before x turn.is (first ∷ []) (tt, turn.searches)

  abbrev pub more : List Own
  more = owns d (first ∷ before) one is_one later turn.goes_on

  abbrev pub y : Actor
  y = record { program = x.program; past = more ++ own ∷ x.past; life = x.life }

  pub is_now : now.actors (codes "sender") ≡ Some y
  is_now = actor_then d (first ∷ before) one is_one later turn.goes_on

  alike_one : AreAlike s (after d (first ∷ before))
  alike_one = all_alike d before x turn.is (first ∷ []) (tt, turn.searches)

  pub alike : AreAlike s now
  alike = alike_then s (after d (first ∷ before)) now alike_one (all_alike d (first ∷ before) one is_one later turn.goes_on)

  moment : (after d (first ∷ before)).now ≡ own.read
  moment = sym alike_one.now ∙ sym turn.searches.finds.now

  ends_by : (l : List Deed) (all : Each d (first ∷ before) one is_one l) → is_over d l first before ≡ true → ends_turn x.past own (owns d (first ∷ before) one is_one l all) ≡ true
  ends_by [] all e = ended d before x turn.is sends.0 sends.1 [] tt first own turn.searches.wrote turn.searches.is e
  ends_by (newest ∷ older) all e = ended d (first ∷ before) one is_one sends.0 sends.1 older all.0 newest all.1.own all.1.wrote all.1.is e

  pub whole : IsWholeTurn x.past own more
  whole = record {
    begins = subst (λ (p : Program). BeginsIn p x.past) sends.1 turn.begins;
    searches = sends.2;
    goes_on = subst (λ (m : ℕ). EachFollows (SearchesOn (own ∷ x.past) m) more) moment (searches_on d (first ∷ before) one is_one sends.0 sends.1 later turn.goes_on);
    ends = ends_by later turn.goes_on turn.ends;
  }

  pub well_first : GoesWell d (history_of (later ++ first ∷ before)) → GoesWell d (Act (codes "sender") own turn.searches.wrote ∷ history_of before)
  well_first well =
      subst (λ (e : Deed). GoesWell d (history_of (e ∷ before))) turn.searches.is
      (all_well d (first ∷ before) one is_one later turn.goes_on well)

  pub well_before : GoesWell d (history_of (later ++ first ∷ before)) → GoesWell d (history_of before)
  well_before well =
      well_back d before first turn.searches (all_well d (first ∷ before) one is_one later turn.goes_on well)

  -- it lives
  pub alive : GoesWell d (history_of (later ++ first ∷ before)) → x.life ≡ Alive
  alive well =
      let may = (well_first well).legal.1 in
      ap (λ (z : Actor). z.life) (sym (some_actor may.actor x (sym may.reads.is ∙ turn.is))) ∙ may.reads.alive
