-- What `settle` promises comes of what a rest leaves.
use Rattle.std.proofs.Common.{◌≡◌, ◌==◌, List, [], ◌∷◌, ◌++◌, Some, true, codes, refl, sym, ap, ◌∙◌, subst, append_assoc, arith}
use Rattle.std.specs.Prelude.{All}
use Rattle.std.specs.List.{count_by, list_all}
use Rattle.std.proofs.lemmas.Bool.{and_parts}
use Rattle.call_fs.specs.Disk.{Disk}
use Rattle.mail_world.specs.History.Event.{Act}
use Rattle.world_events.specs.Searches.{searches}
use Rattle.script_words.specs.declared.letter.Letter.{Letter}
use Rattle.scenario.specs.Deeds.{Deed, after, history_of}
use Rattle.scenario.specs.Deeds.Deed.{Came}
use Rattle.scenario.specs.Steps.{has_idled}
use Rattle.scenario.specs.Steps.Refusal.{Rounds, Steps}
use Rattle.scenario.specs.Turns.{IsSettled, Round, are_searches, events_in, is_first_deed, is_idle, is_search_call, is_search_deed, round_events}
use Rattle.settle_law.specs.Ends.{HasEndedIdle, IsOfOthers, StopsSo, Turn, deeds_of}
use Rattle.settle_law.specs.Ends.StopsSo.{Rests, TooLong, TooMany}
use Rattle.settle_law.specs.Promised.{HasSettled, IsRest, OthersWait, RestsHold, SettlesEnd, SuccessesEnd}
use Rattle.settle_law.specs.inside.Steps.{RestsAreEmpty, RestsAreSettled}
use Rattle.settle_law.specs.Settled.{AllGone, Settled}
use Rattle.settle_law.specs.Well.{AllSucceed, GoesWell, MayDeliver}
use Rattle.settle_law.proofs.IdleRounds.{idle_rounds_rest}
use Rattle.settle_law.proofs.Searchers.{is_sender, sender_searches}
use Rattle.settle_law.proofs.SenderRests.{newest_rest}
use Rattle.settle_law.proofs.Stopping.{not_refused, settle_stops}
use Rattle.settle_law.proofs.Sufficing.{suffices}
use Rattle.settle_law.proofs.TurnPasts as turned
use Rattle.settle_law.proofs.WholeTurns.{rests_begin}

-- A round that does nothing but search: the newest event of the sender is the newest of all

no_other : (deed : Deed) → IsOfOthers (codes "sender") deed → is_search_deed deed ≡ true → ⊥
no_other (Came (Act a own wrote)) far search = far (is_sender a (and_parts (searches a) (is_search_call own.due) search).0)
no_other deed far search = absurd far

none_newer : (newer rest : List Deed) → All (IsOfOthers (codes "sender")) newer → list_all is_search_deed (newer ++ rest) ≡ true → newer ≡ []
none_newer [] rest others all = refl
none_newer (deed ∷ newer) rest others all = absurd (no_other deed (others 0 deed (omega arith)) (and_parts (is_search_deed deed) (list_all is_search_deed (newer ++ rest)) all).0)

module _ (d : Disk) (h : List Deed) (letter : Letter) (round : Round) (before : List Round) (last : is_idle d (events_in letter before ++ h) letter round ≡ true)
    (e : HasEndedIdle d (codes "sender") (round_events letter round) (events_in letter before ++ h)) where
  abbrev g : List Deed
  g = events_in letter before ++ h

  only_searches : list_all is_search_deed (e.newer ++ e.deed ∷ e.older) ≡ true
  only_searches =
      let events = round_events letter round in
      let parts = and_parts (are_searches events) (has_idled d g events) last in
      subst (λ (l : List Deed). list_all is_search_deed l ≡ true) e.are (and_parts (list_all is_search_deed events) (count_by is_first_deed events == 1) parts.0).0

  newest_is : events_in letter (round ∷ before) ++ h ≡ e.deed ∷ (e.older ++ g)
  newest_is =
      append_assoc (round_events letter round) (events_in letter before) h
      ∙ ap (λ (l : List Deed). l ++ g) (e.are ∙ ap (λ (l : List Deed). l ++ e.deed ∷ e.older) (none_newer e.newer (e.deed ∷ e.older) e.others only_searches))

-- a rest, with the newest of all deeds so far
record Rest (d : Disk) (deeds : List Deed) : Type 0 where
  turns : List Turn
  before : List Deed
  are : deeds ≡ deeds_of turns ++ before
  rest : IsRest d turns before

module _ (d : Disk) (h : List Deed) (letter : Letter) (rounds : List Round) (so : HasSettled d h letter rounds) where
  rest_of : StopsSo d h letter rounds [] → Rest d (events_in letter rounds ++ h)
  rest_of (TooLong a is) = absurd (not_refused Steps a is)
  rest_of (TooMany all is) = absurd (not_refused Rounds (codes "settle") is)
  rest_of (Rests none round before are last ended) =
      let e = ended (codes "sender") sender_searches in
      let older = e.older ++ (events_in letter before ++ h) in
      let newest : events_in letter rounds ++ h ≡ e.deed ∷ older = ap (λ (l : List Round). events_in letter l ++ h) are ∙ newest_is d h letter round before last e in
      let others = subst (λ (l : List Round). OthersWait (after d (events_in letter l ++ h))) (sym are)
      (idle_rounds_rest d h so.plan letter round before (subst (λ (l : List Round). IsSettled d h so.plan letter l []) are so.settles) last) in
      let well = subst (λ (l : List Deed). GoesWell d (history_of l)) newest so.well in
      record {
        turns = record { name = codes "sender"; first = e.deed; later = [] } ∷ [];
        before = older;
        are = newest;
        rest = record {
          empty = so.empty;
          well = well;
          may = subst (λ (l : List Deed). MayDeliver (after d l)) newest so.may;
          idle = record {
            are = (tt, rests_begin d (codes "sender") e.deed older well so.empty sender_searches e.ends);
            each = λ a search. (0, omega arith, sym (is_sender a search));
          };
          others = subst (λ (l : List Deed). OthersWait (after d l)) newest others;
        };
      }

  last_rest : Rest d (events_in letter rounds ++ h)
  last_rest = rest_of (settle_stops d h so.plan letter rounds [] so.settles)

pub settled : RestsAreSettled → SettlesEnd
settled are d h letter rounds so =
    let it = last_rest d h letter rounds so in
    subst (λ (l : List Deed). Settled (after d l)) (sym it.are) (are d it.turns it.before it.rest)

pub gone : RestsAreEmpty → SuccessesEnd
gone are d h letter rounds so all =
    let it = last_rest d h letter rounds so in
    subst (λ (l : List Deed). AllGone (after d l)) (sym it.are)
    (are d it.turns it.before it.rest (subst (λ (l : List Deed). AllSucceed (history_of l)) it.are all))

-- The sender lives still

pub hold : RestsHold → RestsAreSettled
hold facts d turns before rest =
    let w = newest_rest d turns before rest in
    let y = turned.y d w.later w.first w.before w.rest.turn in
    let is : (after d (deeds_of turns ++ before)).actors (codes "sender") ≡ Some y = ap (λ (l : List Deed). (after d l).actors (codes "sender")) w.are ∙ turned.is_now d w.later w.first w.before w.rest.turn in
    let it = facts d turns before rest y is in
    record { sender = y; is = is; alive = turned.alive d w.later w.first w.before w.rest.turn w.rest.well; settled = suffices (after d (deeds_of turns ++ before)) y.past it.0 it.1 }
