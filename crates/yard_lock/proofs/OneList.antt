-- What all passes have seen belongs to one list.
use Rattle.std.proofs.Common.{◌≡◌, ℕ, Option, Result, sym, ap, ◌∙◌, subst}
use mathlib.Core.Option.{some}
use lib.ListN.{get_elem?}
use Rattle.atomic_table.specs.Table.{State}
use Rattle.std.specs.declared.alloc.AllocError.{AllocError as Memory}
use Rattle.yard_lock.specs.declared.view.Stage.TheVariants.{Has}
use Rattle.yard_lock.specs.declared.view.View.{View}
use Rattle.yard_lock.specs.declared.view.Opening.{Opening}
use Rattle.yard_lock.specs.Rule.{ticket_count, ticket, Knows, Ruled, AreOneList}
use Rattle.yard_lock.proofs.Turns.{prefixes-agree}

module _ {I O Y : Type 0} (moves : Y → I → Result O Memory → Y → Type 0) (key : Opening Y) (s : State (Option Y) (View I O)) (r : Ruled moves key s) where
  has_state : (k t : ℕ) (v : View I O) → get_elem? s.views k ≡ some v → v.stage ≡ Has t → Knows r.turns r.drawn k v.seen (Has t)
  has_state k t v at has = subst (Knows r.turns r.drawn k v.seen) has (r.each k v at).stage

  one_has : (j k t u : ℕ) (v w : View I O) → get_elem? s.views j ≡ some v → get_elem? s.views k ≡ some w → v.stage ≡ Has t → w.stage ≡ Has u → j ≡ k
  one_has j k t u v w a b st st' =
      let g = has_state j t v a st in
      let h = has_state k u w b st' in
      r.apart j k v w a b (ap ticket_count st) (ap ticket_count st') (ap ticket st ∙ (g.0 ∙ (sym h.0 ∙ sym (ap ticket st'))))

  pub one_list : AreOneList r.turns s.views
  one_list = record {
    prefix = λ k v at. (r.each k v at).prefix;
    own = λ k v at. (r.each k v at).own;
    unmade = r.unmade;
    agree = λ j k v w a b. prefixes-agree r.turns v.seen w.seen (r.each j v a).prefix (r.each k w b).prefix;
    whole = r.seen_whole;
    single = one_has;
  }
