-- A pass with all parts has seen all turns, and the list only grows.
use Rattle.std.proofs.Common.{◌≡◌, ◌≢◌, ℕ, ◌<◌, List, length, Option, Some, Result, sym, refl, ap, ◌∙◌, subst, ⊎_elim, arith}
use mathlib.Core.Logic.{dite}
use mathlib.Core.Option.{some, some-injective}
use native.Mathlib.Decide.{ℕ_discrete}
use lib.ListN.{get_elem?}
use Rattle.atomic_table.specs.Table.{State}
use Rattle.yard_lock.specs.declared.turn.Turn.{Turn}
use Rattle.std.specs.declared.alloc.AllocError.{AllocError as Memory}
use Rattle.yard_lock.specs.declared.view.Stage.TheVariants.{Idle}
use Rattle.yard_lock.specs.declared.view.View.{View}
use Rattle.yard_lock.specs.declared.view.Opening.{Opening}
use Rattle.yard_lock.specs.Turns.{IsPrefix, Replay}
use Rattle.yard_lock.specs.Rule.{view, ticket_count, tickets_of, parts_of, IsOut, IsHome, Ruled, AreOneList, HasSeenAll, SeeOn, Ended}
use Rattle.yard_lock.proofs.Turns.{total-none, total-two, prefix-trans}
use Rattle.yard_lock.proofs.Shares.{no_state}
use Rattle.yard_lock.proofs.OneList.{one_list}

module _ {I O Y : Type 0} (moves : Y → I → Result O Memory → Y → Type 0) (key : Opening Y) (s : State (Option Y) (View I O)) (r : Ruled moves key s) where
  -- what a pass had seen that has seen as much later, and the list then
  pub list_grows : (after : List (View I O)) (turns : List (Turn I O)) → ((k : ℕ) (w : View I O) → get_elem? after k ≡ some w → IsPrefix w.seen turns) → SeeOn s.views after → IsPrefix r.turns turns
  list_grows after turns prefix on =
      let far = r.seen_whole in
      let w = on far.0 far.1 far.2 in
      subst (λ (l : List (Turn I O)). IsPrefix l turns) far.4 (prefix-trans far.1.seen w.0.seen turns w.2 (prefix far.0 w.0 w.1))

  module _ (k : ℕ) (v : View I O) (at : get_elem? s.views k ≡ some v) (all : v.parts ≡ key.parts) where
    no_parts : (j : ℕ) (u : View I O) → get_elem? s.views j ≡ some u → j ≢ k → u.parts ≡ 0
    no_parts j u e n = let t = total-two parts_of s.views j k u v e at n in let whole = r.whole in omega arith

    at_one : (j : ℕ) (u : View I O) → get_elem? s.views j ≡ some u → j ≡ k → v ≡ u
    at_one j u e same = some-injective v u (sym at ∙ (ap (get_elem? s.views) (sym same) ∙ e))

    alive : (j : ℕ) (u : View I O) → get_elem? s.views j ≡ some u → 0 < u.parts → v ≡ u
    alive j u e live = dite (ℕ_discrete j k) (λ (same : j ≡ k). at_one j u e same) (λ n. let z = no_parts j u e n in absurd (omega arith))

    has_all : v.seen ≡ r.turns
    has_all = let far = r.seen_whole in ap (λ (x : View I O). x.seen) (alive far.0 far.1 far.2 far.3) ∙ far.4

    pub seen_all : HasSeenAll r.turns s.views k v.seen
    seen_all = record { all = has_all; spent = no_parts; list = subst (λ (l : List (Turn I O)). AreOneList l s.views) (sym has_all) (one_list moves key s r) }

    module _ (idle : v.stage ≡ Idle) where
      no_ticket : (j : ℕ) (u : View I O) → get_elem? s.views j ≡ some u → tickets_of u ≡ 0
      no_ticket j u e = dite (ℕ_discrete j k)
          (λ (same : j ≡ k). sym (ap tickets_of (at_one j u e same)) ∙ ap ticket_count idle)
          (λ n. let z = no_parts j u e n in let light = (r.each j u e).light in omega arith)

      at_home : IsHome moves key.state.value r.turns r.slot
      at_home = ⊎_elim (λ (a : IsHome moves key.state.value r.turns r.slot). a)
          (λ (o : IsOut s.views). absurd (no_state o.1 (no_ticket o.0 o.1 o.3) o.2 o.4))
          r.home

      -- the state is at home, and all turns lead to it
      pub closes : (y : Y) × (get_elem? s.homes 0 ≡ some (some (Some y))) × Replay moves key.state.value v.seen y × Ended moves key.state.value key.parts k v.seen y
      closes =
          let h = at_home in
          let none = total-none tickets_of s.views no_ticket in
          let queue = r.queue in
          let long = ap length has_all in (
            h.0,
            ap (λ hs. get_elem? hs 0) r.homes ∙ ap some h.1,
            subst (λ (l : List (Turn I O)). Replay moves key.state.value l h.0) (sym has_all) h.2,
            record {
              key = key;
              opened = (refl, refl);
              table = s;
              rule = r;
              pass = at ∙ (ap (λ st. some (view v.parts v.seen st)) idle ∙ ap (λ n. some (view n v.seen Idle)) all);
              all = seen_all;
              drawn = omega arith;
              home = h.1;
            },
          )
