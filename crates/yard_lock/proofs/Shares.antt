-- Passes that are split, joined and looked at, and the table at its start.
use Rattle.std.proofs.Common.{◌≡◌, ◌≢◌, ℕ, zero, suc, ◌+◌, ◌-◌, ◌<◌, List, [], ◌∷◌, ◌++◌, length, set, Option, Some, Result, sym, refl, ap, ◌∙◌, subst, inl, inr, ⊎_elim, arith, length-set, length-append}
use mathlib.Core.Logic.{dite}
use mathlib.Core.Option.{none, some, some-injective, some-ne-none}
use native.Mathlib.Decide.{ℕ_discrete}
use lib.ListN.{get_elem?}
use lib.Seq.{set-get_or}
use Rattle.atomic_table.specs.Table.{State, Me, step, opening, keeps, Allows, Splits, Joins}
use Rattle.atomic_table.proofs.Lists.{set_else, at_longer}
use Rattle.yard_lock.specs.declared.turn.Turn.{Turn}
use Rattle.std.specs.declared.alloc.AllocError.{AllocError as Memory}
use Rattle.yard_lock.specs.declared.view.Stage.{Stage}
use Rattle.yard_lock.specs.declared.view.Stage.TheVariants.{Idle, New, Joined, Waits, Has}
use Rattle.yard_lock.specs.declared.view.View.{View}
use Rattle.yard_lock.specs.declared.view.Opening.{Opening}
use Rattle.yard_lock.specs.Turns.{turns_of}
use Rattle.yard_lock.specs.Rule.{view, ticket_count, tickets_of, parts_of, Knows, Fits, Apart, IsOut, Ruled, first_view}
use Rattle.yard_lock.specs.inside.Steps.{Learns, learned, rest_of, part_of, both_of, spent_view}
use Rattle.yard_lock.proofs.Turns.{total-set, total-snoc, at_in, set_there, at_end, prefix-length, turns-none, prefix-whole, Longer, longer_is}
use Rattle.yard_lock.proofs.Steps.{each_set, apart_set, free, out_set, seen_whole_set}

module _ {I O : Type 0} where
  apart_end : (vs : List (View I O)) (w : View I O) → tickets_of w ≡ 0 → ((j k : ℕ) (v u : View I O) → get_elem? vs j ≡ some v → get_elem? vs k ≡ some u → Apart v u j k)
      → (j k : ℕ) (v u : View I O) → get_elem? (vs ++ w ∷ []) j ≡ some v → get_elem? (vs ++ w ∷ []) k ≡ some u → Apart v u j k
  apart_end vs w z old j k v u ej ek a b c = ⊎_elim
      (λ (s : get_elem? vs j ≡ some v). ⊎_elim
      (λ (t : get_elem? vs k ≡ some u). old j k v u s t a b c)
      (λ (t : (k ≡ length vs) × (w ≡ u)). absurd (free w w z (ap tickets_of t.1 ∙ b) (ap tickets_of t.1 ∙ b) refl))
      (at_end vs w u k ek))
      (λ (s : (j ≡ length vs) × (w ≡ v)). absurd (free w w z (ap tickets_of s.1 ∙ a) (ap tickets_of s.1 ∙ a) refl))
      (at_end vs w v j ej)

  pub no_state : (v : View I O) → tickets_of v ≡ 0 → (t : ℕ) → v.stage ≢ Has t
  no_state v z t e = let h : tickets_of v ≡ 1 = ap ticket_count e in absurd (omega arith)

  learns : (turns : List (Turn I O)) (drawn k : ℕ) (seen : List (Turn I O)) → turns_of k turns ≡ turns_of k seen → (st : Stage I O) → Knows turns drawn k seen st → Learns k seen st
  learns turns drawn k seen own Idle h = tt
  learns turns drawn k seen own (New parent) h = (sym own ∙ h.0, h.1)
  learns turns drawn k seen own (Joined xs ys other) h = h
  learns turns drawn k seen own (Waits t) h = tt
  learns turns drawn k seen own (Has t) h = tt

  alone : (v w : View I O) (k : ℕ) (u : View I O) → get_elem? (v ∷ []) k ≡ some u → (k ≡ 0) × (v ≡ u)
  alone v w zero u e = (refl, some-injective v u e)
  alone v w (suc k) u e = absurd (some-ne-none u (sym e))

module _ {I O Y : Type 0} (moves : Y → I → Result O Memory → Y → Type 0) (key : Opening Y) where
  abbrev R : State (Option Y) (View I O) → Type 0
  R = Ruled moves key

  pub opens : (y : Y) → 0 < key.parts → key.parts < 18446744073709551616 → key.state.value ≡ y → R (opening (0 ∷ 0 ∷ []) (Some y ∷ []) (first_view key.parts))
  opens y some_parts few is =
      let v : View I O = first_view key.parts in
      record {
        turns = [];
        drawn = 0;
        slot = some (Some y);
        words = refl;
        homes = refl;
        queue = refl;
        whole = omega arith;
        few = few;
        each = λ k u e. let a = alone v v k u e in subst (λ (x : View I O). Fits [] 0 k x) a.1 record { light = omega arith; prefix = ([], refl); own = refl; stage = tt };
        apart = λ j k a b ej ek _ _ _. (alone v v j a ej).0 ∙ sym (alone v v k b ek).0;
        unmade = λ k l. refl;
        seen_whole = (0, v, refl, some_parts, refl);
        home = inl (y, refl, is);
      }

  pub looks : (slots id : ℕ) (me : Me (Option Y) (View I O)) (k : ℕ) → k ≡ id → ticket_count me.0.stage ≡ 0 → 0 < me.0.parts → Allows R slots id me 0 (λ n. n) (learned moves k (step slots 0 0 0 none) me)
  looks slots id me k same quiet live s r _ at _ =
      let v : View I O = me.0 in
      let w : View I O = view v.parts v.seen Idle in
      let f = r.each id v at in
      let q = total-set tickets_of s.views id v w at in
      let p = total-set parts_of s.views id v w at in
      let was = r.queue in
      let whole = r.whole in
      let out : tickets_of v ≡ 0 = quiet in (
        w,
        keeps,
        tt,
        record {
          turns = r.turns;
          drawn = r.drawn;
          slot = r.slot;
          words = set-get_or s.words 0 0 ∙ r.words;
          homes = r.homes;
          queue = omega arith;
          whole = omega arith;
          few = r.few;
          each = each_set (Fits r.turns r.drawn) s.views id w record { light = omega arith; prefix = f.prefix; own = f.own; stage = tt } (λ j d _ e. r.each j d e);
          apart = apart_set s.views id w r.apart (λ j u n e. free w u refl);
          unmade = λ j l. r.unmade j (omega (arith, length-set s.views id w));
          seen_whole = seen_whole_set r.turns s.views id v w at live refl r.seen_whole;
          home = ⊎_elim inl (λ (o : IsOut s.views). inr (out_set s.views id v w at (no_state v out) o)) r.home;
        },
        (refl, subst (λ (z : ℕ). Learns z v.seen v.stage) (sym same) (learns r.turns r.drawn id v.seen f.own v.stage f.stage), refl),
      )

  pub splits : (id : ℕ) (v : View I O) (n : ℕ) → v.stage ≡ Idle → 0 < n → n < v.parts → Splits R id v (rest_of n v) (part_of id n v)
  splits id v n idle low high s r at =
      let left : View I O = rest_of n v in
      let right : View I O = part_of id n v in
      let vs : List (View I O) = set s.views id left in
      let f = r.each id v at in
      let live : 0 < v.parts = omega arith in
      let q = total-set tickets_of s.views id v left at in
      let p = total-set parts_of s.views id v left at in
      let q' = total-snoc tickets_of vs right in
      let p' = total-snoc parts_of vs right in
      let was = r.queue in
      let whole = r.whole in
      let out : tickets_of v ≡ 0 = ap ticket_count idle in
      let out' : tickets_of left ≡ 0 = ap ticket_count idle in
      let nl : left.parts ≡ v.parts - n = refl in
      let long = length-set s.views id left in
      let new : turns_of (length vs) r.turns ≡ [] = r.unmade (length vs) (omega arith) in
      let there = at_in s.views id v at in
      let above : id < length vs = omega arith in
      record {
        turns = r.turns;
        drawn = r.drawn;
        slot = r.slot;
        words = r.words;
        homes = r.homes;
        queue = omega arith;
        whole = omega arith;
        few = r.few;
        each = λ j d e. ⊎_elim
            (each_set (Fits r.turns r.drawn) s.views id left record { light = omega arith; prefix = f.prefix; own = f.own; stage = f.stage } (λ i x _ a. r.each i x a) j d)
            (λ (t : (j ≡ length vs) × (right ≡ d)). subst (λ (x : ℕ × View I O). Fits r.turns r.drawn x.0 x.1) (λ i. (sym t.0 i, t.1 i))
            record { light = omega arith; prefix = f.prefix; own = new ∙ sym (turns-none (length vs) v.seen r.turns f.prefix new); stage = (new, above) })
            (at_end vs right d j e);
        apart = apart_end vs right refl (apart_set s.views id left r.apart (λ j u m e. free left u out'));
        unmade = λ k l. r.unmade k (omega (arith, length-append vs (right ∷ [])));
        seen_whole = let far = seen_whole_set r.turns s.views id v left at (omega arith) refl r.seen_whole in (far.0, far.1, at_longer vs (right ∷ []) far.0 far.1 far.2, far.3, far.4);
        home = ⊎_elim inl (λ (o : IsOut s.views). let o' = out_set s.views id v left at (no_state v out) o in inr (o'.0, o'.1, o'.2, at_longer vs (right ∷ []) o'.0 o'.1 o'.3, o'.4)) r.home;
      }

  pub joins : (id : ℕ) (v : View I O) (other : ℕ) (u : View I O) → v.stage ≡ Idle → u.stage ≡ Idle → 0 < v.parts → 0 < u.parts → Joins R id v other u (both_of other v u) (spent_view u.seen)
  joins id v other u idle idle' live live' s r at ne there =
      let both : View I O = both_of other v u in
      let gone : View I O = spent_view u.seen in
      let vs : List (View I O) = set s.views id both in
      let at' : get_elem? s.views other ≡ some u = sym (set_else s.views id other both ne) ∙ there in
      let f = r.each id v at in
      let g = r.each other u at' in
      let long : Longer id other r.turns v.seen u.seen both.seen = longer_is id other r.turns v.seen u.seen f.prefix g.prefix f.own g.own in
      let q = total-set tickets_of s.views id v both at in
      let p = total-set parts_of s.views id v both at in
      let q' = total-set tickets_of vs other u gone there in
      let p' = total-set parts_of vs other u gone there in
      let was = r.queue in
      let whole = r.whole in
      let out : tickets_of v ≡ 0 = ap ticket_count idle in
      let out' : tickets_of u ≡ 0 = ap ticket_count idle' in
      let nl : both.parts ≡ v.parts + u.parts = refl in
      let ng : gone.parts ≡ 0 = refl in
      let zb : tickets_of both ≡ 0 = refl in
      let zg : tickets_of gone ≡ 0 = refl in
      let here : get_elem? (set vs other gone) id ≡ some both = set_else vs other id gone (λ e. ne (sym e)) ∙ set_there s.views id v both at in
      let far = r.seen_whole in
      record {
        turns = r.turns;
        drawn = r.drawn;
        slot = r.slot;
        words = r.words;
        homes = r.homes;
        queue = omega arith;
        whole = omega arith;
        few = r.few;
        each = each_set (Fits r.turns r.drawn) vs other gone record { light = omega arith; prefix = g.prefix; own = g.own; stage = tt }
            (λ j d _. each_set (Fits r.turns r.drawn) s.views id both
            record { light = omega arith; prefix = long.prefix; own = f.own ∙ sym long.own; stage = (long.this, long.that, long.own, long.others, ne) }
            (λ i x _ a. r.each i x a) j d);
        apart = apart_set vs other gone (apart_set s.views id both r.apart (λ j x m e. free both x zb)) (λ j x m e. free gone x zg);
        unmade = λ k l. r.unmade k (let a = length-set vs other gone in let b = length-set s.views id both in omega arith);
        seen_whole = dite (ℕ_discrete far.0 id)
            (λ e. let is : v ≡ far.1 = some-injective v far.1 (sym at ∙ (ap (get_elem? s.views) (sym e) ∙ far.2)) in
            let all : v.seen ≡ r.turns = ap (λ (x : View I O). x.seen) is ∙ far.4 in
            let le = prefix-length v.seen both.seen long.this in
            (id, both, here, omega arith, prefix-whole both.seen r.turns long.prefix (let k = ap length all in omega arith)))
            (λ n. dite (ℕ_discrete far.0 other)
            (λ e. let is : u ≡ far.1 = some-injective u far.1 (sym at' ∙ (ap (get_elem? s.views) (sym e) ∙ far.2)) in
            let all : u.seen ≡ r.turns = ap (λ (x : View I O). x.seen) is ∙ far.4 in
            let le = prefix-length u.seen both.seen long.that in
            (id, both, here, omega arith, prefix-whole both.seen r.turns long.prefix (let k = ap length all in omega arith)))
            (λ m. (far.0, far.1, set_else vs other far.0 gone m ∙ (set_else s.views id far.0 both n ∙ far.2), far.3, far.4)));
        home = ⊎_elim inl (λ (o : IsOut s.views). inr (out_set vs other u gone there (no_state u out') (out_set s.views id v both at (no_state v out) o))) r.home;
      }
