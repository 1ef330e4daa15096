-- Each step on the lock's table keeps its rule.
use Rattle.std.proofs.Common.{◌≡◌, ◌≢◌, ℕ, ◌+◌, ◌%◌, ◌^◌, ◌<◌, ◌≤◌, List, [], ◌∷◌, ◌++◌, length, get_or, set, Option, Some, Result, sym, refl, ap, ◌∙◌, subst, inl, inr, ⊎_elim, arith, length-set, length-append, append-nil}
use mathlib.Core.Logic.{dite}
use mathlib.Core.Option.{none, some, some-injective}
use native.Mathlib.Decide.{ℕ_discrete}
use lib.ListN.{get_elem?}
use lib.Seq.{set-get_or}
use Rattle.atomic_table.specs.Table.{State, Me, step, keeps, takes, gives, stepped, put_back, rest, Allows}
use Rattle.atomic_table.proofs.Lists.{at_set, set_again, set_else, one_turn}
use Rattle.yard_lock.specs.declared.turn.Turn.{Turn}
use Rattle.std.specs.declared.alloc.AllocError.{AllocError as Memory}
use Rattle.yard_lock.specs.declared.view.Stage.{Stage}
use Rattle.yard_lock.specs.declared.view.Stage.TheVariants.{Idle, New, Joined, Waits, Has}
use Rattle.yard_lock.specs.declared.view.View.{View}
use Rattle.yard_lock.specs.declared.view.Opening.{Opening}
use Rattle.yard_lock.specs.Turns.{turn, turns_of, IsPrefix, Replay}
use Rattle.yard_lock.specs.Rule.{view, ticket_count, ticket, tickets_of, parts_of, total, Knows, Fits, Apart, IsOut, IsSeenWhole, IsHome, Ruled}
use Rattle.yard_lock.specs.inside.Steps.{Inside, Replays, drew, entered, left}
use Rattle.yard_lock.proofs.Turns.{total-set, total-below, at_in, set_there, prefix-all, prefix-more, turns-other}

module _ {I O : Type 0} where
  pub each_set : (K : ℕ → View I O → Type 0) (vs : List (View I O)) (me : ℕ) (w : View I O) → K me w → ((j : ℕ) (d : View I O) → j ≢ me → get_elem? vs j ≡ some d → K j d) → (j : ℕ) (d : View I O) → get_elem? (set vs me w) j ≡ some d → K j d
  each_set K vs me w mine others j d e = ⊎_elim (λ (t : (j ≡ me) × (w ≡ d)). subst (λ (x : ℕ × View I O). K x.0 x.1) (λ i. (sym t.0 i, t.1 i)) mine)
      (λ (t : (j ≢ me) × (get_elem? vs j ≡ some d)). others j d t.0 t.1) (at_set vs me j w d e)

  abbrev pub Clash : View I O → View I O → Type 0
  Clash w u = tickets_of w ≡ 1 → tickets_of u ≡ 1 → ticket w.stage ≡ ticket u.stage → ⊥

  pub apart_set : (vs : List (View I O)) (me : ℕ) (w : View I O) → ((j k : ℕ) (v u : View I O) → get_elem? vs j ≡ some v → get_elem? vs k ≡ some u → Apart v u j k) → ((k : ℕ) (u : View I O) → k ≢ me → get_elem? vs k ≡ some u → Clash w u)
      → (j k : ℕ) (v u : View I O) → get_elem? (set vs me w) j ≡ some v → get_elem? (set vs me w) k ≡ some u → Apart v u j k
  apart_set vs me w old never j k v u ej ek a b c = ⊎_elim
      (λ (s : (j ≡ me) × (w ≡ v)). ⊎_elim
      (λ (t : (k ≡ me) × (w ≡ u)). s.0 ∙ sym t.0)
      (λ (t : (k ≢ me) × (get_elem? vs k ≡ some u)). absurd (never k u t.0 t.1 (ap tickets_of s.1 ∙ a) b (ap (λ (x : View I O). ticket x.stage) s.1 ∙ c)))
      (at_set vs me k w u ek))
      (λ (s : (j ≢ me) × (get_elem? vs j ≡ some v)). ⊎_elim
      (λ (t : (k ≡ me) × (w ≡ u)). absurd (never j v s.0 s.1 (ap tickets_of t.1 ∙ b) a (ap (λ (x : View I O). ticket x.stage) t.1 ∙ sym c)))
      (λ (t : (k ≢ me) × (get_elem? vs k ≡ some u)). old j k v u s.1 t.1 a b c)
      (at_set vs me k w u ek))
      (at_set vs me j w v ej)

  pub free : (w u : View I O) → tickets_of w ≡ 0 → Clash w u
  free w u z a b c = absurd (omega arith)

  -- a view that had the state is another's
  pub out_set : (vs : List (View I O)) (me : ℕ) (v w : View I O) → get_elem? vs me ≡ some v → ((t : ℕ) → v.stage ≢ Has t) → IsOut vs → IsOut (set vs me w)
  out_set vs me v w at never out = let other : out.0 ≢ me = λ e. never out.2 (ap (λ (x : View I O). x.stage) (some-injective v out.1 (sym at ∙ (ap (get_elem? vs) (sym e) ∙ out.3))) ∙ out.4) in
      (out.0, out.1, out.2, set_else vs me out.0 w other ∙ out.3, out.4)

  pub seen_whole_set : (turns : List (Turn I O)) (vs : List (View I O)) (me : ℕ) (v w : View I O) → get_elem? vs me ≡ some v → 0 < w.parts → w.seen ≡ v.seen → IsSeenWhole turns vs → IsSeenWhole turns (set vs me w)
  seen_whole_set turns vs me v w at live same far = dite (ℕ_discrete far.0 me)
      (λ e. (me, w, set_there vs me v w at, live, same ∙ (ap (λ (x : View I O). x.seen) (some-injective v far.1 (sym at ∙ (ap (get_elem? vs) (sym e) ∙ far.2))) ∙ far.4)))
      (λ n. (far.0, far.1, set_else vs me far.0 w n ∙ far.2, far.3, far.4))

  pub knows_more : (turns : List (Turn I O)) (drawn k : ℕ) (seen : List (Turn I O)) (st : Stage I O) → Knows turns drawn k seen st → Knows turns (drawn + 1) k seen st
  knows_more turns drawn k seen Idle h = tt
  knows_more turns drawn k seen (New parent) h = h
  knows_more turns drawn k seen (Joined xs ys other) h = h
  knows_more turns drawn k seen (Waits t) h = (h.0, omega arith)
  knows_more turns drawn k seen (Has t) h = (h.0, omega arith, h.2)

  pub ticket_below : (turns : List (Turn I O)) (drawn k : ℕ) (seen : List (Turn I O)) (st : Stage I O) → Knows turns drawn k seen st → ticket_count st ≡ 1 → ticket st < drawn
  ticket_below turns drawn k seen Idle h z = absurd (omega arith)
  ticket_below turns drawn k seen (New parent) h z = absurd (omega arith)
  ticket_below turns drawn k seen (Joined xs ys other) h z = absurd (omega arith)
  ticket_below turns drawn k seen (Waits t) h z = h.1
  ticket_below turns drawn k seen (Has t) h z = h.1

  -- one more turn, of another pass
  pub knows_next : (turns : List (Turn I O)) (drawn k by : ℕ) (x : I) (r : Result O Memory) (seen : List (Turn I O)) (st : Stage I O) → by ≢ k → (ticket_count st ≡ 1 → ticket st ≢ length turns) → Knows turns drawn k seen st → Knows (turns ++ turn by x r ∷ []) drawn k seen st
  knows_next turns drawn k by x r seen Idle n never h = tt
  knows_next turns drawn k by x r seen (New parent) n never h = (turns-other by k x r turns n ∙ h.0, h.1)
  knows_next turns drawn k by x r seen (Joined xs ys other) n never h = h
  knows_next turns drawn k by x r seen (Waits t) n never h = let l = length-append turns (turn by x r ∷ []) in let m = never refl in (omega arith, h.1)
  knows_next turns drawn k by x r seen (Has t) n never h = absurd (never refl h.0)

module _ {I O Y : Type 0} (moves : Y → I → Result O Memory → Y → Type 0) (key : Opening Y) where
  abbrev pub M : Type 0
  M = Me (Option Y) (View I O)

  abbrev pub St : Type 0
  St = State (Option Y) (View I O)

  abbrev pub Rule : St → Type 0
  Rule = Ruled moves key

  few_wait : (s : St) (r : Rule s) → total tickets_of s.views < 18446744073709551616
  few_wait s r = let a = total-below tickets_of parts_of s.views (λ k v e. (r.each k v e).light) in let b = r.whole in let c = r.few in omega arith

  pub draws : (slots id : ℕ) (me : M) → me.0.stage ≡ Idle → 0 < me.0.parts → Allows Rule slots id me 0 (λ n. (n + 1) % 2 ^ 64) (drew moves (step slots 0 1 0 none) me)
  draws slots id me idle live s r _ at _ =
      let v : View I O = me.0 in
      let w : View I O = view v.parts v.seen (Waits r.drawn) in
      let x : ℕ = get_or s.words 0 0 in
      let is : x ≡ r.drawn % 18446744073709551616 = ap (λ ws. get_or ws 0 0) r.words in
      let next : (x + 1) % 18446744073709551616 ≡ (r.drawn + 1) % 18446744073709551616 = omega arith in
      let f = r.each id v at in
      let none_yet : tickets_of v ≡ 0 = ap ticket_count idle in
      let q = total-set tickets_of s.views id v w at in
      let p = total-set parts_of s.views id v w at in
      let was = r.queue in
      let whole = r.whole in
      let one : tickets_of w ≡ 1 = refl in (
        w,
        keeps,
        tt,
        record {
          turns = r.turns;
          drawn = r.drawn + 1;
          slot = r.slot;
          words = ap (λ ws. set ws 0 ((x + 1) % 18446744073709551616)) r.words ∙ ap (λ (n : ℕ). n ∷ length r.turns % 18446744073709551616 ∷ []) next;
          homes = r.homes;
          queue = omega arith;
          whole = omega arith;
          few = r.few;
          each = each_set (Fits r.turns (r.drawn + 1)) s.views id w record { light = omega arith; prefix = f.prefix; own = f.own; stage = (omega arith, omega arith) }
              (λ j d n e. let g = r.each j d e in record { light = g.light; prefix = g.prefix; own = g.own; stage = knows_more r.turns r.drawn j d.seen d.stage g.stage });
          apart = apart_set s.views id w r.apart (λ k u n e a b c. let l = ticket_below r.turns r.drawn k u.seen u.stage (r.each k u e).stage b in absurd (omega arith));
          unmade = λ k l. r.unmade k (omega (arith, length-set s.views id w));
          seen_whole = seen_whole_set r.turns s.views id v w at live refl r.seen_whole;
          home = ⊎_elim inl (λ (o : IsOut s.views). inr (out_set s.views id v w at (λ t e. absurd (cc (sym idle ∙ e))) o)) r.home;
        },
        (r.drawn, is, refl, refl),
      )

  -- a step that changes nothing
  pub stays : (s : St) (r : Rule s) (i id : ℕ) (c : List (ℕ × Option Y)) (v : View I O) → get_elem? s.views id ≡ some v → Rule (stepped s i (get_or s.words i 0) id c v keeps)
  stays s r i id c v at = subst (λ (x : List ℕ × List (View I O)). Rule record { words = x.0; homes = s.homes; views = x.1 }) (λ j. (sym (set-get_or s.words i 0) j, sym (set_again s.views id v at) j)) r

  -- the one that is served finds the state at home
  at_home : (s : St) (r : Rule s) (id t : ℕ) (v : View I O) → get_elem? s.views id ≡ some v → v.stage ≡ Waits t → t ≡ length r.turns → IsOut s.views → ⊥
  at_home s r id t v at st here out =
      let f = (r.each out.0 out.1 out.3).stage in
      let u : ℕ = out.2 in
      let g : Knows r.turns r.drawn out.0 out.1.seen (Has u) = subst (Knows r.turns r.drawn out.0 out.1.seen) out.4 f in
      let same : out.0 ≡ id = r.apart out.0 id out.1 v out.3 at (ap ticket_count out.4) (ap ticket_count st) (ap ticket out.4 ∙ (g.0 ∙ (sym here ∙ sym (ap ticket st)))) in
      let one : out.1 ≡ v = some-injective out.1 v (sym out.3 ∙ (ap (get_elem? s.views) same ∙ at)) in
      let clash : Has u ≡ Waits t = sym out.4 ∙ (ap (λ (x : View I O). x.stage) one ∙ st) in
      cc

  pub enters : (slots id : ℕ) (me : M) (os : List Y) (k t : ℕ) → k ≡ id → os ≡ key.state.value ∷ [] → me.0.stage ≡ Waits t → 0 < me.0.parts
      → Allows Rule slots id me 1 (λ n. n) (entered moves os k (step slots 1 0 0 none) me)
  enters slots id me os k t same opens st live s r _ at _ =
      let v : View I O = me.0 in
      let x : ℕ = get_or s.words 1 0 in
      let is : x ≡ length r.turns % 18446744073709551616 = ap (λ ws. get_or ws 1 0) r.words in
      let f = r.each id v at in
      let mine : (length r.turns ≤ t) × (t < r.drawn) = subst (Knows r.turns r.drawn id v.seen) st f.stage in
      let few = few_wait s r in
      let was = r.queue in
      let is_t : (u : ℕ) → v.stage ≡ Waits u → u ≡ t = λ u e. ap ticket (sym e ∙ st) in
      let w : View I O = view v.parts r.turns (Has t) in
      dite (ℕ_discrete t (length r.turns))
      (λ here.
      let h : IsHome moves key.state.value r.turns r.slot = ⊎_elim (λ (a : IsHome moves key.state.value r.turns r.slot). a) (λ (o : IsOut s.views). absurd (at_home s r id t v at st here o)) r.home in
      let q = total-set tickets_of s.views id v w at in
      let p = total-set parts_of s.views id v w at in
      let whole = r.whole in
      let one : tickets_of v ≡ 1 = ap ticket_count st in
      let light = f.light in (
        w,
        takes 0 (Some h.0),
        ap (λ hs. get_elem? hs 0) r.homes ∙ ap some h.1,
        record {
          turns = r.turns;
          drawn = r.drawn;
          slot = none;
          words = ap (λ ws. set ws 1 x) r.words ∙ ap (λ (n : ℕ). r.drawn % 18446744073709551616 ∷ n ∷ []) is;
          homes = ap (λ hs. set hs 0 none) r.homes;
          queue = omega arith;
          whole = omega arith;
          few = r.few;
          each = each_set (Fits r.turns r.drawn) s.views id w record { light = omega arith; prefix = prefix-all r.turns; own = refl; stage = (here, mine.1, refl) } (λ j d _ e. r.each j d e);
          apart = apart_set s.views id w r.apart (λ j u n e a b c. n (sym (r.apart id j v u at e one b (ap ticket st ∙ c))));
          unmade = λ j l. r.unmade j (omega (arith, length-set s.views id w));
          seen_whole = (id, w, set_there s.views id v w at, live, refl);
          home = inr (id, w, t, set_there s.views id v w at, refl);
        },
        (λ u e. (
          (λ _. (
            h.0,
            refl,
            ap Has (sym (is_t u e)),
            refl,
            f.prefix,
            subst (λ (z : ℕ). turns_of z r.turns ≡ turns_of z v.seen) (sym same) f.own,
            subst (λ (z : List Y). Replays moves z r.turns h.0) (sym opens) h.2,
          )),
          (λ n. absurd (n (is ∙ ap (λ (z : ℕ). z % 18446744073709551616) (sym here ∙ sym (is_t u e))))),
        )),
      ))
      (λ away. (
        v,
        keeps,
        tt,
        stays s r 1 id me.1 v at,
        (λ u e. (
          (λ found. absurd (away (sym (one_turn (length r.turns) t 18446744073709551616 mine.0 (omega arith) (sym is ∙ (found ∙ ap (λ (z : ℕ). z % 18446744073709551616) (is_t u e))))))),
          (λ _. refl),
        )),
      ))

  pub leaves : (slots id : ℕ) (me : M) (t : ℕ) (x : I) (a : Result O Memory) (y : Y) (new : ℕ) → me.1 ≡ (0, Some y) ∷ [] → me.0.stage ≡ Has t → 0 < me.0.parts
      → Replay moves key.state.value (me.0.seen ++ turn id x a ∷ []) y → new ≡ (t + 1) % 18446744073709551616
      → Allows Rule slots id me 1 (λ _. new) (λ _. left moves (turn id x a ∷ []) (step slots 1 new 0 none) me new)
  leaves slots id me t x a y new holds st live replay next s r _ at _ =
      let v : View I O = me.0 in
      let one_more : List (Turn I O) = turn id x a ∷ [] in
      let w : View I O = view v.parts (v.seen ++ one_more) Idle in
      let f = r.each id v at in
      let mine : (t ≡ length r.turns) × (t < r.drawn) × (v.seen ≡ r.turns) = subst (Knows r.turns r.drawn id v.seen) st f.stage in
      let turns : List (Turn I O) = r.turns ++ one_more in
      let long : length turns ≡ length r.turns + 1 = length-append r.turns one_more in
      let all : v.seen ++ one_more ≡ turns = ap (λ l. l ++ one_more) mine.2 in
      let q = total-set tickets_of s.views id v w at in
      let p = total-set parts_of s.views id v w at in
      let was = r.queue in
      let whole = r.whole in
      let one : tickets_of v ≡ 1 = ap ticket_count st in
      let now : new ≡ length turns % 18446744073709551616 = next ∙ ap (λ (n : ℕ). n % 18446744073709551616) (ap (λ (n : ℕ). n + 1) mine.0 ∙ sym long) in
      let others : (j : ℕ) (d : View I O) → j ≢ id → get_elem? s.views j ≡ some d → Fits turns r.drawn j d = λ j d n e.
      let g = r.each j d e in
      let n' : id ≢ j = λ p. n (sym p) in
      record {
        light = g.light;
        prefix = prefix-more d.seen r.turns one_more g.prefix;
        own = turns-other id j x a r.turns n' ∙ g.own;
        stage = knows_next r.turns r.drawn j id x a d.seen d.stage n' (λ o z. n (r.apart j id d v e at o one (z ∙ (sym mine.0 ∙ sym (ap ticket st))))) g.stage;
      } in (
        w,
        gives,
        tt,
        record {
          turns = turns;
          drawn = r.drawn;
          slot = some (Some y);
          words = ap (λ ws. set ws 1 new) r.words ∙ ap (λ (n : ℕ). r.drawn % 18446744073709551616 ∷ n ∷ []) now;
          homes = ap (put_back s.homes) holds ∙ ap (λ hs. set hs 0 (some (Some y))) r.homes;
          queue = omega arith;
          whole = omega arith;
          few = r.few;
          each = each_set (Fits turns r.drawn) s.views id w record { light = omega arith; prefix = ([], append-nil (v.seen ++ one_more) ∙ all); own = ap (turns_of id) (sym all); stage = tt } others;
          apart = apart_set s.views id w r.apart (λ j u n e. free w u refl);
          unmade = λ j l. let i = at_in s.views id v at in let sz = length-set s.views id w in turns-other id j x a r.turns (λ p. omega arith) ∙ r.unmade j (omega arith);
          seen_whole = (id, w, set_there s.views id v w at, live, all);
          home = inl (y, refl, subst (λ (l : List (Turn I O)). Replay moves key.state.value l y) all replay);
        },
        (refl, ap rest holds),
      )

-- what is entered after a ticket was drawn is entered by the pass as it was before
pub inside_before : {I O Y : Type 0} (moves : Y → I → Result O Memory → Y → Type 0) (os : List Y) (k t : ℕ) (m m' m'' : Me (Option Y) (View I O)) (st : Stage I O)
    → m'.0 ≡ view m.0.parts m.0.seen st → m'.1 ≡ m.1 → Inside moves os k m' t m'' → Inside moves os k m t m''
inside_before {I = I} {O = O} moves os k t m m' m'' st knows has i = (
  i.0,
  i.1 ∙ ap (λ l. (0, Some i.0) ∷ l) has,
  i.2,
  i.3 ∙ ap (λ v. v.parts) knows,
  subst (λ (seen : List (Turn I O)). IsPrefix seen m''.0.seen) (ap (λ v. v.seen) knows) i.4,
  i.5 ∙ ap (λ v. turns_of k v.seen) knows,
  i.6,
)
