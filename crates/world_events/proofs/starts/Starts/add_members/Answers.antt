use Rattle.std.proofs.Common.{◌≡◌, ℕ, zero, suc, ◌+◌, List, [], ◌∷◌, ◌++◌, sym, ap, ◌∙◌, arith}
use Rattle.std.specs.List.{range_with_len}
use Rattle.std.proofs.lemmas.List.{append_assoc}
use Rattle.world_events.proofs.starts.Starts.add_members.Goals as goal

-- one number more
one_after : (a n : ℕ) → range_with_len a (suc n) ≡ range_with_len a n ++ (a + n) ∷ []
one_after a zero = let e : a ≡ a + 0 = omega arith in ap (λ (k : ℕ). k ∷ []) e
one_after a (suc n) =
    let e : a + 1 + n ≡ a + suc n = omega arith in
    ap (λ (l : List ℕ). a ∷ l) (one_after (a + 1) n ∙ ap (λ (k : ℕ). range_with_len (a + 1) n ++ k ∷ []) e)

one_more : (n : ℕ) → range_with_len 0 (n + 1) ≡ range_with_len 0 n ++ n ∷ []
one_more n =
    let up : n + 1 ≡ suc n = omega arith in
    let here : 0 + n ≡ n = omega arith in
    ap (λ (k : ℕ). range_with_len 0 k) up ∙ one_after 0 n ∙ ap (λ (k : ℕ). range_with_len 0 n ++ k ∷ []) here

pub unwrap-requires : goal.unwrap-requires
unwrap-requires c =
    let room = c.requires in
    let low = c.loop-seat-test.true in
    let capacity = c.loop-seat.invariant.1 in
    let len = c.loop-seat.invariant.3 in
    c.push.ensures.succeeds (omega (arith, room, low, capacity, len))

pub loop-seat-preserved : goal.loop-seat-preserved
loop-seat-preserved c =
    let was = c.loop-seat.invariant in
    let seat = c.loop-seat.seat in
    let items = rw c.unwrap.ensures at c.push.ensures.items in
    let len = rw c.unwrap.ensures at c.push.ensures.len in
    let capacity = c.push.ensures.capacity in
    let room = was.1 in
    let long = was.3 in (
      items ∙ ap (λ (l : List ℕ). l ++ seat ∷ []) was.0 ∙ append_assoc c.args.self.now.order.items (range_with_len 0 seat) (seat ∷ [])
          ∙ ap (λ (l : List ℕ). c.args.self.now.order.items ++ l) (sym (one_more seat)),
      omega (arith, room, capacity),
      was.2,
      omega (arith, len, long),
    )
