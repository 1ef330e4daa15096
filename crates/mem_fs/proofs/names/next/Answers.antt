use Rattle.std.proofs.Common.{◌≡◌, ◌≤◌, ◌++◌, ◌∷◌, true, false, ℕ, List, length, Contains, nat_cmp, is_gt, ap, sym, subst, ◌∙◌, arith}
use Rattle.std.specs.declared.vec.Vec.{Vec}
use Rattle.std.specs.Cmp.Lexicographic.{slice_cmp}
use Rattle.mem_fs.specs.Tables.{texts, IsRest}
use Rattle.mem_fs.proofs.NextName.{comes_after, not_after, without_first, is_next, is_past}
use Rattle.mem_fs.proofs.Parts.{same_part}
use Rattle.mem_fs.proofs.names.next.Goals as goal

pub returns-then-is_part-clause-some : goal.returns-then-is_part-clause-some
returns-then-is_part-clause-some c =
    let e : List ℕ × ℕ = (c.in-Some.name.now.items, c.in-Some.field-0-1.now) in
    let left : IsRest (texts c.args.names.now.entries) c.args.dir.now c.args.after.now (e ∷ texts c.next.new.self) =
    subst (λ (es : List (Vec ℕ _ × ℕ)). IsRest (texts c.args.names.now.entries) c.args.dir.now c.args.after.now (texts es)) c.in-Some.ensures.steps c.loop-name.invariant in
    let order : is_gt (slice_cmp nat_cmp c.in-Some.name.now.items (c.args.dir.now ++ 47 ∷ c.args.after.now)) ≡ true =
    ap (λ (x : List ℕ). is_gt (slice_cmp nat_cmp x (c.args.dir.now ++ 47 ∷ c.args.after.now))) (sym c.as_slice-name.ensures.value) ∙ ap is_gt (sym c.compare.ensures) ∙ sym c.is_gt.ensures ∙ c.if-is_gt.true in
    let part = c.is_part.ensures.0 c.if-is_part.true in
    is_next (texts c.args.names.now.entries) c.args.dir.now c.args.after.now e (texts c.next.new.self) left (comes_after e.0 (c.args.dir.now ++ 47 ∷ c.args.after.now) order)
    c.in_ok-below.below.now (sym c.as_slice-name.ensures.value ∙ c.in_ok-below.ensures.found) part.0 part.1

pub returns-in_err-below-clause-none : goal.returns-in_err-below-clause-none
returns-in_err-below-clause-none c =
    let e : List ℕ × ℕ = (c.in-Some.name.now.items, c.in-Some.field-0-1.now) in
    let left : IsRest (texts c.args.names.now.entries) c.args.dir.now c.args.after.now (e ∷ texts c.next.new.self) =
    subst (λ (es : List (Vec ℕ _ × ℕ)). IsRest (texts c.args.names.now.entries) c.args.dir.now c.args.after.now (texts es)) c.in-Some.ensures.steps c.loop-name.invariant in
    let order : is_gt (slice_cmp nat_cmp c.in-Some.name.now.items (c.args.dir.now ++ 47 ∷ c.args.after.now)) ≡ true =
    ap (λ (x : List ℕ). is_gt (slice_cmp nat_cmp x (c.args.dir.now ++ 47 ∷ c.args.after.now))) (sym c.as_slice-name.ensures.value) ∙ ap is_gt (sym c.compare.ensures) ∙ sym c.is_gt.ensures ∙ c.if-is_gt.true in
    rw c.from_residual.ensures (is_past (texts c.args.names.now.entries) c.args.dir.now c.args.after.now e (texts c.next.new.self) left (comes_after e.0 (c.args.dir.now ++ 47 ∷ c.args.after.now) order)
    (λ rest is. c.in_err-below.ensures.none rest (c.as_slice-name.ensures.value ∙ is)))

kept : (c : goal.After-beyond-rest) → IsRest (texts c.args.names.now.entries) c.args.dir.now c.args.after.now (texts c.beyond-rest.result) × (length c.beyond-rest.result ≤ length c.next.new.self)
kept c =
    let e : List ℕ × ℕ = (c.in-Some.name.now.items, c.in-Some.field-0-1.now) in
    let left : IsRest (texts c.args.names.now.entries) c.args.dir.now c.args.after.now (e ∷ texts c.next.new.self) =
    subst (λ (es : List (Vec ℕ _ × ℕ)). IsRest (texts c.args.names.now.entries) c.args.dir.now c.args.after.now (texts es)) c.in-Some.ensures.steps c.loop-name.invariant in
    let named : IsRest (texts c.args.names.now.entries) c.args.dir.now c.args.after.now ((c.args.dir.now ++ 47 ∷ c.in_ok-below.below.now, e.1) ∷ texts c.next.new.self) =
    subst (λ (x : List ℕ). IsRest (texts c.args.names.now.entries) c.args.dir.now c.args.after.now ((x, e.1) ∷ texts c.next.new.self)) (sym c.as_slice-name.ensures.value ∙ c.in_ok-below.ensures.found) left in
    c.beyond-rest.ensures c.args.after.now e.1 named
    (without_first (texts c.args.names.now.entries) c.args.dir.now c.args.after.now e (texts c.next.new.self) left
    (λ other is later.
    let same : c.in_ok-below.below.now ≡ other = same_part c.args.dir.now c.in_ok-below.below.now other (sym (sym c.as_slice-name.ensures.value ∙ c.in_ok-below.ensures.found) ∙ is) in
    let yes = c.is_part.ensures.1 (subst (λ (x : List ℕ). ¬ (Contains x 47)) (sym same) later.whole, subst (λ (x : List ℕ). length x ≤ 255) (sym same) later.short) in
    let no = c.if-is_part.false in
    absurd cc))

pub loop-name-preserved-then-is_gt : goal.loop-name-preserved-then-is_gt
loop-name-preserved-then-is_gt c = (kept c).0

pub loop-name-smaller-then-is_gt : goal.loop-name-smaller-then-is_gt
loop-name-smaller-then-is_gt c =
    let fewer = (kept c).1 in
    let whole = ap length c.in-Some.ensures.steps in
    omega (arith, fewer, whole)

pub loop-name-preserved : goal.loop-name-preserved
loop-name-preserved c =
    let e : List ℕ × ℕ = (c.in-Some.name.now.items, c.in-Some.field-0-1.now) in
    let left : IsRest (texts c.args.names.now.entries) c.args.dir.now c.args.after.now (e ∷ texts c.next.new.self) =
    subst (λ (es : List (Vec ℕ _ × ℕ)). IsRest (texts c.args.names.now.entries) c.args.dir.now c.args.after.now (texts es)) c.in-Some.ensures.steps c.loop-name.invariant in
    let order : is_gt (slice_cmp nat_cmp c.in-Some.name.now.items (c.args.dir.now ++ 47 ∷ c.args.after.now)) ≡ false =
    ap (λ (x : List ℕ). is_gt (slice_cmp nat_cmp x (c.args.dir.now ++ 47 ∷ c.args.after.now))) (sym c.as_slice-name.ensures.value) ∙ ap is_gt (sym c.compare.ensures) ∙ sym c.is_gt.ensures ∙ c.if-is_gt.false in
    without_first (texts c.args.names.now.entries) c.args.dir.now c.args.after.now e (texts c.next.new.self) left (not_after c.args.dir.now c.args.after.now e.0 order)
