use Rattle.std.proofs.Common.{◌≡◌, ◌<◌, ℕ, List, ◌++◌, ◌∷◌, [], length, get_or, IsSome, is_some, slice_get, ap, sym, ◌∙◌, Vec, Global}
use Rattle.std.proofs.lemmas.List.{get_or_default}
use Rattle.std.proofs.lemmas.Option.{slice_get-get_or}
use Rattle.mem_files.proofs.Halts.{values-more, values-same}
use Rattle.mem_files.proofs.junk.read_values.Goals as goal
use Rattle.mem_files.proofs.junk.read_values.Goals.{then-at-place+in_ok-push-2, else-at-place}

pub loop-given-preserved : goal.loop-given-preserved
loop-given-preserved c =
    let given = c.given-given-items.result.now in
    let i = c.loop-given.given-index in
    let g : ℕ × ℕ = get_or given i (0, 0) in
    let within : i < length given = c.loop-given-test.true in
    let read : g ≡ get_or given i g = get_or_default given i (0, 0) g within in
    let kept = slice_get c.args.file.now.kept c.args.place in
    let there : IsSome kept =
    ap (λ (xs : List ℕ). is_some (slice_get xs c.args.place)) (sym c.kept.ensures)
    ∙ ap is_some (slice_get-get_or c.kept.result.now c.args.place 0 c.in-Some.ensures.lookup.3.0) in
    let items : Vec ℕ Global → List ℕ = λ v. v.items in
    elim c.if-at-place.branch [
      | then-at-place+in_ok-push-2 w ↦
          ap items w.values-is ∙ w.in_ok-push-2.ensures.items ∙ ap (λ (xs : List ℕ). xs ++ g.1 ∷ []) c.loop-given.invariant
          ∙ sym (values-more kept there c.args.place given i g within read w.if-at-place.true)
      | else-at-place w ↦ ap items w.values-is ∙ c.loop-given.invariant ∙ sym (values-same kept there c.args.place given i g within read w.if-at-place.false)
    ]
