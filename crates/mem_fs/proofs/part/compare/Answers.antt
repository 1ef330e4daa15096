use Rattle.std.proofs.Common.{◌≡◌, ◌∷◌, List, ℕ, length, take, drop, nat_cmp, sym, ap, ◌∙◌}
use Rattle.std.specs.Cmp.Lexicographic.{slice_cmp}
use Rattle.std.specs.Ordering.{ordering_then}
use Rattle.mem_fs.proofs.Parts.{slice_cmp-append, take_least, drop_least}
use Rattle.mem_fs.proofs.part.compare.Goals as goal

pub returns : goal.returns
returns c =
    let name = c.args.name.now in
    let dir = c.args.dir.now in
    let rest = 47 ∷ c.args.part.now in
    let front : c.split_at.result.0.now ≡ take (length dir) name = c.split_at.ensures.front ∙ ap (λ n. take n name) c.min.ensures ∙ take_least name dir in
    let back : c.split_at.result.1.now ≡ drop (length dir) name = c.split_at.ensures.back ∙ ap (λ n. drop n name) c.min.ensures ∙ drop_least name dir in
    c.then.ensures
    ∙ ap (λ r. ordering_then r c.compare_rest.result) (c.cmp.ensures ∙ ap (λ (x : List ℕ). slice_cmp nat_cmp x dir) front)
    ∙ ap (ordering_then (slice_cmp nat_cmp (take (length dir) name) dir)) (c.compare_rest.ensures ∙ ap (λ (x : List ℕ). slice_cmp nat_cmp x rest) back)
    ∙ sym (slice_cmp-append name dir rest)
