use Rattle.std.proofs.Common.{◌≤◌, ◌&&◌, true, ℕ, ◌+◌, List, ◌∷◌, ◌++◌, length, take, drop, nat_cmp, ap, sym, subst, rules}
use Rattle.std.specs.Ordering.{is_le}
use Rattle.std.specs.declared.vec.Vec.{Vec}
use Rattle.std.specs.Cmp.Lexicographic.{slice_cmp}
use Rattle.mem_fs.specs.Tables.{texts, IsRest}
use Rattle.mem_fs.proofs.NameTable.{in_order-texts}
use Rattle.mem_fs.proofs.NextName.{past}
use Rattle.mem_fs.proofs.Parts.{at_slash}
use Rattle.mem_fs.proofs.names.beyond.Goals as goal

pub returns-in-Ok : goal.returns-in-Ok
returns-in-Ok c = λ after number with_first is_rest.
    let whole = c.args.names.now.entries in
    let dir = c.args.dir.now in
    let below = c.args.below.now in
    let at = c.in-Some.at in
    subst (λ (es : List (Vec ℕ _ × ℕ)). IsRest (texts whole) dir after (texts es) × (length es ≤ length c.args.rest)) (sym (c.range.ensures.between (search rules)))
    (past whole (in_order-texts whole c.range.ensures.ordered) dir after (dir ++ 47 ∷ below, number) c.args.rest with_first is_rest
    (take at below) (drop (at + 1) below) (ap (λ (x : List ℕ). dir ++ 47 ∷ x) (at_slash below at (sym c.in-Some.ensures))) _
    (λ f. ap (λ (x : List ℕ). is_le (slice_cmp nat_cmp x f.0.items) && true) c.in-Ok.ensures))
