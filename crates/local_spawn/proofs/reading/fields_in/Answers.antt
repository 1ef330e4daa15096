use Rattle.std.proofs.Common.{List, ℕ, [], length, get_or, sym, ap, ◌∙◌, ◌≡◌, arith}
use Rattle.std.specs.Borrow.{Bor}
use Rattle.local_spawn.proofs.PieceLemmas.{eight, parsed_at}
use Rattle.local_spawn.proofs.reading.fields_in.Goals as goal

pub returns-then-is_empty : goal.returns-then-is_empty
returns-then-is_empty c =
    let pieces = c.args.pieces.now in
    let d : Bor (List ℕ) = record { ref_ptr = (0, 0); now = [] } in
    let long : length pieces ≡ 8 = omega (arith, c.in-len8.len_at_least, c.in-len8.len_below) in
    c.fields_of.ensures
    ∙ sym (eight pieces d long
    ∙ ap (λ t. parsed_at t (get_or pieces 0 d).now (get_or pieces 1 d).now (get_or pieces 2 d).now (get_or pieces 3 d).now (get_or pieces 4 d).now (get_or pieces 5 d).now (get_or pieces 6 d).now)
    (sym c.is_empty.ensures ∙ c.if-is_empty.true))

pub returns-else-is_empty : goal.returns-else-is_empty
returns-else-is_empty c =
    let pieces = c.args.pieces.now in
    let d : Bor (List ℕ) = record { ref_ptr = (0, 0); now = [] } in
    let long : length pieces ≡ 8 = omega (arith, c.in-len8.len_at_least, c.in-len8.len_below) in
    sym (eight pieces d long
    ∙ ap (λ t. parsed_at t (get_or pieces 0 d).now (get_or pieces 1 d).now (get_or pieces 2 d).now (get_or pieces 3 d).now (get_or pieces 4 d).now (get_or pieces 5 d).now (get_or pieces 6 d).now)
    (sym c.is_empty.ensures ∙ c.if-is_empty.false))
