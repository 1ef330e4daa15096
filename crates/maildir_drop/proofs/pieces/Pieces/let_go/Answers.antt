use Rattle.std.proofs.Common.{◌≤◌, List, ℕ, length, drop, sym, ap, ◌∙◌, arith}
use Rattle.std.specs.List.{concat}
use Rattle.maildir_drop.proofs.Cutting.{left_none}
use Rattle.maildir_drop.proofs.pieces.Pieces.let_go.Goals as goal

pub returns-then-self-len : goal.returns-then-self-len
returns-then-self-len c =
    let i = c.self.inside in
    let over : length i.pieces.items ≤ i.next = omega (arith, c.len.ensures, c.if-self-len.true) in
    ap (λ (pieces : List (List ℕ)). concat (drop 0 pieces)) c.clear.ensures.items ∙ sym (left_none i.pieces.items i.next over) ∙ c.self.view_is
