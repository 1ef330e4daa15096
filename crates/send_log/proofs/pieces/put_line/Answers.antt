use Rattle.std.proofs.Common.{◌++◌, ◌∷◌, [], ap, ◌∙◌, append_assoc}
use Rattle.std.specs.List.{flat_map}
use Rattle.send_log.specs.Pieces.{piece_text}
use Rattle.send_log.proofs.Growth.{ended}
use Rattle.send_log.proofs.pieces.put_line.Goals as goal

pub returns-clause-items : goal.returns-clause-items
returns-clause-items c =
    c.put_bytes.ensures.items
    ∙ ap (λ t. t ++ 10 ∷ []) c.put_pieces.ensures.items
    ∙ append_assoc c.args.text.now.items (flat_map piece_text c.args.pieces.now) (10 ∷ [])
    ∙ ap (λ t. c.args.text.now.items ++ t) (ended c.args.pieces.now)
