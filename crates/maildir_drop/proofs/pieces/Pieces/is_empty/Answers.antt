use Rattle.std.proofs.Common.{◌≡◌, length, arith}
use Rattle.maildir_drop.proofs.Cutting.{empty_decides}
use Rattle.maildir_drop.proofs.pieces.Pieces.is_empty.Goals as goal

pub returns : goal.returns
returns c =
    let i = c.self.inside in
    let size : c.len.result ≡ length i.pieces.items = omega (arith, c.len.ensures) in
    empty_decides i.pieces.items i.next c.len.result c.args.self.now c.self.invariant.cut c.self.invariant.inside size c.self.view_is
