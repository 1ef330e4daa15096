use Rattle.std.proofs.Common.{◌<◌, length, drop, sym, ap, ◌∙◌, arith}
use Rattle.maildir_drop.proofs.Cutting.{next}
use Rattle.maildir_drop.proofs.pieces.Pieces.step.Goals as goal

pub returns-then-self-len : goal.returns-then-self-len
returns-then-self-len c =
    let i = c.self.inside in
    let within : i.next < length i.pieces.items = omega (arith, c.len.ensures, c.if-self-len.true) in
    let after = next i.pieces.items i.next c.self.invariant.cut within in
    sym after.rest ∙ ap (drop 8192) c.self.view_is
