use Rattle.std.proofs.lemmas.Bool.Decides.{Decides-and, Decides-like}
use Rattle.script_fates.proofs.Same.{line_same, same_line}
use Rattle.script_fates.proofs.copying.is_same_line.Goals as goal

pub returns : goal.returns
returns c =
    Decides-like _ (same_line c.args.one.now c.args.other.now) (line_same c.args.one.now c.args.other.now)
    (Decides-and _ _ c.is_same.ensures c.is_same-2.ensures)
