use Rattle.std.proofs.Common.{sym, ◌∙◌}
use Rattle.std.proofs.lemmas.Bool.{eqb-true}
use Rattle.world_pipes.proofs.Renews.{renewed_first}
use Rattle.world_pipes.proofs.seating.renew.Goals as goal

pub returns-then-is_empty : goal.returns-then-is_empty
returns-then-is_empty c =
    let none = sym c.args.mouths.now.ok.0 ∙ eqb-true c.args.mouths.now.len 0 (sym c.is_empty.ensures ∙ c.if-is_empty.true) in
    renewed_first c.args.mouths.now.items c.args.fresh.items none (c.requires.fresh none)
