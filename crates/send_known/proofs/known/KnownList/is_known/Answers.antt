use Rattle.std.proofs.Common.{◌∙◌}
use Rattle.send_known.proofs.ByNumber.{is_known_is}
use Rattle.send_known.proofs.known.KnownList.is_known.Goals as goal

pub returns : goal.returns
returns c = c.contains_key.ensures ∙ (rw (← c.self.view_is) (is_known_is c.args.n c.self.inside.known.entries c.self.invariant.named))
