use Rattle.yard_lock.proofs.Whole.{seen_all}
use Rattle.yard_lock.proofs.laws.whole_passes_have_seen_all.Goals as goal

pub returns : goal.returns
returns g c = λ key s r k v at all. seen_all g.Y.Stepped.moves key s r k v at all
