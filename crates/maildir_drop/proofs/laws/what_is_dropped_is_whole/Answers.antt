use Rattle.maildir_drop.proofs.Drops.{whole_before, whole_after}
use Rattle.maildir_drop.proofs.laws.what_is_dropped_is_whole.Goals as goal

pub returns : goal.returns
returns c = record { before = whole_before; after = whole_after }
