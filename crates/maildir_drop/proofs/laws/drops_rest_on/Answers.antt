use Rattle.maildir_drop.proofs.Drops.{begun_rests, lands, rests_on, rests_still}
use Rattle.maildir_drop.proofs.laws.drops_rest_on.Goals as goal

pub returns : goal.returns
returns c = record { begins = begun_rests; goes_on = rests_on; lands = lands; stays = rests_still }
