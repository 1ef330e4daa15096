use Rattle.maildir_drop.proofs.Forms.{name_is}
use Rattle.maildir_drop.proofs.names.is_name.Goals as goal

pub returns : goal.returns
returns c = name_is c.args.name.now c.is_name.result c.is_name.ensures
