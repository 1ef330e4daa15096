use Rattle.local_deliver.proofs.Asked.{message}
use Rattle.local_deliver.proofs.asking.commands_get_the_message.Goals as goal

pub returns : goal.returns
returns c = λ args past now ready text run due. message args past now ready text run due
