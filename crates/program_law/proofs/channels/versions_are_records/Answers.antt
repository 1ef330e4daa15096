use Rattle.program_law.proofs.Channel.Records.{versions_are}
use Rattle.program_law.proofs.channels.versions_are_records.Goals as goal

pub returns : goal.returns
returns c = versions_are
