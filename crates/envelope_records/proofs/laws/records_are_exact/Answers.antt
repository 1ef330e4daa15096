use Rattle.envelope_records.proofs.ChannelRecords.{one_list, whole_no_fault, one_letter, one_unended, apart}
use Rattle.envelope_records.proofs.laws.records_are_exact.Goals as goal

pub returns : goal.returns
returns c = record { one = one_list; whole = whole_no_fault; letter = one_letter; unended = one_unended; apart = apart }
