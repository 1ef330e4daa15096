use Rattle.std.proofs.Common.{refl}
use Rattle.mail_bytes.specs.Decimal.{digits}
use Rattle.script_traces.proofs.Counts.{all_counted, words_counted}
use Rattle.script_traces.proofs.laws.each_is_counted.Goals as goal

pub returns-clause-all : goal.returns-clause-all
returns-clause-all c = all_counted

pub returns-clause-words : goal.returns-clause-words
returns-clause-words c = words_counted

pub returns-clause-row : goal.returns-clause-row
unfolding digits
returns-clause-row c = refl
