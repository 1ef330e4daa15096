use Rattle.mail_bytes.proofs.Escaped.{unescaped-escaped, no_bad}
use Rattle.mail_bytes.proofs.laws.escapes_are_exact.Goals as goal

pub returns-clause-back : goal.returns-clause-back
returns-clause-back c = unescaped-escaped

pub returns-clause-good : goal.returns-clause-good
returns-clause-good c = no_bad
