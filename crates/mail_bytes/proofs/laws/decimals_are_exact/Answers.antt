use Rattle.mail_bytes.proofs.Digits.{digits_all, digits_injective, number_of-digits, number_of_some, value-digits}
use Rattle.mail_bytes.proofs.laws.decimals_are_exact.Goals as goal

pub returns-clause-read : goal.returns-clause-read
returns-clause-read c = number_of-digits

pub returns-clause-written : goal.returns-clause-written
returns-clause-written c = number_of_some

pub returns-clause-value : goal.returns-clause-value
returns-clause-value c = value-digits

pub returns-clause-distinct : goal.returns-clause-distinct
returns-clause-distinct c = digits_injective

pub returns-clause-only : goal.returns-clause-only
returns-clause-only c = digits_all
