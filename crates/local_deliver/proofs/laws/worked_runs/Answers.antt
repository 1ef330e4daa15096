use Rattle.std.proofs.Common.{refl}
use Rattle.address_rules.specs.Files.{controls_of, first_fault}
use Rattle.dot_qmail.specs.Choice.{chosen}
use Rattle.dot_qmail.specs.Lines.{plan_of}
use Rattle.local_parts.specs.Course.{course_of}
use Rattle.local_parts.specs.Forwarding.{injection_of}
use Rattle.local_parts.specs.Host.{host_in}
use Rattle.local_parts.specs.Inputs.{message_in}
use Rattle.local_parts.specs.Looping.{is_looping}
use Rattle.mail_bytes.specs.Decimal.{digits, number_of, value}
use Rattle.maildir_drop.specs.Names.{is_name}
use Rattle.local_deliver.proofs.laws.worked_runs.Goals as goal

pub returns-clause-refused : goal.returns-clause-refused
unfolding message_in number_of value digits
returns-clause-refused c = refl

pub returns-clause-dropped : goal.returns-clause-dropped
unfolding controls_of first_fault chosen plan_of course_of injection_of host_in message_in is_looping digits number_of value is_name
returns-clause-dropped c = refl

pub returns-clause-forwarded : goal.returns-clause-forwarded
unfolding controls_of first_fault chosen plan_of course_of injection_of host_in message_in is_looping digits number_of value is_name
returns-clause-forwarded c = refl
