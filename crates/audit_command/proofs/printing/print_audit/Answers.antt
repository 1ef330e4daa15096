use Rattle.audit_command.proofs.Audits.{refused}
use Rattle.audit_command.proofs.printing.print_audit.Goals as goal

pub returns-in-Err-clause-audited : goal.returns-in-Err-clause-audited
returns-in-Err-clause-audited g c = refused _ _ _ c.in-Err.why c.status_of.result c.status_of.ensures c.in-Err.ensures.searched
