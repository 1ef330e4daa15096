use Rattle.script_lines.proofs.OneLine.{one_line}
use Rattle.script_lines.proofs.SaidContents.{one_script}
use Rattle.script_lines.proofs.Scripts.{no_refusal}
use Rattle.script_lines.proofs.laws.scripts_are_read_one_way.Goals as goal

pub returns-clause-line : goal.returns-clause-line
returns-clause-line c = one_line

pub returns-clause-script : goal.returns-clause-script
returns-clause-script c = one_script

pub returns-clause-unrefused : goal.returns-clause-unrefused
returns-clause-unrefused c = no_refusal
