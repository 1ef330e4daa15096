use Rattle.program_runner.proofs.Told.{failures_told, programs_agree}
use Rattle.program_runner.proofs.laws.lines_tell_the_past.Goals as goal

pub returns-clause-programs : goal.returns-clause-programs
returns-clause-programs c = λ words first last turns slot fresh leads small. programs_agree words first fresh turns last slot leads small

pub returns-clause-failures : goal.returns-clause-failures
returns-clause-failures c = λ words first last turns fresh leads fails. failures_told words first fresh turns last leads fails
