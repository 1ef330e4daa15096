use Rattle.call_fs.proofs.Coming.{means_kind}
use Rattle.call_fs.proofs.Meanings.{means_missing, means_taken, means_unchanged, means_fault, means_look}
use Rattle.call_fs.proofs.laws.answers_mean.Goals as goal

pub returns-clause-kind : goal.returns-clause-kind
returns-clause-kind c = means_kind

pub returns-clause-not_there : goal.returns-clause-not_there
returns-clause-not_there c = means_missing

pub returns-clause-exists : goal.returns-clause-exists
returns-clause-exists c = means_taken

pub returns-clause-unchanged : goal.returns-clause-unchanged
returns-clause-unchanged c = means_unchanged

pub returns-clause-fault : goal.returns-clause-fault
returns-clause-fault c = means_fault

pub returns-clause-looks : goal.returns-clause-looks
returns-clause-looks c = means_look
