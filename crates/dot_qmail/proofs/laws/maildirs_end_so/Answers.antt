use Rattle.dot_qmail.proofs.Directories.{leads_slashed, maildir_slashed}
use Rattle.dot_qmail.proofs.laws.maildirs_end_so.Goals as goal

pub returns : goal.returns
returns c = record { lines = maildir_slashed; paths = leads_slashed }
