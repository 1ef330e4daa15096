use Rattle.std.proofs.Common.{take}
use Rattle.mail_world.specs.LivingMails.{AreLivingMails}
use Rattle.scenario.specs.Working.{mail_lines, HasBegun}
use Rattle.qmail_top.proofs.around_threads.begin_work.Given as goal

-- the mails of the lines so far have started
abbrev pub invariant-loop-line : goal.invariant-loop-line
invariant-loop-line l = HasBegun l.script.opening (mail_lines (take l.line-index l.line-items)) l.world × AreLivingMails l.world.events l.mails.items
