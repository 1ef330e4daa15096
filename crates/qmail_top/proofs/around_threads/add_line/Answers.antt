use Rattle.std.proofs.Common.{◌≡◌, true, ap, subst, sym}
use Rattle.std.proofs.lemmas.Result.{on_ok_weaker}
use Rattle.script_lines.specs.declared.line.Line.{Line}
use Rattle.scenario.specs.Working.{is_mail_line, HasPlayedSilently}
use Rattle.qmail_top.proofs.Working.{no_mail}
use Rattle.qmail_top.proofs.around_threads.add_line.Goals as goal

pub returns-in-Mail-clause-other : goal.returns-in-Mail-clause-other
returns-in-Mail-clause-other c =
    let one : is_mail_line c.args.line.now ≡ true = ap is_mail_line c.in-Mail.is in
    on_ok_weaker c.add_mail.result (λ mails is. absurd (cc)) c.add_mail.ensures.mails

pub returns-in-Mail-clause-played : goal.returns-in-Mail-clause-played
returns-in-Mail-clause-played c =
    on_ok_weaker c.add_mail.result (λ played mail d plan h playing. subst (λ (l : Line). HasPlayedSilently d c.add_mail.new.world l plan h) (sym c.in-Mail.is) (played d plan h playing)) c.add_mail.ensures.played

pub returns-in_default-clause-played : goal.returns-in_default-clause-played
returns-in_default-clause-played c = λ is. absurd (no_mail c.args.line.now c.in_default.not-Mail is)
