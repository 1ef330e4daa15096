use Rattle.std.proofs.Common.{◌≡◌, ◌*◌, ◌++◌}
use Rattle.script_maker.specs.Mails.{draw, recipients_after}
use Rattle.script_maker.proofs.mails.put_recipients.Given as goal

abbrev pub invariant-loop-place : goal.invariant-loop-place
invariant-loop-place l = record {
  text : l.text.items ≡ l.initial.text.items ++ recipients_after l.initial.draws l.place;
  draws : l.draws ≡ draw l.initial.draws (2 * l.place);
}
