use Rattle.std.proofs.Common.{◌≡◌, ◌++◌}
use Rattle.std.specs.Fn.{iterate}
use Rattle.mail_bytes.specs.Told.{Meets}
use Rattle.script_maker.specs.Mails.{after_mail}
use Rattle.script_maker.specs.Script.{mails, opening}
use Rattle.script_maker.specs.inside.Pieces.{GivesBut}
use Rattle.script_maker.proofs.making.make.Given as goal

-- all was given of the first mails but what is held
abbrev pub invariant-loop-made : goal.invariant-loop-made
invariant-loop-made g l = record {
  draws : l.draws ≡ iterate after_mail l.made l.seed;
  taken : Meets (g.O.Sink.taken l.initial.out) (g.O.Sink.taken l.out) (GivesBut l.text.items (opening ++ mails l.seed l.made));
  same : g.O.Sink.faults l.out ≡ g.O.Sink.faults l.initial.out;
}
