use Rattle.std.proofs.Common.{inr, refl, arith}
use Rattle.audit_command.proofs.Audits.{part_taken}
use Rattle.audit_command.proofs.printing.print.Goals as goal

pub returns-in-Failed : goal.returns-in-Failed
returns-in-Failed g c = record {
  known = inr refl;
  all = λ done. absurd (omega arith);
  part = λ failed. part_taken (g.O.Sink.taken c.args.out.now) (g.O.Sink.taken c.give.new.self) c.args.text.now (rw c.in-Failed.is at c.give.ensures.told);
  failed = λ failed. c.give.ensures.cause.rose c.in-Failed.is;
}
