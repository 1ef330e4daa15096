use Rattle.std.proofs.Common.{◌≡◌, ℕ, ◌+◌, ◌-◌, ◌++◌, length, take, refl, ◌∙◌, subst, arith}
use Rattle.mail_bytes.specs.Told.{Meets}
use Rattle.send_command.proofs.Going.{took_nothing}
use Rattle.send_command.proofs.Prefixes.{all_given, piece_failed, piece_given, within_piece}
use Rattle.send_command.proofs.lines.give_lines.Goals as goal

pub loop-at-init : goal.loop-at-init
loop-at-init g c = record { within = omega arith; taken = took_nothing (g.L.Sink.taken c.args.log.now); same = refl }

pub loop-at-preserved : goal.loop-at-preserved
loop-at-preserved g c =
    let long : (c.loop-at.at + c.first_line.result) - c.loop-at.at ≡ c.first_line.result = omega arith in
    let small = within_piece c.loop-at.at c.first_line.result (length c.args.text.now - c.loop-at.at) c.args.text.now c.first_line.ensures.within in
    record {
      within = omega (arith, small, c.loop-at-test.true);
      taken = subst (λ (n : ℕ). Meets (g.L.Sink.taken c.args.log.now) (g.L.Sink.taken c.give.new.self) (λ first last. last ≡ first ++ take (c.loop-at.at + n) c.args.text.now)) long
          (piece_given c.loop-at.at ((c.loop-at.at + c.first_line.result) - c.loop-at.at) c.args.text.now _ _ _ c.loop-at.invariant.taken c.in-Done.ensures.told);
      same = c.in-Done.ensures.cause.still (λ is. cc) ∙ c.loop-at.invariant.same;
    }

pub returns-in-Failed-clause-told : goal.returns-in-Failed-clause-told
returns-in-Failed-clause-told g c =
    piece_failed c.loop-at.at ((c.loop-at.at + c.first_line.result) - c.loop-at.at) c.args.text.now _ _ _ c.loop-at.invariant.taken c.loop-at.invariant.within c.in-Failed.ensures.told

pub returns-clause-told : goal.returns-clause-told
returns-clause-told g c = all_given c.loop-at.at c.args.text.now _ _ c.loop-at.invariant.taken c.loop-at-test.false
