use Rattle.std.proofs.Common.{◌≡◌, ℕ, ◌+◌, List, ◌++◌, refl, sym, ap, ◌∙◌, subst, arith}
use Rattle.mail_bytes.specs.Told.{Meets}
use Rattle.outside.specs.Streams.{Gives}
use Rattle.outside.specs.declared.sink.Gave.TheVariants as gave
use Rattle.script_maker.specs.Mails.{after_mail}
use Rattle.script_maker.specs.Script.{closing, mails, opening, script_of}
use Rattle.script_maker.proofs.Drawn.{iterate_more}
use Rattle.script_maker.proofs.Pieces.{if_err, none_given, on_err, on_ok, piece_given}
use Rattle.script_maker.proofs.Makes.{failed_there, last_failed, last_given, left_there, next_held}
use Rattle.script_maker.proofs.making.make.Goals as goal

pub loop-made-init : goal.loop-made-init
unfolding opening mails
loop-made-init g c = record {
  draws = c.new-draws.ensures;
  taken = none_given c.extend_from_slice.new.self.items opening (g.O.Sink.taken c.args.out.now) (sym (c.in_ok-extend_from_slice.ensures.items ∙ ap (λ (t : List ℕ). t ++ opening) c.new-text.ensures.items));
  same = refl;
}

pub loop-made-preserved : goal.loop-made-preserved
loop-made-preserved g c =
    let k : ℕ = c.loop-made.made in
    let seed : ℕ = c.args.seed in
    record {
      draws = c.in_ok-put_mail.ensures.draws ∙ ap after_mail c.loop-made.invariant.draws ∙ iterate_more after_mail k (k + 1) seed refl;
      taken = piece_given c.put_mail.new.text.items (opening ++ mails seed (k + 1)) _ _
          (next_held seed k c.loop-made.text.items _ _ c.loop-made.invariant.taken c.loop-made.draws c.put_mail.new.text.items c.loop-made.invariant.draws c.in_ok-put_mail.ensures.text)
          c.give_piece.new.text.items (g.O.Sink.taken c.give_piece.new.out) c.in_ok-give_piece.ensures.all;
      same = c.in_ok-give_piece.ensures.cause.still (λ is. cc) ∙ c.loop-made.invariant.same;
    }

pub returns-in_err-put_mail-clause-part : goal.returns-in_err-put_mail-clause-part
returns-in_err-put_mail-clause-part g c =
    if_err _ _ (left_there c.args.seed c.loop-made.made c.loop-made.text.items _ _ c.loop-made.invariant.taken c.args.count (omega arith))

pub returns-in_err-give_piece-clause-part : goal.returns-in_err-give_piece-clause-part
returns-in_err-give_piece-clause-part g c =
    let k : ℕ = c.loop-made.made in
    if_err _ _ (failed_there c.args.seed (k + 1) c.put_mail.new.text.items _ _
    (next_held c.args.seed k c.loop-made.text.items _ _ c.loop-made.invariant.taken c.loop-made.draws c.put_mail.new.text.items c.loop-made.invariant.draws c.in_ok-put_mail.ensures.text)
    c.args.count (g.O.Sink.taken c.give_piece.new.out) (omega arith) c.in_err-give_piece.ensures.part)

pub returns-in_err-extend_from_slice-2-clause-part : goal.returns-in_err-extend_from_slice-2-clause-part
returns-in_err-extend_from_slice-2-clause-part g c =
    if_err _ _ (left_there c.args.seed c.loop-made.made c.loop-made.text.items _ _ c.loop-made.invariant.taken c.args.count (omega arith))

pub returns-clause-all : goal.returns-clause-all
unfolding closing
returns-clause-all g c =
    let on : c.loop-made.made ≡ c.args.count = omega arith in
    let appended : c.extend_from_slice-2.new.self.items ≡ c.loop-made.text.items ++ closing = c.in_ok-extend_from_slice-2.ensures.items in
    let shown : c.deref.result.now ≡ c.loop-made.text.items ++ closing = ◌∙◌ {c = c.loop-made.text.items ++ closing} c.deref.ensures.value appended in
    on_ok _ _ c.give.result
    (λ told. subst (λ (n : ℕ). Meets (g.O.Sink.taken c.args.out.now) (g.O.Sink.taken c.give.new.out) (Gives gave.Done (script_of c.args.seed n))) on
    (last_given c.args.seed c.loop-made.made c.loop-made.text.items _ _ c.loop-made.invariant.taken c.deref.result.now shown (g.O.Sink.taken c.give.new.out) told))
    c.give.ensures.all

pub returns-clause-part : goal.returns-clause-part
unfolding closing
returns-clause-part g c =
    let on : c.loop-made.made ≡ c.args.count = omega arith in
    let appended : c.extend_from_slice-2.new.self.items ≡ c.loop-made.text.items ++ closing = c.in_ok-extend_from_slice-2.ensures.items in
    let shown : c.deref.result.now ≡ c.loop-made.text.items ++ closing = ◌∙◌ {c = c.loop-made.text.items ++ closing} c.deref.ensures.value appended in
    on_err _ _ c.give.result
    (λ told. subst (λ (n : ℕ). Meets (g.O.Sink.taken c.args.out.now) (g.O.Sink.taken c.give.new.out) (Gives gave.Failed (script_of c.args.seed n))) on
    (last_failed c.args.seed c.loop-made.made c.loop-made.text.items _ _ c.loop-made.invariant.taken c.deref.result.now shown (g.O.Sink.taken c.give.new.out) told))
    c.give.ensures.part
