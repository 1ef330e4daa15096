use Rattle.std.proofs.Common.{◌≡◌, ◌<◌, length, get_or, ap, sym, subst, ◌∙◌}
use Rattle.std.proofs.lemmas.List.Elements.{All-get_or}
use Rattle.program_runner.specs.Lines.{HasSome, LineState}
use Rattle.program_runner.proofs.Serves.{took_front}
use Rattle.program_runner.proofs.lines.Lines.take_of.Goals as goal

pub returns-clause-ok : goal.returns-clause-ok
returns-clause-ok c =
    let kept = ap (λ (s : LineState). s.kept) c.self.view_is in
    let inside = subst (λ ks. c.in-Some.place < length ks) (sym kept) c.in-Some.ensures.inside in
    let some : HasSome c.index.result.now = subst HasSome (sym c.index.ensures) (All-get_or HasSome c.self.inside.kept.items c.in-Some.place c.index.result.now inside c.self.invariant) in
    took_front c.index.result.now c.args.chan c.in-Some.place c.args.most _ _ _ c.args.self.now c.leave.new.self (sym c.first_of.ensures.place ∙ c.in-Some.is) c.in-Some.ensures.inside
    (subst (λ ks. c.index.result.now ≡ get_or ks c.in-Some.place c.index.result.now) kept c.index.ensures) c.in_ok-served.ensures.front (c.in_ok-served.ensures.some some) c.leave.ensures
