use Rattle.std.proofs.Common.{[], ◌∷◌, ◌++◌, length, rules, tests, eqb, sym, ◌∙◌}
use Rattle.std.specs.List.{filter_map}
use Rattle.std.proofs.lemmas.List.{length_push}
use Rattle.std.proofs.lemmas.Iterator.Splits.{YieldsList-from_slice_split}
use Rattle.std.proofs.lemmas.Iterator.Consumers.{YieldsList-turn, YieldsList-end}
use Rattle.dot_qmail.specs.Lines.{lines, line_of}
use Rattle.dot_qmail.proofs.LineLemmas.{goes_on, all_told, planned, unplanned}
use Rattle.dot_qmail.proofs.line.plan.Goals as goal

pub loop-line-preserved : goal.loop-line-preserved
loop-line-preserved c =
    let t = YieldsList-turn (YieldsList-from_slice_split _ (λ b. eqb b 10) c.args.bytes.now (cc) (cc) (cc) (λ x b q k. search (rules, tests)))
    c.loop-line.yielded _ c.loop-line.yielded_by _ _ c.in-Some.line c.in-Some.is c.next.ensures.steps in
    goes_on c.loop-line.told.items c.put_line.new.told.items (filter_map line_of (lines c.args.bytes.now)) c.in-Some.line.now (lines c.args.bytes.now)
    (length c.loop-line.yielded) (length (c.loop-line.yielded ++ c.in-Some.line ∷ [])) t.0 t.1 (length_push c.loop-line.yielded c.in-Some.line)
    c.in_ok-put_line.ensures c.loop-line.invariant

pub returns-then-begins_blank-clause-err : goal.returns-then-begins_blank-clause-err
returns-then-begins_blank-clause-err c = unplanned c.args.bytes.now (sym c.begins_blank.ensures ∙ c.if-begins_blank.true)

pub returns-clause-ok : goal.returns-clause-ok
returns-clause-ok c =
    let t = YieldsList-end (YieldsList-from_slice_split _ (λ b. eqb b 10) c.args.bytes.now (cc) (cc) (cc) (λ x b q k. search (rules, tests)))
    c.loop-line.yielded _ c.loop-line.yielded_by _ _ c.in-None.is c.next.ensures.steps in
    planned c.args.bytes.now c.loop-line.told.items (sym c.begins_blank.ensures ∙ c.if-begins_blank.false)
    (all_told c.loop-line.told.items (filter_map line_of (lines c.args.bytes.now)) (lines c.args.bytes.now) (length c.loop-line.yielded) t.1 c.loop-line.invariant)
