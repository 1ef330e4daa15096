use Rattle.std.proofs.Common.{[], ◌∷◌, ◌++◌, length, rules, tests, ap, eqb}
use Rattle.std.proofs.lemmas.List.{length_push}
use Rattle.std.proofs.lemmas.Iterator.Splits.{YieldsList-from_slice_split}
use Rattle.std.proofs.lemmas.Iterator.Consumers.{YieldsList-turn, YieldsList-end}
use Rattle.bounce_record.specs.Notes.{lines, notes_of}
use Rattle.bounce_record.proofs.Counting.{goes_on, all_found}
use Rattle.bounce_record.proofs.notes.notes_of.Goals as goal

pub loop-line-init : goal.loop-line-init
unfolding notes_of
loop-line-init c = ap (λ t. t ++ notes_of c.args.bytes.now) c.new-found.ensures.items

pub loop-line-preserved : goal.loop-line-preserved
loop-line-preserved c =
    let t = YieldsList-turn (YieldsList-from_slice_split _ (λ b. eqb b 10) c.args.bytes.now (cc) (cc) (cc) (λ x b q k. search (rules, tests)))
    c.loop-line.yielded _ c.loop-line.yielded_by _ _ c.in-Some.line c.in-Some.is c.next.ensures.steps in
    goes_on c.loop-line.found.items c.put_named.new.found.items (notes_of c.args.bytes.now) c.loop-line.before.now c.in-Some.line.now (lines c.args.bytes.now)
    (length c.loop-line.yielded) (length (c.loop-line.yielded ++ c.in-Some.line ∷ [])) t.0 t.1 (length_push c.loop-line.yielded c.in-Some.line)
    c.in_ok-put_named.ensures c.loop-line.invariant

pub returns : goal.returns
returns c =
    let t = YieldsList-end (YieldsList-from_slice_split _ (λ b. eqb b 10) c.args.bytes.now (cc) (cc) (cc) (λ x b q k. search (rules, tests)))
    c.loop-line.yielded _ c.loop-line.yielded_by _ _ c.in-None.is c.next.ensures.steps in
    all_found c.loop-line.found.items (notes_of c.args.bytes.now) c.loop-line.before.now (lines c.args.bytes.now) (length c.loop-line.yielded) t.1 c.loop-line.invariant
