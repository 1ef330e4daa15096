use Rattle.std.proofs.Common.{◌+◌, length, Some, None, refl, sym, ◌∙◌}
use Rattle.std.proofs.lemmas.Bool.{eqb-true, eqb-false}
use Rattle.dot_qmail.proofs.Choosing.{bare, best_choice, no_choice}
use Rattle.dot_qmail.proofs.choice.choose.Goals as goal

pub returns-in-Some-clause-ok : goal.returns-in-Some-clause-ok
returns-in-Some-clause-ok c =
    bare c.args.names.now c.args.dash.now c.args.ext.now (Some c.in-Some.place) (eqb-true (length c.args.dash.now) 0 (sym c.is_empty.ensures ∙ c.if-is_empty.true)) (sym c.in-Some.ensures)

pub returns-in-None-clause-ok : goal.returns-in-None-clause-ok
returns-in-None-clause-ok c =
    bare c.args.names.now c.args.dash.now c.args.ext.now None (eqb-true (length c.args.dash.now) 0 (sym c.is_empty.ensures ∙ c.if-is_empty.true)) (sym c.in-None.ensures)

pub returns-in-Some-best_name-clause-ok : goal.returns-in-Some-best_name-clause-ok
returns-in-Some-best_name-clause-ok c =
    best_choice c.args.names.now c.args.dash.now c.args.ext.now c.as_slice.result.now (6 + length c.args.dash.now) c.in-Some-best_name.top
    (eqb-false (length c.args.dash.now) 0 (sym c.is_empty.ensures ∙ c.if-is_empty.false)) (c.as_slice.ensures.value ∙ c.in_ok-full.ensures) refl c.in-Some-best_name.ensures

pub returns-clause-err : goal.returns-clause-err
returns-clause-err c =
    no_choice c.args.names.now c.args.dash.now c.args.ext.now c.as_slice.result.now (6 + length c.args.dash.now)
    (eqb-false (length c.args.dash.now) 0 (sym c.is_empty.ensures ∙ c.if-is_empty.false)) (c.as_slice.ensures.value ∙ c.in_ok-full.ensures) refl c.in-None-best_name.ensures
