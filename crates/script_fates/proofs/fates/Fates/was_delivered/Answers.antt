use Rattle.std.proofs.Common.{◌∙◌, rules, tests}
use Rattle.std.proofs.lemmas.Iterator.{YieldsList-from_slice}
use Rattle.std.proofs.lemmas.Iterator.Search.{any_from_yields_List}
use Rattle.script_fates.specs.declared.fates.Tenure.{Tenure}
use Rattle.script_fates.specs.Fates.{spot_of}
use Rattle.script_fates.proofs.Lives.{was_delivered_is, was_so}
use Rattle.script_fates.proofs.fates.Fates.was_delivered.Goals as goal

pub returns : goal.returns
returns c = λ books h is.
    let xs = c.args.self.now.over.items in
    let own = spot_of c.args.spot in
    any_from_yields_List (λ (t : Tenure). was_so own c.args.mail.now c.args.n t) _ _ c.any.result c.any.ensures.ran (YieldsList-from_slice xs cc) (λ x b q k. search (rules, tests))
    ∙ was_delivered_is c.args.self.now books own c.args.mail.now c.args.n h is
