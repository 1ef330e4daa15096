use Rattle.std.proofs.Common.{sym, ◌∙◌, rules, tests}
use Rattle.std.proofs.lemmas.Iterator.{YieldsList-from_slice}
use Rattle.std.proofs.lemmas.Iterator.Search.{any_from_yields_List}
use Rattle.script_fates.specs.Fates.{spot_of}
use Rattle.script_fates.specs.Lasting.{is_spot}
use Rattle.script_fates.proofs.Lives.{any_map}
use Rattle.script_fates.proofs.fates.Tenure.has.Goals as goal

pub returns : goal.returns
returns c =
    let xs = c.args.self.now.delivered.items in
    let own = spot_of c.args.spot in
    any_from_yields_List (λ x. is_spot own (spot_of x)) _ _ c.any.result c.any.ensures.ran (YieldsList-from_slice xs cc) (λ x b q k. search (rules, tests))
    ∙ sym (any_map (is_spot own) spot_of xs)
