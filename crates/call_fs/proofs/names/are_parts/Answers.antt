use Rattle.std.proofs.Common.{◌==◌, rules, tests}
use Rattle.std.proofs.lemmas.Iterator.{cases_from_all}
use Rattle.std.proofs.lemmas.Iterator.Splits.{YieldsList-from_slice_split}
use Rattle.call_fs.specs.Names.{IsPart}
use Rattle.call_fs.proofs.Parts.{decided_by_parts}
use Rattle.call_fs.proofs.names.are_parts.Goals as goal

pub returns : goal.returns
returns c =
    decided_by_parts c.all.result _
    (cases_from_all _ _ c.all.result IsPart (λ part. ¬ (IsPart part)) c.all.ensures.ran
    (YieldsList-from_slice_split _ (λ b. b == 47) c.args.text.now c.split.ensures.rest c.split.ensures.done c.split.ensures.closure (λ x r q k. search (rules, tests)))
    (λ x q k. search (rules, tests)) (λ x q k. search (rules, tests)))
