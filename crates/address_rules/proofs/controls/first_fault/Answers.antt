use Rattle.std.proofs.Common.{sym, ap, drop, ◌∙◌, ◌≡◌, arith}
use Rattle.address_rules.specs.Files.{all_files, first_fault}
use Rattle.address_rules.proofs.FileLemmas.{fault_found, fault_passed, first_from}
use Rattle.address_rules.proofs.controls.first_fault.Goals as goal

pub returns-in-Some : goal.returns-in-Some
unfolding first_fault
returns-in-Some c =
    sym (fault_found c.args.files.now all_files c.loop-file.file-index _ c.in-Some.line c.loop-file-test.true (sym c.fault_of.ensures ∙ c.in-Some.is))
    ∙ c.loop-file.invariant

pub loop-file-preserved : goal.loop-file-preserved
loop-file-preserved c = sym (fault_passed c.args.files.now all_files c.loop-file.file-index _ c.loop-file-test.true (sym c.fault_of.ensures ∙ c.in_default.is)) ∙ c.loop-file.invariant

pub returns : goal.returns
unfolding first_fault
returns c =
    let ended : 12 ≡ c.loop-file.file-index = omega arith in
    ap (λ i. first_from c.args.files.now (drop i all_files)) ended ∙ c.loop-file.invariant
