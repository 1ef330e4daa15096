use Rattle.std.proofs.Common.{◌≡◌, ◌+◌, ℕ, length, ap, ◌∙◌, arith}
use Rattle.std.proofs.lemmas.List.{get_or_default}
use Rattle.mem_files.proofs.Counting.{next_missing, lower_not_missing, from_1_more, if_some_from}
use Rattle.mem_files.proofs.numbers.least_missing.Goals as goal

pub returns-then-entry-number-clause-some : goal.returns-then-entry-number-clause-some
returns-then-entry-number-clause-some g c =
    let es = c.args.entries.now in
    let e = c.index-entries-at.result in
    let i = c.loop-at.at in (
      omega arith,
      next_missing es c.requires i c.loop-at.invariant (λ d within is. c.if-entry-number.true (ap (λ (x : ℕ × _). x.0) (c.index-entries-at.is ∙ get_or_default es i e d within) ∙ is)),
      lower_not_missing es c.requires i (omega arith) c.loop-at.invariant,
    )

pub loop-at-preserved : goal.loop-at-preserved
loop-at-preserved g c = from_1_more c.args.entries.now c.loop-at.at c.index-entries-at.result c.loop-at-test.true c.index-entries-at.is c.if-entry-number.false c.loop-at.invariant

pub returns-clause-some : goal.returns-clause-some
returns-clause-some g c =
    let es = c.args.entries.now in
    let i = c.loop-at.at in
    let all : i ≡ length es = omega arith in
    if_some_from _ c.checked_add.result (length es + 1) _ c.checked_add.ensures
    (rw (← all) (omega arith, next_missing es c.requires i c.loop-at.invariant (λ d within. absurd (omega arith)), lower_not_missing es c.requires i (omega arith) c.loop-at.invariant))
