use Rattle.std.proofs.Common.{true}
use Rattle.retry_schedule.proofs.Kept.{kept_anew}
use Rattle.retry_schedule.proofs.index.reindex.Goals as goal

pub returns-then-indexed-clause-tells : goal.returns-then-indexed-clause-tells
returns-then-indexed-clause-tells c = c.requires.tells c.if-indexed.true

pub returns-in_err-fill-clause-kept : goal.returns-in_err-fill-clause-kept
returns-in_err-fill-clause-kept c = kept_anew c.args.moments.now c.fill.new.index c.args.indexed.now c.requires.by_number c.fill.ensures.ordered (λ h. let no = c.if-indexed.false in absurd (cc))

pub returns-clause-kept : goal.returns-clause-kept
returns-clause-kept c = kept_anew c.args.moments.now c.fill.new.index true c.requires.by_number c.fill.ensures.ordered (λ _. c.in_ok-fill.ensures.tells)
