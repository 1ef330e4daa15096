use Rattle.std.proofs.Common.{◌∷◌, ℕ, sym, ap, ◌∙◌}
use Rattle.mem_fs.proofs.Parts.{not_prefix, prefix_is}
use Rattle.call_runs.proofs.plain_names.below.Goals as goal

pub returns-in_err-rest-clause-none : goal.returns-in_err-rest-clause-none
returns-in_err-rest-clause-none c = rw c.from_residual.ensures (λ rest. not_prefix c.args.dir.now c.args.name.now rest c.in_err-rest.ensures.cases)

pub returns-then-first-eq47-clause-found : goal.returns-then-first-eq47-clause-found
returns-then-first-eq47-clause-found c =
    let rest = c.in_ok-rest.ensures.cases in
    prefix_is c.args.dir.now c.args.name.now c.in_ok-first.below.now rest.0 (sym rest.1 ∙ c.in_ok-first.ensures.cases.0 ∙ ap (λ (b : ℕ). b ∷ c.in_ok-first.below.now) c.if-first-eq47.true)
