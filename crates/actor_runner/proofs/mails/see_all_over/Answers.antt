use Rattle.std.proofs.Common.{rules, ◌≡◌, ◌∙◌, ◌<◌, get_or, arith}
use mathlib.Core.Logic.{dite}
use native.Mathlib.Decide.{ℕ_discrete}
use Rattle.std.proofs.lemmas.List.{get_or_default}
use Rattle.actor_runner.proofs.Turns.{over_longer}
use Rattle.actor_runner.proofs.mails.see_all_over.Goals as goal

pub loop-i-preserved : goal.loop-i-preserved
loop-i-preserved g c =
    let v = c.loop-i.invariant in (
      search rules,
      search rules,
      search rules,
      λ k d l. dite (ℕ_discrete k c.loop-i.i)
          (λ e.
          let same : c.index-mails-i.result ≡ get_or c.args.mails.now c.loop-i.i d = c.index-mails-i.is ∙ get_or_default c.args.mails.now c.loop-i.i c.index-mails-i.result d c.loop-i-test.true in
          rw (e, ← same) c.in_ok-run_mail.ensures.over)
          (λ n. let less : k < c.loop-i.i = omega (arith, n) in over_longer _ _ _ c.run_mail.ensures.prefix (v.3 k d less)),
    )
