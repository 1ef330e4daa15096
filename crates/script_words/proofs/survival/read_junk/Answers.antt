use Rattle.std.proofs.Common.{◌≡◌, List, ℕ, Contains, false, true, refl, sym, subst, ◌∙◌}
use Rattle.std.specs.Prelude.{codes}
use Rattle.std.proofs.lemmas.Result.{err_from_is_err_and}
use Rattle.mail_bytes.specs.Decimal.{digits}
use Rattle.script_words.proofs.Cuts.{contains-cut, same-cut, lacks}
use Rattle.script_words.proofs.survival.read_junk.Goals as goal

pub returns-in_err-word-clause-err : goal.returns-in_err-word-clause-err
returns-in_err-word-clause-err c =
    let p = err_from_is_err_and c.from_residual.result c.from_residual.ensures.1 in
    rw p.1 (λ seed small is. c.in_err-word.ensures.err (subst (λ (t : List ℕ). Contains t 32) (sym is) (contains-cut (codes "junk") (digits seed) 32)))

pub returns-then-not-is_junk-clause-err : goal.returns-then-not-is_junk-clause-err
returns-then-not-is_junk-clause-err c = λ seed small is.
    let cut = c.in_ok-word.ensures.ok in
    let same = same-cut c.in_ok-word.word.now c.in_ok-word.seed.now (codes "junk") (digits seed) 32 cut.without (lacks (codes "junk") 32 refl) (sym cut.parts ∙ is) in
    let yes : c.is_junk.result ≡ true = c.is_junk.ensures.1 same.0 in
    let both : false ≡ true = sym c.if-not-is_junk.true ∙ yes in
    absurd (cc)
