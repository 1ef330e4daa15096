use Rattle.std.proofs.Common.{List, ◌∷◌, ◌++◌, ℕ, length, sym, ap, ◌∙◌, arith}
use Rattle.std.proofs.lemmas.Bool.{eqb-true, eq-eqb, false≢true}
use Rattle.script_words.proofs.DirsAbove.{behind_prefix, not_prefix, one_rest, from_above, to_above}
use Rattle.script_words.proofs.opening.is_above.Goals as goal

pub returns-in_default : goal.returns-in_default
returns-in_default c = (λ yes. absurd (cc), λ h. let leads = from_above c.args.dir.now c.args.path.now h in absurd (not_prefix c.args.dir.now c.args.path.now (47 ∷ leads.0) c.in_default.ensures.cases leads.1))

pub returns-in-Some-split_first : goal.returns-in-Some-split_first
returns-in-Some-split_first c =
    let dir = c.args.dir.now in
    let path = c.args.path.now in
    let prefix = c.in-Some.ensures.cases in
    let tail = c.in-Some-split_first.field-0-1.now in
    let parts = c.in-Some-split_first.ensures.cases.0 in (
      λ slash. to_above dir path tail (behind_prefix dir path c.in-Some.rest.now prefix.0 prefix.1 ∙ ap (λ (t : List ℕ). dir ++ t) (parts ∙ ap (λ (b : ℕ). b ∷ tail) (eqb-true _ _ slash))),
      λ h. let leads = from_above dir path h in let same = sym parts ∙ one_rest dir path c.in-Some.rest.now (47 ∷ leads.0) prefix.1 leads.1 in eq-eqb c.in-Some-split_first.first.now 47 (cc),
    )

pub returns-in-None : goal.returns-in-None
returns-in-None c = (
  λ yes. absurd (false≢true yes),
  λ h.
      let leads = from_above c.args.dir.now c.args.path.now h in
      let same = ap length (one_rest c.args.dir.now c.args.path.now c.in-Some.rest.now (47 ∷ leads.0) c.in-Some.ensures.cases.1 leads.1) in
      let none = c.in-None.ensures.cases in
      absurd (omega arith),
)
