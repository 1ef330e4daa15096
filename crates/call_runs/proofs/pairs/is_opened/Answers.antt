use Rattle.std.proofs.Common.{◌≡◌, ℕ, Some, nat_eq, ap, ◌∙◌, refl, arith, rules}
use Rattle.std.proofs.lemmas.Bool.Decides.{Decides-eqb}
use Rattle.std.specs.Option.{option_map}
use Rattle.call_fs.specs.Disk.{Open}
use Rattle.mem_files.specs.Tables.{at_number}
use Rattle.mem_files.proofs.Tables.{place_of_found}
use Rattle.mem_fs.proofs.Steps.{open_on}
use Rattle.call_runs.proofs.Lookups.{none_more}
use Rattle.call_runs.proofs.pairs.is_opened.Goals as goal

pub loop-one-preserved : goal.loop-one-preserved
loop-one-preserved c =
    none_more (λ (e : ℕ × Open). option_map (λ (o : Open). o.number) (at_number c.args.opens.now e.0) ≡ Some c.args.number) c.args.opens.now c.loop-one.one-index c.one-item.result (omega (arith, c.loop-one-test.true)) c.one-item.is
    (λ is. let yes = c.is_number.ensures.1 (search rules) in let no = c.if-is_number.false in absurd (cc)) c.loop-one.invariant

pub returns-then-is_number : goal.returns-then-is_number
returns-then-is_number c = (λ h. (c.one-item.result.0, let is = c.is_number.ensures.0 c.if-is_number.true in search rules), λ h. refl)

pub returns : goal.returns
returns c = (
  λ h. absurd (cc),
  λ opened. let at = open_on (at_number c.args.opens.now opened.0) c.args.number opened.1 in
      let place = place_of_found nat_eq Decides-eqb c.args.opens.now opened.0 at.0 at.1 in
      absurd (c.loop-one.invariant place.0 (opened.0, at.0) (omega (arith, place.1, c.loop-one-test.false)) place.1
      (ap (λ (e : ℕ × Open). option_map (λ (o : Open). o.number) (at_number c.args.opens.now e.0)) (place.2 (opened.0, at.0)) ∙ opened.1)),
)
