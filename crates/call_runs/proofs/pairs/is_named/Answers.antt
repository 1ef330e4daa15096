use Rattle.std.proofs.Common.{◌≡◌, ℕ, List, Some, bytes_eq, ap, ◌∙◌, refl, arith, rules}
use Rattle.call_fs.proofs.Maps.{bytes_eq-decides}
use Rattle.mem_fs.specs.Tables.{at_name}
use Rattle.mem_files.proofs.Tables.{place_of_found}
use Rattle.call_runs.proofs.Lookups.{none_more}
use Rattle.call_runs.proofs.pairs.is_named.Goals as goal

pub loop-one-preserved : goal.loop-one-preserved
loop-one-preserved c =
    none_more (λ (e : List ℕ × ℕ). at_name c.args.names.now e.0 ≡ Some c.args.number) c.args.names.now c.loop-one.one-index c.one-item.result (omega (arith, c.loop-one-test.true)) c.one-item.is
    (λ is. let yes = c.is_number.ensures.1 (search rules) in let no = c.if-is_number.false in absurd (cc)) c.loop-one.invariant

pub returns-then-is_number : goal.returns-then-is_number
returns-then-is_number c = (λ h. (c.one-item.result.0, let is = c.is_number.ensures.0 c.if-is_number.true in search rules), λ h. refl)

pub returns : goal.returns
returns c = (
  λ h. absurd (cc),
  λ named. let place = place_of_found bytes_eq bytes_eq-decides c.args.names.now named.0 c.args.number named.1 in
      absurd (c.loop-one.invariant place.0 (named.0, c.args.number) (omega (arith, place.1, c.loop-one-test.false)) place.1
      (ap (λ (e : List ℕ × ℕ). at_name c.args.names.now e.0) (place.2 (named.0, c.args.number)) ∙ named.1)),
)
