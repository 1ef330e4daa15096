use Rattle.std.proofs.Common.{ℕ, List, refl, sym, ap, ◌∙◌, subst, rules}
use Rattle.std.specs.Map.{values_of}
use Rattle.send_known.specs.declared.known.Known.{Known}
use Rattle.send_known.specs.Known as list
use Rattle.send_known.specs.ByNumber.{IsKept}
use Rattle.send_known.proofs.ByNumber.{changed_is, unchanged_is, kept_set}
use Rattle.send_known.proofs.by_number.put_off.Goals as goal

pub returns-in-Some-clause-values : goal.returns-in-Some-clause-values
returns-in-Some-clause-values c =
    let was : Known = c.in-Some.message.now in
    let f : Known → Known = λ k. record k { finish_at = c.args.moment } in
    ap (λ (es : List (ℕ × Known)). values_of es) (c.get_mut.follows.holds (f was)).0
    ∙ changed_is (λ o ks. list.put_off_at o c.args.moment ks) f (λ ks. refl) (λ i ks. refl) c.args.n c.args.known.now.entries was (search rules) (search rules)

pub returns-in_default-clause-values : goal.returns-in_default-clause-values
returns-in_default-clause-values c =
    ap (λ x. values_of x.entries) c.get_mut.follows.holds-at-none
    ∙ unchanged_is (λ o ks. list.put_off_at o c.args.moment ks) (λ k. record k { finish_at = c.args.moment }) (λ ks. refl) (λ i ks. refl) c.args.n c.args.known.now.entries (search rules) (search rules)

pub returns-in-Some-clause-kept : goal.returns-in-Some-clause-kept
returns-in-Some-clause-kept c = λ done listed kept.
    let was : Known = c.in-Some.message.now in
    let now : Known = record was { finish_at = c.args.moment } in
    kept_set c.args.known.now (c.get_mut.follows.lender now) done listed c.args.n was now kept (search rules) refl refl (c.get_mut.follows.holds now)

pub returns-in_default-clause-kept : goal.returns-in_default-clause-kept
returns-in_default-clause-kept c = λ done listed kept. subst (λ m. IsKept m done listed) (sym c.get_mut.follows.holds-at-none) kept
