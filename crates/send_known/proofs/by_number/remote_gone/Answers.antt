use Rattle.std.proofs.Common.{ℕ, List, false, refl, ap, ◌∙◌, nat_cmp, rules}
use Rattle.std.specs.BTreeMap.{get}
use Rattle.std.specs.Map.{values_of}
use Rattle.send_known.specs.declared.known.Known.{Known}
use Rattle.send_known.specs.Known as list
use Rattle.send_known.specs.ByNumber.{is_done_in}
use Rattle.send_known.proofs.ByNumber.{changed_is, unchanged_is, keeps_set, name_of, named_set}
use Rattle.send_known.proofs.by_number.remote_gone.Goals as goal

pub returns-in-Some-clause-values : goal.returns-in-Some-clause-values
returns-in-Some-clause-values c =
    let was : Known = c.in-Some.message.now in
    let f : Known → Known = λ k. record k { remote = false } in
    ap (λ (es : List (ℕ × Known)). values_of es) (c.get_mut.follows.holds (f was)).0
    ∙ changed_is (list.remote_gone_at) f (λ ks. refl) (λ i ks. refl) c.args.n c.args.known.now.entries was (search rules) (search rules)

pub returns-in_default-clause-values : goal.returns-in_default-clause-values
returns-in_default-clause-values c =
    ap (λ x. values_of x.entries) c.get_mut.follows.holds-at-none
    ∙ unchanged_is (list.remote_gone_at) (λ k. record k { remote = false }) (λ ks. refl) (λ i ks. refl) c.args.n c.args.known.now.entries (search rules) (search rules)

pub returns-in-Some-clause-named : goal.returns-in-Some-clause-named
returns-in-Some-clause-named c =
    let was : Known = c.in-Some.message.now in
    let now : Known = record was { remote = false } in
    rw (c.get_mut.follows.holds now).0 (named_set c.args.n c.args.known.now.entries now c.requires (name_of c.args.n c.args.known.now.entries was c.requires (search rules)))

pub returns-in-Some-clause-done : goal.returns-in-Some-clause-done
returns-in-Some-clause-done c = λ m far.
    let was : Known = c.in-Some.message.now in
    let now : Known = record was { remote = false } in
    keeps_set c.args.known.now (c.get_mut.follows.lender now) c.args.n now ((c.get_mut.follows.holds now).3 (search rules)) m far

pub returns-in_default-clause-done : goal.returns-in_default-clause-done
returns-in_default-clause-done c = λ m far. ap (λ x. is_done_in (get nat_cmp x m)) c.get_mut.follows.holds-at-none

pub returns-in-Some-clause-ordered : goal.returns-in-Some-clause-ordered
returns-in-Some-clause-ordered c =
    let was : Known = c.in-Some.message.now in
    let now : Known = record was { remote = false } in
    (c.get_mut.follows.holds now).4
