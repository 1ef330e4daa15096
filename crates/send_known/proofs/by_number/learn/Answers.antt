use Rattle.std.proofs.Common.{ℕ, List, true, ap, sym, subst, ◌∙◌, nat_cmp, rules}
use Rattle.std.specs.BTreeMap.{get}
use Rattle.std.specs.Map.{values_of}
use Rattle.std.proofs.lemmas.Result.{err_from_is_err_and}
use Rattle.send_known.specs.declared.known.Known.{Known}
use Rattle.send_known.specs.ByNumber.{Covers}
use Rattle.send_known.proofs.ByNumber.{kept_learned, kept_listed, kept_unlearned, learned_values, still_listed}
use Rattle.send_known.proofs.by_number.learn.Goals as goal

pub returns-in_err-list_if-clause-kept : goal.returns-in_err-list_if-clause-kept
returns-in_err-list_if-clause-kept c =
    kept_listed c.args.known.now c.args.done.now.items c.list_if.new.done.items true true c.requires
    (λ told. subst (λ (l : List ℕ). Covers (get nat_cmp c.args.known.now) l) (sym c.in_err-list_if.ensures.err) (c.requires.covers told))

pub returns-clause-kept : goal.returns-clause-kept
returns-clause-kept c =
    kept_learned c.args.known.now c.insert.new.self c.args.done.now.items c.list_if.new.done.items c.args.message c.requires c.insert.ensures.ordered c.in_ok-insert.ensures.entries c.in_ok-insert.ensures.updates
    (c.in_ok-list_if.ensures.ok ∙ search rules)

pub returns-clause-ok : goal.returns-clause-ok
returns-clause-ok c =
    ap (λ (es : List (ℕ × Known)). values_of es) c.in_ok-insert.ensures.entries ∙ learned_values c.args.message c.args.known.now.entries c.requires.named

pub returns-in_err-insert-clause-kept : goal.returns-in_err-insert-clause-kept
returns-in_err-insert-clause-kept c =
    kept_unlearned c.args.known.now c.insert.new.self c.args.done.now.items c.list_if.new.done.items c.requires c.insert.ensures.ordered c.in_err-insert.ensures.err
    (still_listed c.args.message c.args.done.now.items c.list_if.new.done.items (c.in_ok-list_if.ensures.ok ∙ search rules))

pub returns-in_err-insert-clause-err : goal.returns-in_err-insert-clause-err
returns-in_err-insert-clause-err c =
    let p = err_from_is_err_and c.from_residual-in_err-insert.result c.from_residual-in_err-insert.ensures.1 in
    rw p.1 (ap (λ (es : List (ℕ × Known)). values_of es) c.in_err-insert.ensures.err)
