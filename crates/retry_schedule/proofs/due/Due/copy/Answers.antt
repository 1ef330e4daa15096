use Rattle.std.proofs.Common.{◌≡◌, ℕ, List, sym, subst, ap, ◌∙◌, nat_cmp}
use Rattle.std.specs.Map.{keys_of}
use Rattle.std.specs.List.Sorted.{IsStrictlySortedBy}
use Rattle.std.proofs.lemmas.Map.Entries.{entries_from_clone}
use Rattle.retry_schedule.specs.Index.{listed}
use Rattle.retry_schedule.proofs.Kept.{kept_untold}
use Rattle.retry_schedule.proofs.due.Due.copy.Goals as goal

pub invariant_of-result : goal.invariant_of-result
invariant_of-result c =
    let same : c.in_ok-clone.field-0.entries ≡ c.self.inside.moments.entries = entries_from_clone _ _ (λ x y is. is) (λ x y is. is) c.self.inside.moments.entries c.in_ok-clone.field-0.entries c.in_ok-clone.ensures.cases in
    kept_untold c.in_ok-clone.field-0 c.new.result (subst (λ (es : List (ℕ × ℕ)). IsStrictlySortedBy nat_cmp (keys_of es)) (sym same) c.self.invariant.by_number) c.new.ensures.ordered

pub returns : goal.returns
returns c =
    let same : c.in_ok-clone.field-0.entries ≡ c.self.inside.moments.entries = entries_from_clone _ _ (λ x y is. is) (λ x y is. is) c.self.inside.moments.entries c.in_ok-clone.field-0.entries c.in_ok-clone.ensures.cases in
    ap (λ (es : List (ℕ × ℕ)). listed es) same ∙ c.self.view_is
