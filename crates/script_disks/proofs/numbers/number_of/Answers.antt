use Rattle.std.proofs.Common.{◌≡◌, ◌++◌, ◌∷◌, [], ℕ, Option, Some, ◌∙◌, ap, subst, append_assoc}
use Rattle.std.specs.Prelude.{◌↔◌}
use Rattle.queue_paths.specs.Names.{Name, Part, used_name}
use Rattle.queue_paths.specs.Names.Name.{Of}
use Rattle.script_disks.proofs.numbers.number_of.Goals as goal

pub returns : goal.returns
returns c =
    let text =
    c.deref.ensures.value
    ∙ c.in_ok-extend_from_slice.ensures.items
    ∙ ap (λ t. t ++ c.args.name.now) (c.in_ok-push.ensures.items ∙ ap (λ t. t ++ 47 ∷ []) c.in_ok-whole.ensures.items)
    ∙ append_assoc c.args.dir.now (47 ∷ []) c.args.name.now in
    subst (λ (o : Option Name). (n : ℕ) → (c.number_in.result ≡ Some n) ↔ ((part : Part) × (o ≡ Some (Of part n)))) (c.parse.ensures ∙ ap used_name text) c.number_in.ensures
