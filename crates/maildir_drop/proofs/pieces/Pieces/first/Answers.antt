use Rattle.std.proofs.Common.{◌≡◌, ◌<◌, List, ℕ, [], length, take, get_or, sym, ap, subst, ◌∙◌}
use Rattle.maildir_drop.proofs.Cutting.{next}
use Rattle.maildir_drop.proofs.pieces.Pieces.first.Goals as goal

pub returns-in-Some : goal.returns-in-Some
returns-in-Some c =
    let i = c.self.inside in
    let found = c.in-Some.ensures.lookup.3 in
    let items : c.deref.result.now ≡ i.pieces.items = c.deref.ensures.value in
    let within : i.next < length i.pieces.items = subst (λ (pieces : List (List ℕ)). i.next < length pieces) items found.0 in
    let here = next i.pieces.items i.next c.self.invariant.cut within in
    c.as_slice.ensures ∙ found.1 [] ∙ ap (λ (pieces : List (List ℕ)). get_or pieces i.next []) items ∙ sym here.first ∙ ap (take 8192) c.self.view_is
