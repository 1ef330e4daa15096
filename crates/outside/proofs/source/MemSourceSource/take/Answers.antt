use Rattle.std.proofs.Common.{◌≡◌, ◌∙◌, ap, sym, subst, length, get_or, arith}
use Rattle.outside.specs.Forms.{SourceForm, IsWithin, rest_from}
use Rattle.outside.proofs.Pieces.{rest_given}
use Rattle.outside.proofs.source.MemSourceSource.take.Goals as goal

pub returns-clause-told : goal.returns-clause-told
returns-clause-told c =
    let pieces = c.self.inside.pieces.items in
    let at = c.next_place-at.result.0 in
    let given = c.next_place-at.result.1 in
    let piece = c.as_slice-2.result.now in
    let value = c.as_slice.ensures.value in
    let within : IsWithin pieces at given = subst (λ t. IsWithin t at given) value c.next_place-at.ensures.within in
    let read : piece ≡ get_or pieces at piece = subst (λ t. t ≡ get_or pieces at t) (sym c.as_slice-2.ensures) c.index.ensures in
    ap (λ (s : SourceForm). s.left) (sym c.self.view_is)
    ∙ ap (λ t. rest_from t c.self.inside.at c.self.inside.given) (sym value)
    ∙ sym c.next_place-at.ensures.same
    ∙ ap (λ t. rest_from t at given) value
    ∙ rest_given pieces at given c.copy_prefix-count.result (length c.args.into.now) piece c.copy_prefix-count.new.into
    (omega arith) within read c.copy_prefix-count.ensures.count c.copy_prefix-count.ensures.copied
