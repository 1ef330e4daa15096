use Rattle.std.proofs.Common.{[], ◌∷◌, ◌++◌, ap, ◌∙◌}
use Rattle.bounce_record.specs.Notes.{softened, note_text}
use Rattle.bounce_record.proofs.Softening.{written_over}
use Rattle.bounce_record.proofs.notes.note.Goals as goal

pub returns : goal.returns
unfolding note_text
returns c =
    let text = c.in_ok-text.text in
    c.in_ok-push.ensures.items
    ∙ ap (λ t. t ++ 10 ∷ []) (written_over text.len text.items c.soften.new.text c.deref_mut.result.now c.deref_mut.ensures.value text.ok.0 c.soften.ensures)
    ∙ ap (λ t. softened t ++ 10 ∷ []) c.in_ok-text.ensures
