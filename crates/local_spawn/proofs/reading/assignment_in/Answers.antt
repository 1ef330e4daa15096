use Rattle.std.proofs.Common.{map, ap, ◌∙◌, Some}
use Rattle.local_spawn.specs.Fields.{parsed_by}
use Rattle.local_spawn.proofs.reading.assignment_in.Goals as goal

pub returns-in-None : goal.returns-in-None
returns-in-None c = c.in-None.ensures ∙ ap parsed_by (ap (map (λ piece. piece.now)) c.as_slice.ensures.value ∙ c.in_ok-pieces.ensures)

pub returns : goal.returns
returns c =
    ap (λ a. Some a) c.in_ok-owned-in-Some.ensures
    ∙ c.in-Some.ensures
    ∙ ap parsed_by (ap (map (λ piece. piece.now)) c.as_slice.ensures.value ∙ c.in_ok-pieces.ensures)
