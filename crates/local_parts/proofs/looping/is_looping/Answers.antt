use Rattle.std.proofs.Common.{ap, ◌∙◌}
use Rattle.local_parts.specs.inside.Scanning.{is_found, scanned}
use Rattle.local_parts.proofs.Searching.{searched_parts}
use Rattle.local_parts.proofs.looping.is_looping.Goals as goal

pub returns : goal.returns
returns c =
    let line = c.args.line.now in
    let full = c.parts.result.0.now in
    c.is_found.ensures ∙ ap (is_found line) (c.scan_bytes.ensures ∙ ap (λ s. scanned line s c.parts.result.1.now) c.scan_blocks-scan.ensures)
    ∙ searched_parts line _ c.parts.result.1.now c.args.message.now c.parts.ensures
