use Rattle.std.proofs.Common.{get_or, sym, ap, ◌∙◌}
use Rattle.local_parts.specs.inside.Scanning.{scan_step}
use Rattle.local_parts.proofs.Searching.{scanned_more}
use Rattle.local_parts.proofs.looping.scan_bytes.Goals as goal

pub loop-byte-preserved : goal.loop-byte-preserved
loop-byte-preserved c =
    c.scan_step-so_far.ensures ∙ ap (λ s. scan_step c.args.line.now s (get_or c.args.bytes.now c.loop-byte.byte-index 0)) c.loop-byte.invariant
    ∙ sym (scanned_more c.args.line.now c.args.scan c.args.bytes.now c.loop-byte.byte-index 0 c.loop-byte-test.true)
