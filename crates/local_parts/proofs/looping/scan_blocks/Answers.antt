use Rattle.std.proofs.Common.{List, ℕ, ap, ◌∙◌, Vec, Global}
use Rattle.local_parts.specs.inside.Scanning.{scanned}
use Rattle.local_parts.proofs.Searching.{blocks_more}
use Rattle.local_parts.proofs.looping.scan_blocks.Goals as goal

pub loop-block-preserved : goal.loop-block-preserved
loop-block-preserved c =
    let items : Vec ℕ Global → List ℕ = λ v. v.items in
    blocks_more c.args.line.now c.args.blocks.now c.loop-block.block-index c.block-item.result c.loop-block.scan _ c.loop-block-test.true c.loop-block.invariant
    (c.scan_bytes-scan.ensures ∙ ap (scanned c.args.line.now c.loop-block.scan) (c.as_slice.ensures.value ∙ ap items c.block-item.is))
