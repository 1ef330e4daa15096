use Rattle.std.proofs.Common.{◌≡◌, take}
use Rattle.mail_bytes.specs.Blocks.{joined}
use Rattle.local_parts.specs.inside.Scanning.{scanned}
use Rattle.local_parts.specs.declared.looping.Scan.TheVariants.{Like}
use Rattle.local_parts.proofs.looping.scan_blocks.Given as goal

abbrev pub invariant-loop-block : goal.invariant-loop-block
invariant-loop-block l = l.scan ≡ scanned l.line (Like 0) (joined (take l.block-index l.blocks))
