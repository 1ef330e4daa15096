use Rattle.std.proofs.Common.{◌≡◌, ◌<◌, ◌^◌}
use Rattle.call_fs.specs.Choices.{junk_bytes}
use Rattle.mem_files.proofs.junk.junk_bytes.Given as goal

abbrev pub invariant-loop-place : goal.invariant-loop-place
invariant-loop-place l = ((l.bytes.items, l.next) ≡ junk_bytes l.file l.x l.place) × (l.next < 2 ^ 32)
