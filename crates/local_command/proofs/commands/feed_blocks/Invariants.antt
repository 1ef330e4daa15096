use Rattle.std.proofs.Common.{take}
use Rattle.outside.specs.declared.sink.Gave.TheVariants.{Done}
use Rattle.local_command.specs.Waiting.{HasFedParts, parts_of}
use Rattle.local_command.proofs.commands.feed_blocks.Given as goal

-- it took the blocks so far
abbrev pub invariant-loop-block : goal.invariant-loop-block
invariant-loop-block g l = HasFedParts l.chan (parts_of (take l.block-index l.blocks)) Done (record { children = g.S.Spawner.children l.initial.spawner; calls = g.S.Spawner.calls l.initial.spawner; faults = g.S.Spawner.faults l.initial.spawner }) (record { children = g.S.Spawner.children l.spawner; calls = g.S.Spawner.calls l.spawner; faults = g.S.Spawner.faults l.spawner })
