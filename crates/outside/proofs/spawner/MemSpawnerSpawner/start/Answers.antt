use Rattle.std.proofs.Common.{◌≡◌, ◌+◌, length, ap, ◌∙◌, arith, length-append}
use Rattle.outside.specs.Forms.{SpawnForm}
use Rattle.outside.proofs.Channels.{channels_more}
use Rattle.outside.proofs.spawner.MemSpawnerSpawner.start.Goals as goal

pub returns-in-Ok-clause-chan : goal.returns-in-Ok-clause-chan
returns-in-Ok-clause-chan c =
    let n = length c.args.self.now.started in
    let held = ap (λ (s : SpawnForm). length s.started) c.self.view_is in
    let next = c.in-Some.ensures.some.1 ∙ ap (λ k. k + 1) held in
    let added = ap (λ (s : SpawnForm). length s.started) c.in-Ok.ensures.ok ∙ length-append c.self.inside.started.items _ ∙ ap (λ k. k + 1) held in
    rw added (channels_more n c.in-Some.chan next)
