use Rattle.std.proofs.Common.{◌≡◌, vec_len}
use Rattle.mail_bytes.specs.Told.{OnTold, Meets}
use Rattle.world_events.specs.Opened.{AreOpen, shut}
use Rattle.world_events.proofs.keeping.close_all.Given as goal

-- the rest is open; to close it is to close all from the beginning
abbrev pub invariant-loop-fd : goal.invariant-loop-fd
invariant-loop-fd g l = record {
  rest : OnTold (g.D.CallFs.disk l.disk) (λ now. AreOpen now l.descriptors.items);
  closed : Meets (g.D.CallFs.disk l.initial.disk) (g.D.CallFs.disk l.disk) (λ before now. shut l.descriptors.items now ≡ shut l.initial.descriptors.items before);
  plan : g.D.CallFs.plan l.disk ≡ g.D.CallFs.plan l.initial.disk;
}

abbrev pub decreases-loop-fd : goal.decreases-loop-fd
decreases-loop-fd g l = vec_len l.descriptors
