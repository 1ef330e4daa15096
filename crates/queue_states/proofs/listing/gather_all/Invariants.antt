use Rattle.std.proofs.Common.{take, All, Contains}
use Rattle.mail_bytes.specs.Told.{OnTold}
use Rattle.queue_states.specs.Searches.{IsSearched}
use Rattle.queue_states.specs.Found.{Gathers}
use Rattle.queue_states.proofs.listing.gather_all.Given as goal

abbrev pub invariant-loop-dir : goal.invariant-loop-dir
invariant-loop-dir g l = record {
  searched : IsSearched
      (record { disk = g.D.CallFs.disk l.initial.disk; calls = g.D.CallFs.calls l.initial.disk; faults = g.D.CallFs.faults l.initial.disk })
      (record { disk = g.D.CallFs.disk l.disk; calls = g.D.CallFs.calls l.disk; faults = g.D.CallFs.faults l.disk });
  there : OnTold (g.D.CallFs.disk l.initial.disk) (λ d. All (Contains d.dirs) (take l.dir-index l.dirs));
  gathered : OnTold (g.D.CallFs.disk l.initial.disk) (λ d. Gathers d (take l.dir-index l.dirs) l.initial.found l.found);
}
