use Rattle.mail_bytes.specs.Told.{OnTold}
use Rattle.queue_states.specs.Searches.{IsSearched}
use Rattle.queue_states.proofs.Gathered.{Noting}
use Rattle.queue_states.proofs.listing.gather.Given as goal

abbrev pub invariant-names : goal.invariant-names
invariant-names g l = record {
  searched : IsSearched
      (record { disk = g.D.CallFs.disk l.initial.disk; calls = g.D.CallFs.calls l.initial.disk; faults = g.D.CallFs.faults l.initial.disk })
      (record { disk = g.D.CallFs.disk l.disk; calls = g.D.CallFs.calls l.disk; faults = g.D.CallFs.faults l.disk });
  noted : OnTold (g.D.CallFs.disk l.initial.disk) (λ d. Noting d l.dir l.last l.initial.found l.found);
}
