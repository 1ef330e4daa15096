use Rattle.mail_bytes.specs.Told.{OnTold}
use Rattle.queue_states.specs.Searches.{IsSearched}
use Rattle.queue_states.proofs.Listed.{Counted}
use Rattle.queue_states.proofs.listing.count_names.Given as goal

abbrev pub invariant-loop-count : goal.invariant-loop-count
invariant-loop-count g l = record {
  searched : IsSearched
      (record { disk = g.D.CallFs.disk l.initial.disk; calls = g.D.CallFs.calls l.initial.disk; faults = g.D.CallFs.faults l.initial.disk })
      (record { disk = g.D.CallFs.disk l.disk; calls = g.D.CallFs.calls l.disk; faults = g.D.CallFs.faults l.disk });
  counted : OnTold (g.D.CallFs.disk l.initial.disk) (λ d. Counted d l.dir l.last l.count);
}
