use Rattle.std.proofs.Common.{List, ap, ap₂, ◌∙◌}
use Rattle.std.specs.List.{count_by}
use Rattle.std.proofs.lemmas.Result.{on_ok_weaker}
use Rattle.world_events.specs.declared.books.Entry.{Entry}
use Rattle.script_traces.specs.Fates.{sum_line, was_accepted}
use Rattle.scenario.specs.Deeds.{history_of}
use Rattle.scenario.proofs.summing.sum.Goals as goal

pub returns : goal.returns
returns c =
    on_ok_weaker c.put_sum.result
    (λ put. (
      sum_line (count_by was_accepted c.entries.result.now) c.deref.result.now,
      put,
      λ d plan h playing. ap₂ sum_line
          (ap (λ (es : List Entry). count_by was_accepted es) (c.entries.ensures ∙ c.books.ensures.models d (history_of h) playing.is))
          (c.deref.ensures.value ∙ c.in_ok-fates.ensures d plan h playing),
    ))
    c.put_sum.ensures
