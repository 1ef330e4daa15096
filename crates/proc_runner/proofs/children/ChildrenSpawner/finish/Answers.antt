use Rattle.std.proofs.Common.{◌≡◌, refl, inl, inr, ap}
use Rattle.std.specs.Arc.{arc_value}
use Rattle.child_input.specs.Feedings.{after_end}
use Rattle.proc_runner.proofs.Held.{goes_on, runs_none}
use Rattle.proc_runner.proofs.children.ChildrenSpawner.finish.Goals as goal

pub returns-in-Some-clause-ended : goal.returns-in-Some-clause-ended
returns-in-Some-clause-ended g c = inl (goes_on _ _ _ c.in-Some.place c.index_mut.result.now c.finish.new.self c.args.chan (λ before after. after ≡ after_end before)
    c.in-Some.ensures.within c.index_mut.ensures.value c.in-Some.ensures.some refl c.finish.ensures.same.0 (ap arc_value c.finish.ensures.same.1) c.finish.ensures.fed)

pub returns-in_default-clause-ended : goal.returns-in_default-clause-ended
returns-in_default-clause-ended g c = inr (runs_none _ _ _ c.in_default.ensures.none, refl)
