use Rattle.std.proofs.Common.{refl, inl, inr, ap, map}
use Rattle.std.specs.Arc.{arc_value}
use Rattle.outside.specs.declared.sink.Gave.TheVariants as gave
use Rattle.proc_runner.specs.Running.{JoinsFed}
use Rattle.proc_runner.proofs.Held.{done, failed, goes_on, runs_none}
use Rattle.proc_runner.proofs.children.ChildrenSpawner.feed.Goals as goal

pub returns-in_default-clause-fed : goal.returns-in_default-clause-fed
returns-in_default-clause-fed g c = inr (runs_none _ _ _ c.in_default.ensures.none, ap (map _) c.count_failure.ensures.same.0, refl)

pub returns-then-give-clause-fed : goal.returns-then-give-clause-fed
returns-then-give-clause-fed g c = inl (goes_on _ _ _ c.in-Some.place c.index_mut.result.now c.give.new.self c.args.chan (JoinsFed c.args.bytes.now gave.Done)
    c.in-Some.ensures.within c.index_mut.ensures.value c.in-Some.ensures.some refl c.give.ensures.same.0 (ap arc_value c.give.ensures.same.1)
    (done c.give.result _ _ _ c.if-give.true c.give.ensures.fed c.give.ensures.open))

pub returns-clause-fed : goal.returns-clause-fed
returns-clause-fed g c = inl (goes_on _ _ _ c.in-Some.place c.index_mut.result.now c.give.new.self c.args.chan (JoinsFed c.args.bytes.now gave.Failed)
    c.in-Some.ensures.within c.index_mut.ensures.value c.in-Some.ensures.some c.count_failure-2.ensures.same.0 c.give.ensures.same.0 (ap arc_value c.give.ensures.same.1)
    (failed c.give.result _ _ _ c.if-give.false c.give.ensures.fed))
