use Rattle.std.proofs.Common.{◌≡◌, [], ◌∷◌, List, length, refl, ◌∙◌, arith}
use Rattle.call_fs.specs.declared.calls.Fd.{Fd}
use Rattle.world_events.proofs.Descriptors.{close_told, may_close_last, rest_stays, closed_more, closed_all}
use Rattle.world_events.proofs.keeping.close_all.Goals as goal

empty : (fds : List Fd) → length fds ≡ 0 → fds ≡ []
empty [] h = refl
empty (fd ∷ fds) h = absurd (omega arith)

pub close-requires : goal.close-requires
close-requires g c = may_close_last (g.D.CallFs.disk c.loop-fd.disk) c.loop-fd.descriptors.items c.pop.new.self.items c.in-Some.fd c.in-Some.ensures.items c.loop-fd.invariant.rest

pub loop-fd-preserved : goal.loop-fd-preserved
loop-fd-preserved g c =
    let l = c.loop-fd in
    let rest = c.pop.new.self.items in
    let told = close_told (g.D.CallFs.disk l.disk) (g.D.CallFs.disk c.close.new.self) c.in-Some.fd c.close.result c.close.ensures.went.kind c.close.ensures.went.told in
    record {
      rest = rest_stays (g.D.CallFs.disk l.disk) (g.D.CallFs.disk c.close.new.self) l.descriptors.items rest c.in-Some.fd c.in-Some.ensures.items l.invariant.rest told;
      closed = closed_more (g.D.CallFs.disk c.args.disk.now) (g.D.CallFs.disk l.disk) (g.D.CallFs.disk c.close.new.self) c.args.descriptors.now.items l.descriptors.items rest c.in-Some.fd c.in-Some.ensures.items l.invariant.closed told;
      plan = c.close.ensures.went.plan ∙ l.invariant.plan;
    }

pub returns-clause-closed : goal.returns-clause-closed
returns-clause-closed g c =
    let l = c.loop-fd.descriptors in
    let none : ◌≡◌ {A = List Fd} l.items [] = empty l.items (omega (arith, l.ok.0, c.in_default.ensures.cases.0)) in
    closed_all (g.D.CallFs.disk c.args.disk.now) (g.D.CallFs.disk c.loop-fd.disk) c.args.descriptors.now.items c.loop-fd.descriptors.items none c.loop-fd.invariant.closed
