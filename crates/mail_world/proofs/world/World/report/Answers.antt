use Rattle.std.proofs.Common.{◌≡◌, ◌<◌, ◌&&◌, List, length, Bool, true, false, Ok, Err, codes, sym, ap, ◌∙◌, subst}
use Rattle.std.specs.Prelude.{take}
use Rattle.std.specs.List.{slice_get}
use Rattle.std.proofs.lemmas.Result.{err_from_is_err_and}
use Rattle.world_pipes.specs.declared.mouths.Mouths.{Mouths}
use Rattle.world_pipes.specs.Mouths.{is_remote}
use Rattle.mail_world.specs.declared.actor.Actor.{Actor as Held}
use Rattle.world_events.specs.declared.answers.WorldError.{WorldError}
use Rattle.mail_world.specs.Wired.{tenant_in}
use Rattle.mail_world.specs.Crew.{lasts}
use Rattle.mail_world.specs.Generations.{lives_in, is_unreported}
use Rattle.mail_world.specs.Places.{place_of}
use Rattle.mail_world.specs.Inside.{known}
use Rattle.mail_world.proofs.Reported.{spawner_piped, unreported_is, may_report, no_report, waits_exactly, not_waiting, memory_waits, ok_waits}
use Rattle.mail_world.proofs.world.World.report.Goals as goal
use Rattle.mail_world.proofs.world.World.report.Goals.{After-is_unreported}

pub is_unreported-requires : goal.is_unreported-requires
is_unreported-requires g c =
    let i = c.self.inside in
    λ lives. subst (λ (l : List Mouths). 3 < length l) (sym c.deref-2.ensures.value)
    (spawner_piped i.crew i.mouths.items i.actors.items (known i.history.events.items) i.history.events.items c.self.invariant.piped
    (subst (λ (l : List Held). lasts (slice_get (take i.crew l) 3) ≡ true) c.deref.ensures.value (sym c.spawner_lives-lives.ensures ∙ lives)))

-- what the test tells
told : (g : _) (c : After-is_unreported g) →
    (lives_in ((known c.self.inside.history.events.items).actors (codes "rspawn")) && is_unreported ((known c.self.inside.history.events.items).pipework.programs (codes "rspawn") c.args.slot)) ≡ c.is_unreported.result
told g c =
    let i = c.self.inside in
    sym (c.is_unreported.ensures ∙ ap (λ (t : Bool). t && is_remote false (tenant_in (slice_get c.deref-2.result.now 3) c.args.slot)) c.spawner_lives-lives.ensures
    ∙ ap (λ (l : List Held). lasts (slice_get (take i.crew l) 3) && is_remote false (tenant_in (slice_get c.deref-2.result.now 3) c.args.slot)) c.deref.ensures.value
    ∙ ap (λ (l : List Mouths). lasts (slice_get (take i.crew i.actors.items) 3) && is_remote false (tenant_in (slice_get l 3) c.args.slot)) c.deref-2.ensures.value
    ∙ unreported_is i.crew (place_of i.places) i.mouths.items i.actors.items (known i.history.events.items) i.history.events.items i.present c.self.invariant.world.kept c.self.invariant.piped c.args.slot)

pub returns-then-not-is_unreported-clause-waits : goal.returns-then-not-is_unreported-clause-waits
returns-then-not-is_unreported-clause-waits g c =
    let i = c.self.inside in
    let at = (goal.at.returns-then-not-is_unreported-clause-waits g c).After-is_unreported in
    rw (← c.self.view_is) (waits_exactly (known i.history.events.items) c.args.slot c.actor_name.result c.actor_name.ensures
    (no_report (known i.history.events.items) c.args.slot (told g at ∙ c.if-not-is_unreported.true)))

pub end_program-requires : goal.end_program-requires
end_program-requires g c =
    let i = c.self.inside in
    let at = (goal.at.end_program-requires g c).After-is_unreported in
    rw (← c.self.view_is) (may_report (known i.history.events.items) c.args.slot (told g at ∙ c.if-not-is_unreported.false))

pub returns-in_err-end_program-clause-waits : goal.returns-in_err-end_program-clause-waits
returns-in_err-end_program-clause-waits g c =
    let i = c.self.inside in
    let at = (goal.at.returns-in_err-end_program-clause-waits g c).After-is_unreported in
    let p = err_from_is_err_and c.from_residual.result c.from_residual.ensures.1 in
    rw (← c.self.view_is) (not_waiting c.from_residual.result (known i.history.events.items) c.args.slot (memory_waits c.from_residual.result (p.1 ∙ ap (λ (why : WorldError). Err why) p.2))
    (may_report (known i.history.events.items) c.args.slot (told g at ∙ c.if-not-is_unreported.false)))

pub returns-clause-waits : goal.returns-clause-waits
returns-clause-waits g c =
    let i = c.self.inside in
    let at = (goal.at.returns-clause-waits g c).After-is_unreported in
    rw (← c.self.view_is) (not_waiting (Ok tt) (known i.history.events.items) c.args.slot (ok_waits tt)
    (may_report (known i.history.events.items) c.args.slot (told g at ∙ c.if-not-is_unreported.false)))
