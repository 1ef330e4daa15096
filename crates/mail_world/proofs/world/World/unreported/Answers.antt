use Rattle.std.proofs.Common.{◌≡◌, ◌<◌, ◌&&◌, List, length, Bool, true, false, sym, ◌∙◌, subst}
use Rattle.std.specs.Prelude.{take}
use Rattle.std.specs.List.{slice_get}
use Rattle.world_pipes.specs.declared.mouths.Mouths.{Mouths}
use Rattle.world_pipes.specs.Mouths.{is_remote, IsLowest}
use Rattle.mail_world.specs.declared.actor.Actor.{Actor as Held}
use Rattle.mail_world.specs.Wired.{tenant_in}
use Rattle.mail_world.specs.Crew.{lasts}
use Rattle.mail_world.specs.Places.{place_of}
use Rattle.mail_world.specs.Inside.{known}
use Rattle.mail_world.proofs.Reported.{spawner_piped, lowest_told}
use Rattle.mail_world.proofs.world.World.unreported.Goals as goal

pub first_unreported-requires : goal.first_unreported-requires
first_unreported-requires g c =
    let i = c.self.inside in
    λ lives. subst (λ (l : List Mouths). 3 < length l) (sym c.deref-2.ensures.value)
    (spawner_piped i.crew i.mouths.items i.actors.items (known i.history.events.items) i.history.events.items c.self.invariant.piped
    (subst (λ (l : List Held). lasts (slice_get (take i.crew l) 3) ≡ true) c.deref.ensures.value (sym c.spawner_lives-lives.ensures ∙ lives)))

pub returns : goal.returns
returns g c =
    let i = c.self.inside in
    let here = subst (λ (l : List Held). IsLowest (λ d. lasts (slice_get (take i.crew l) 3) && is_remote false (tenant_in (slice_get c.deref-2.result.now 3) d)) c.args.from c.first_unreported.result)
    c.deref.ensures.value
    (subst (λ (t : Bool). IsLowest (λ d. t && is_remote false (tenant_in (slice_get c.deref-2.result.now 3) d)) c.args.from c.first_unreported.result) c.spawner_lives-lives.ensures c.first_unreported.ensures) in
    let low = subst (λ (l : List Mouths). IsLowest (λ d. lasts (slice_get (take i.crew i.actors.items) 3) && is_remote false (tenant_in (slice_get l 3) d)) c.args.from c.first_unreported.result)
    c.deref-2.ensures.value here in
    rw (← c.self.view_is) (lowest_told i.crew (place_of i.places) i.mouths.items i.actors.items (known i.history.events.items) i.history.events.items i.present c.args.from c.first_unreported.result
    c.self.invariant.world.kept c.self.invariant.piped low)
