use Rattle.std.proofs.Common.{◌≡◌, ℕ, List, Some, None, Err, sym, ap, ◌∙◌, subst}
use Rattle.std.specs.Prelude.{take}
use Rattle.std.proofs.lemmas.Result.{err_from_is_err_and}
use Rattle.mail_world.specs.declared.actor.Actor.{Actor as Held}
use Rattle.world_events.specs.declared.answers.WorldError.{WorldError}
use Rattle.world_events.specs.declared.answers.WorldError.TheVariants as why
use Rattle.mail_world.specs.Crew.{IsFirst}
use Rattle.mail_world.specs.Generations.{IsFirstAlive, IsNoneAlive}
use Rattle.mail_world.specs.World.{counted}
use Rattle.mail_world.specs.Inside.{known}
use Rattle.mail_world.specs.Places.{place_of}
use Rattle.mail_world.proofs.Begun.{none_alive}
use Rattle.mail_world.proofs.Firsts.{crew_first, one_first, none_first, none_lives}
use Rattle.mail_world.proofs.world.World.start_generation.Goals as goal

pub returns-in-Some-clause-alive : goal.returns-in-Some-clause-alive
returns-in-Some-clause-alive g c =
    let i = c.self.inside in
    let events = i.history.events.items in
    let first : IsFirst (take i.crew i.actors.items) (Some c.in-Some.name) =
    subst (λ (l : List Held). IsFirst (take i.crew l) (Some c.in-Some.name)) c.deref.ensures.value c.in-Some.ensures in
    let here = crew_first i.crew (place_of i.places) i.actors.items (known events) events i.present c.in-Some.name c.self.invariant.world.kept c.self.invariant.piped.few c.self.invariant.piped.many first in
    rw (← c.self.view_is) (λ name. (
      (λ e. let same : c.in-Some.name ≡ name = cc in subst (IsFirstAlive events) same here),
      (λ other. ap (λ (a : List ℕ). Err (why.Alive a)) (one_first events c.in-Some.name name here other)),
    ))

pub begin_generation-requires : goal.begin_generation-requires
begin_generation-requires g c =
    let i = c.self.inside in
    let over : IsFirst (take i.crew i.actors.items) None = subst (λ (l : List Held). IsFirst (take i.crew l) None) c.deref.ensures.value c.in_default.ensures in
    rw (← c.self.view_is) (none_alive (g.D.CallFs.disk i.disk) (place_of i.places) i.crew i.actors.items i.history.events.items i.present i.next_pid (counted i.bounces i.deliveries) c.self.invariant.world
    (none_lives i.crew i.actors.items over) c.self.invariant.piped.few)

pub returns-in_err-begin_generation-clause-alive : goal.returns-in_err-begin_generation-clause-alive
returns-in_err-begin_generation-clause-alive g c =
    let i = c.self.inside in
    let events = i.history.events.items in
    let p = err_from_is_err_and c.from_residual.result c.from_residual.ensures.1 in
    let memory = p.1 ∙ ap (λ (why : WorldError). Err why) p.2 in
    let over : IsFirst (take i.crew i.actors.items) None = subst (λ (l : List Held). IsFirst (take i.crew l) None) c.deref.ensures.value c.in_default.ensures in
    let none : IsNoneAlive events = none_alive (g.D.CallFs.disk i.disk) (place_of i.places) i.crew i.actors.items events i.present i.next_pid (counted i.bounces i.deliveries) c.self.invariant.world
    (none_lives i.crew i.actors.items over) c.self.invariant.piped.few in
    rw (← c.self.view_is) (λ name. (
      (λ e. let both = sym memory ∙ e in absurd (cc)),
      (λ first. absurd (none_first events name none first)),
    ))

pub returns-clause-alive : goal.returns-clause-alive
returns-clause-alive g c =
    let i = c.self.inside in
    let events = i.history.events.items in
    let over : IsFirst (take i.crew i.actors.items) None = subst (λ (l : List Held). IsFirst (take i.crew l) None) c.deref.ensures.value c.in_default.ensures in
    let none : IsNoneAlive events = none_alive (g.D.CallFs.disk i.disk) (place_of i.places) i.crew i.actors.items events i.present i.next_pid (counted i.bounces i.deliveries) c.self.invariant.world
    (none_lives i.crew i.actors.items over) c.self.invariant.piped.few in
    rw (← c.self.view_is) (λ name. (
      (λ e. absurd (cc)),
      (λ first. absurd (none_first events name none first)),
    ))
