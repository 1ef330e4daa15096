-- Of which kind those are that start injectors and await their input.
use Rattle.std.proofs.Common.{◌≡◌, ℕ, List, Option, Some, refl, sym, ap, ◌∙◌, subst}
use Rattle.std.specs.Prelude.{IsSome}
use Rattle.std.specs.List.{slice_get}
use Rattle.call_fs.specs.Past.{IsRunBy}
use Rattle.world_events.specs.declared.event.Event.{Event as Kept}
use Rattle.world_pipes.specs.declared.mouths.Mouths.{Mouths}
use Rattle.mail_world.specs.declared.actor.Actor.{Actor as Held}
use Rattle.mail_world.specs.ByKind.{IsMail}
use Rattle.mail_world.specs.History.{Actor, State, next_of}
use Rattle.mail_world.specs.Inside.{HasBorneLast, AreActors, ArePiped}
use Rattle.mail_world.specs.Pipework.Tenant.{Runs}
use Rattle.mail_world.proofs.Feeders.{IsFeeder, birth_feeds, feeder_bears}
use Rattle.mail_world.proofs.Leaving.{has_place}
use Rattle.mail_world.proofs.Lists.{some_at}

-- each known actor ran by its table
pub known_run : (places : List ℕ → Option ℕ) (actors : List Held) (s : State) (events : List Kept) (p : ℕ) (a : List ℕ) (z : Actor) → AreActors places actors s events p → s.actors a ≡ Some z
    → IsRunBy (next_of z.program) z.past
known_run places actors s events p a z kept there =
    let j = has_place places actors s events p a kept (subst (λ (o : Option Actor). IsSome o) (sym there) refl) in
    let x = some_at (λ (x : Held). x.name ≡ a) (slice_get actors j.0) (kept.named a j.0 j.1) in
    let m = kept.members j.0 x.0 x.1 in
    let both : ◌≡◌ {A = Option Actor} (Some m.actor) (Some z) = sym m.is ∙ ap s.actors x.2 ∙ there in
    let one : m.actor ≡ z = cc in
    subst (λ (a : Actor). IsRunBy (next_of a.program) a.past) one m.run

-- so who has just started an injector feeds it
pub borne_feeds : (places : List ℕ → Option ℕ) (actors : List Held) (s : State) (events : List Kept) (p : ℕ) → AreActors places actors s events p
    → (a : List ℕ) (z : Actor) → s.actors a ≡ Some z → HasBorneLast z.past → IsFeeder z.program
borne_feeds places actors s events p kept a z there borne = birth_feeds z.program z.past (known_run places actors s events p a z kept there) borne

-- and who runs in a slot of a feeder is an injector
pub fed_mail : (crew : ℕ) (mouths : List Mouths) (actors : List Held) (s : State) (events : List Kept) → ArePiped crew mouths actors s events → (a : List ℕ) (z : Actor) (d : ℕ) (c : List ℕ) (u : Actor)
    → s.actors a ≡ Some z → IsFeeder z.program → s.pipework.programs a d ≡ Some (Runs c) → s.actors c ≡ Some u → (d ≡ 0) × IsMail u.program
fed_mail crew mouths actors s events piped a z d c u is feeds runs there =
    let born = piped.born a d c runs in
    let both : ◌≡◌ {A = Option Actor} (Some born.child) (Some u) = sym born.is ∙ there in
    let one : born.child ≡ u = cc in
    let bears = feeder_bears z.program d born.child.program feeds (born.bears z is) in
    (bears.0, subst (λ (a : Actor). IsMail a.program) one bears.1)
