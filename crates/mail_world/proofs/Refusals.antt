-- When a step or a start is refused.
use Rattle.std.proofs.Common.{◌≡◌, ◌≢◌, ◌↔◌, ℕ, List, Option, Some, None, IsSomeAnd, Result, Ok, Err, sym, ap, ◌∙◌, subst, reverse}
use Rattle.std.specs.List.{slice_get}
use Rattle.mail_world.specs.declared.actor.Actor.{Actor as Held}
use Rattle.world_events.specs.declared.answers.WorldError.{WorldError}
use Rattle.world_events.specs.declared.answers.WorldError.TheVariants as why
use Rattle.world_events.specs.declared.event.Event.{Event as Kept}
use Rattle.mail_world.specs.History.{State}
use Rattle.mail_world.specs.World.{EndsAt, span_of}
use Rattle.mail_world.specs.World.Span.{Unborn, Lasting, OverAt}
use Rattle.mail_world.specs.Inside.{AreActors, span_by}
use Rattle.mail_world.specs.Acting.{IsNoLiving}
use Rattle.mail_world.proofs.Lists.{some_at}

-- an actor that lives has no end
pub no_end : (places : List ℕ → Option ℕ) (actors : List Held) (s : State) (events : List Kept) (p : ℕ) (a : List ℕ) (i : ℕ)
    → AreActors places actors s events p → places a ≡ Some i → IsSomeAnd (slice_get actors i) (λ x. x.ended ≡ None) → (at : ℕ) → ¬ EndsAt events a at
no_end places actors s events p a i crew place lives at ends =
    let named = some_at (λ (x : Held). x.name ≡ a) (slice_get actors i) (crew.named a i place) in
    let living : named.0.ended ≡ None = subst (λ (o : Option Held). IsSomeAnd o (λ x. x.ended ≡ None)) named.1 lives in
    let lasts = ap (λ (a : List ℕ). span_of a (reverse events)) (sym named.2) ∙ (crew.members i named.0 named.1).spans ∙ ap span_by living in
    let both : Lasting ≡ OverAt at = sym lasts ∙ ends in absurd (cc)

-- if it has no end, `Gone` never comes
pub not_gone : {T : Type 0} (r : Result T WorldError) (events : List Kept) (a : List ℕ) → ((name : List ℕ) (at : ℕ) → r ≢ Err (why.Gone name at)) → ((at : ℕ) → ¬ EndsAt events a at)
    → (name : List ℕ) (at : ℕ) → (r ≡ Err (why.Gone name at)) ↔ ((name ≡ a) × EndsAt events a at)
not_gone r events a other none name at = (λ e. absurd (other name at e), λ h. absurd (none at h.1))

-- if there is no living actor of the name
pub gone_exactly : {T : Type 0} (places : List ℕ → Option ℕ) (actors : List Held) (s : State) (events : List Kept) (p : ℕ) (a : List ℕ) (error : WorldError)
    → AreActors places actors s events p → IsNoLiving places actors a error
    → (name : List ℕ) (at : ℕ) → (◌≡◌ {A = Result T WorldError} (Err error) (Err (why.Gone name at))) ↔ ((name ≡ a) × EndsAt events a at)
gone_exactly {T} places actors s events p a (why.Gone b here) crew none name at =
    let named = some_at (λ (x : Held). x.name ≡ a) (slice_get actors none.1) (crew.named a none.1 none.2) in
    let ended : named.0.ended ≡ Some here = subst (λ (o : Option Held). IsSomeAnd o (λ x. x.ended ≡ Some here)) named.1 none.3 in
    let over : span_of a (reverse events) ≡ OverAt here = ap (λ (a : List ℕ). span_of a (reverse events)) (sym named.2) ∙ (crew.members none.1 named.0 named.1).spans ∙ ap span_by ended in (
      (λ e. let same : b ≡ name = cc in let there : here ≡ at = cc in (sym same ∙ none.0, over ∙ ap OverAt there)),
      (λ h.
          let both : OverAt here ≡ OverAt at = sym over ∙ h.1 in
          let there : here ≡ at = cc in
          let is = none.0 in
          let same = h.0 in
          cc),
    )
gone_exactly {T} places actors s events p a (why.Alive b) crew none name at = absurd none
gone_exactly {T} places actors s events p a (why.NotWaiting b) crew none name at = absurd none
gone_exactly {T} places actors s events p a why.Unknown crew none name at = (λ e. absurd (cc), λ h. let both : Unborn ≡ OverAt at = sym (crew.strangers a none).unborn ∙ h.1 in absurd (cc))
gone_exactly {T} places actors s events p a why.Taken crew none name at = absurd none
gone_exactly {T} places actors s events p a (why.Past now) crew none name at = absurd none
gone_exactly {T} places actors s events p a why.Memory crew none name at = absurd none

-- out of memory is another refusal, and an Ok is none
pub memory_other : {T : Type 0} (r : Result T WorldError) → r ≡ Err why.Memory → (name : List ℕ) (at : ℕ) → r ≢ Err (why.Gone name at)
memory_other r is name at e = let both = sym is ∙ e in absurd (cc)

pub ok_other : {T : Type 0} (x : T) → (name : List ℕ) (at : ℕ) → ◌≢◌ {A = Result T WorldError} (Ok x) (Err (why.Gone name at))
ok_other x name at e = absurd (cc)
