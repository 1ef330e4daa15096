use Rattle.std.proofs.Common.{◌≡◌, ℕ, ◌+◌, Bool, true, false, not, Option, Some, None, is_some, refl, sym, ap, ◌∙◌}
use Rattle.std.specs.Prelude.{option_map}
use Rattle.actor_names.specs.MailNames.{IsMailName}
use Rattle.mail_world.specs.World.{Seen, was_started}
use Rattle.mail_world.specs.Places.{place_of}
use Rattle.mail_world.specs.Inside.{place_by, among_all}
use Rattle.mail_world.proofs.Members.{mail_is_none}
use Rattle.mail_world.proofs.Seats.{seat_none}
use Rattle.mail_world.proofs.world.World.is_free.Goals as goal

some_map : (crew : ℕ) (o : Option ℕ) → is_some (option_map (λ i. crew + i) o) ≡ is_some o
some_map crew None = refl
some_map crew (Some i) = refl

not_true : (r : Bool) → not r ≡ false → r ≡ true
not_true true is = refl
not_true false is = absurd cc

pub returns-then-is_mail_name : goal.returns-then-is_mail_name
returns-then-is_mail_name g c =
    let i = c.self.inside in
    let a = c.args.name.now in
    let named : IsMailName c.as_slice.result.now = c.is_mail_name.ensures.0 c.if-is_mail_name.true in
    let mail : IsMailName a = rw (← c.as_slice.ensures) named in
    let place : among_all i.crew (place_of i.places) a ≡ option_map (λ j. i.crew + j) (place_of i.places a) =
    ap (λ (o : Option ℕ). place_by i.crew o (place_of i.places a)) (seat_none a (mail_is_none a mail)) in
    let found : is_some (place_of i.places a) ≡ not c.is_none.result =
    ap is_some (ap (place_of i.places) (sym c.as_slice-then-is_mail_name.ensures) ∙ sym c.find.ensures) ∙ c.is_none.ensures in
    let started : was_started c.args.self.now.events a ≡ not c.is_none.result =
    sym (ap (λ (w : Seen _). was_started w.events a) c.self.view_is) ∙ c.self.invariant.world.kept.started a ∙ ap is_some place ∙ some_map i.crew (place_of i.places a) ∙ found in (
      (λ yes. (mail, started ∙ ap not yes)),
      (λ h. not_true c.is_none.result (sym started ∙ h.1)),
    )
