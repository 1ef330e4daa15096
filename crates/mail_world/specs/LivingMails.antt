-- The mails of a world, all of which live.
use Rattle.std.specs.Prelude.{◌≡◌, ℕ, List, [], ◌∷◌, reverse, All, flat_map}
use Rattle.world_events.specs.declared.event.Event.{Event as Kept}
use Rattle.world_events.specs.declared.event.Event.TheVariants as kept
use Rattle.mail_world.specs.World.{span_of}
use Rattle.mail_world.specs.World.Span.{Lasting}

-- the mail that an event starts
abbrev pub mail_in : Kept → List (List ℕ)
mail_in (kept.Start a program) = a ∷ []
mail_in other = []

-- the mails of a world, in the order of their starts; the children of actors are none
abbrev pub mails_in : List Kept → List (List ℕ)
mails_in events = flat_map mail_in events

-- these are the mails of a world, in the order of their starts, and all of them live
pub record AreLivingMails (events : List Kept) (mails : List (List ℕ)) : Type 0 where
  pub are : mails_in events ≡ mails
  pub live : All (λ a. span_of a (reverse events) ≡ Lasting) mails
