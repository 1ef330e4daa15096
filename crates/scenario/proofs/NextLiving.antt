-- The next living actor by the kept events is that of the deeds that they tell.
use Rattle.std.proofs.Common.{◌≡◌, ℕ, ◌+◌, List, [], ◌∷◌, reverse, not, ◌&&◌, Option, Some, None, refl, sym, ap, ◌∙◌}
use Rattle.std.specs.Prelude.{nat_lt, if◌then◌else◌, bytes_eq}
use Rattle.std.specs.List.{AllZip, list_any}
use Rattle.call_fs.specs.Disk.{Disk}
use Rattle.world_events.specs.declared.event.Event.{Event as Kept}
use Rattle.mail_world.specs.Generations.{lives_in, is_lasting, is_next as is_kept_next, next_among, next_living as kept_next}
use Rattle.mail_world.specs.History.{Actor, Legal}
use Rattle.mail_world.specs.World.{Span, span_of}
use Rattle.mail_world.specs.World.Span.{Unborn, Lasting, OverAt}
use Rattle.mail_world.proofs.Lives.{Suits, suits}
use Rattle.scenario.specs.Deeds.{Deed, TellsDeed, history_of, after}
use Rattle.scenario.specs.Turns.{starts_of, is_next, next_in, next_living}
use Rattle.scenario.proofs.Carried.{lives_actor, dead_actor}
use Rattle.scenario.proofs.Deeds.{history_told, same_starts}

-- who lives by them lives
pub lasts : (span : Span) (o : Option Actor) → Suits span o → is_lasting span ≡ lives_in o
lasts Unborn None m = refl
lasts Unborn (Some x) m = absurd m
lasts Lasting None m = absurd m
lasts Lasting (Some x) m = sym (lives_actor x m)
lasts (OverAt at) None m = absurd m
lasts (OverAt at) (Some x) m = sym (dead_actor x m)

-- so is each actor after the deeds that they tell
pub lasts_told : (d : Disk) (newest : List Kept) (h : List Deed) → Legal d (history_of h) → AllZip TellsDeed newest h → (a : List ℕ) → is_lasting (span_of a newest) ≡ lives_in ((after d h).actors a)
lasts_told d newest h legal told a = lasts (span_of a newest) ((after d h).actors a) (suits d newest (history_of h) legal (history_told newest h told) a)

module _ (d : Disk) (h : List Deed) (events : List Kept) (legal : Legal d (history_of h)) (told : AllZip TellsDeed (reverse events) h) where
  same_next : (from at : ℕ) (a : List ℕ) (later : List (List ℕ)) → is_kept_next from at a later (reverse events) ≡ is_next (after d h) from at a later
  same_next from at a later =
      ap (λ t. not (nat_lt at from) && (not (list_any (bytes_eq a) later) && t)) (lasts_told d (reverse events) h legal told a)

  next_among_in : (from at : ℕ) (starts : List (List ℕ)) → next_among from at starts (reverse events) ≡ next_in (after d h) from at starts
  next_among_in from at [] = refl
  next_among_in from at (a ∷ later) =
      ap (λ t. if t then Some (a, at) else next_among from (at + 1) later (reverse events)) (same_next from at a later)
      ∙ ap (λ (o : Option (List ℕ × ℕ)). if is_next (after d h) from at a later then Some (a, at) else o) (next_among_in from (at + 1) later)

  pub next_is : (from : ℕ) → kept_next from events ≡ next_living d h from
  next_is from =
      ap (λ (l : List (List ℕ)). next_among from 0 l (reverse events)) (same_starts (reverse events) h told) ∙ next_among_in from 0 (starts_of h)
