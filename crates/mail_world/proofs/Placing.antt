-- Where each actor stands, by who started.
use Rattle.std.proofs.Common.{◌≡◌, ℕ, ◌+◌, ◌-◌, ◌<◌, ◌≤◌, List, length, reverse, Option, Some, sym, ap, ◌∙◌, ⊎_elim, arith}
use Rattle.std.specs.Prelude.{option_map}
use Rattle.std.specs.List.{slice_get}
use Rattle.std.proofs.lemmas.Option.{slice_get_within}
use Rattle.world_events.specs.declared.event.Event.{Event as Kept}
use Rattle.world_events.specs.declared.starts.Starts.{Starts}
use Rattle.mail_world.specs.declared.actor.Actor.{Actor as Held}
use Rattle.world_events.specs.declared.asking.Setting.{Setting}
use Rattle.mail_world.specs.Children.{IsSetting}
use Rattle.mail_world.specs.Generations.{starts_of}
use Rattle.mail_world.specs.History.{State}
use Rattle.mail_world.specs.Inside.{among_all, AreActors}
use Rattle.mail_world.specs.Starts.{others_in, AreStarts}
use Rattle.mail_world.specs.World.{Seen}
use Rattle.world_events.proofs.AmongAll.{after_seat, place_of_mail}
use Rattle.world_events.proofs.Placing.{number_low, low_or_high, stands_in}
use Rattle.mail_world.proofs.Lists.{some_at, some_within}

-- what a step goes by tells the place of its actor
pub placed_at : {D : Type 0} (w : Seen D) (a : List ℕ) (at : Setting) (starts : Starts) (crew : ℕ) (places : List ℕ → Option ℕ) (n : ℕ) → IsSetting w a at → AreStarts starts crew places (starts_of (reverse w.events))
    → among_all crew places a ≡ Some n → at.place ≡ n
placed_at w a at starts crew places n setting are found =
    let names = starts_of (reverse w.events) in
    let both : ◌≡◌ {A = Option ℕ} (Some at.place) (Some n) = sym setting.place ∙ sym (stands_in starts crew places names a are) ∙ found in cc

-- so many stand after the members
module _ (starts : Starts) (crew : ℕ) (places : List ℕ → Option ℕ) (names : List (List ℕ)) (actors : List Held) (s : State) (events : List Kept) (p : ℕ)
    (are : AreStarts starts crew places names) (kept : AreActors (among_all crew places) actors s events p) (le : crew ≤ length actors) where
  too_many : others_in names < length actors - crew → ⊥
  too_many more =
      let within : crew + others_in names < length actors = omega (arith, more, le) in
      let x = some_within actors (crew + others_in names) within in
      let at = after_seat crew (others_in names) places x.0.name (kept.placed (crew + others_in names) x.0 x.1) in
      let low = number_low names 0 (others_in names) x.0.name (sym (are.numbered x.0.name at.0) ∙ at.1) in
      absurd (omega (arith, low))

  too_few : length actors - crew < others_in names → ⊥
  too_few less =
      let k = length actors - crew in
      let there = are.filled k less in
      let whole : crew + k ≡ length actors = omega (arith, le) in
      let stands : among_all crew places there.0 ≡ Some (crew + k) = place_of_mail crew places there.0 there.1 ∙ ap (option_map (λ i. crew + i)) (are.numbered there.0 there.1 ∙ there.2) in
      let x = some_at (λ (x : Held). x.name ≡ there.0) (slice_get actors (crew + k)) (kept.named there.0 (crew + k) stands) in
      let within = slice_get_within actors (crew + k) x.0 x.1 in
      absurd (omega (arith, within, whole))

  pub so_many : length actors - crew ≡ others_in names
  so_many = ⊎_elim
      (λ less. absurd (too_few less))
      (λ high. ⊎_elim (λ more. absurd (too_many more)) (λ low. omega (arith, high, low)) (low_or_high (others_in names) (length actors - crew)))
      (low_or_high (length actors - crew) (others_in names))
