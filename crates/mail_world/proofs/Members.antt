-- The names of the members of a generation.
use Rattle.std.proofs.Common.{◌≡◌, ◌≢◌, ℕ, List, [], ◌∷◌, Bool, true, false, ◌||◌, Option, Some, refl, sym, ap, ◌∙◌, ⊎_elim, bytes_eq, codes}
use Rattle.std.specs.List.{list_any}
use Rattle.actor_names.specs.MailNames.{members}
use Rattle.call_fs.specs.Maps.{put_at}
use Rattle.call_fs.proofs.Maps.{put_at_other}
use Rattle.world_events.specs.declared.event.Program.{Program}
use Rattle.mail_world.specs.Pipework.{is_member}
use Rattle.world_events.specs.Programs.{generation}
use Rattle.mail_world.specs.History.{Actor, AreRunBy, newborn, with_crew}
-- their names
pub use Rattle.world_pipes.proofs.Members.{text_cases, whether, other_than, IsOneOfFour, member_cases, member_contained, contained_member, mail_is_none, if_its}

-- The actors of a generation start

or_neither : (p q : Bool) → (p || q) ≡ false → (p ≡ false) × (q ≡ false)
or_neither false false h = (refl, refl)
or_neither p q h = absurd (cc)

-- whoever has none of these names is as before
crew_others : (names : List (List ℕ)) (crew : List Program) (actors : List ℕ → Option Actor) (a : List ℕ) → list_any (bytes_eq a) names ≡ false → with_crew names crew actors a ≡ actors a
crew_others (b ∷ names) (program ∷ crew) actors a none =
    let parts = or_neither (bytes_eq a b) (list_any (bytes_eq a) names) none in
    let apart : a ≢ b = ⊎_elim (λ w. let both : true ≡ false = sym w.1 ∙ parts.0 in absurd (cc)) (λ w. w.0) (text_cases a b) in
    crew_others names crew (put_at actors b (Some (newborn program))) a parts.1 ∙ put_at_other actors b (Some (newborn program)) a apart
crew_others names crew actors a none = refl

-- so whoever is no member
pub crew_other : (actors : List ℕ → Option Actor) (crew : List Program) (a : List ℕ) → is_member a ≡ false → with_crew members crew actors a ≡ actors a
crew_other actors crew a named = crew_others members crew actors a named

-- Four of them

abbrev pub IsFour : List Program → Type 0
IsFour (sender ∷ clean ∷ lspawn ∷ rspawn ∷ []) = Unit {0}
IsFour crew = ⊥

pub are_four : (crew : List Program) → AreRunBy generation crew → IsFour crew
are_four (sender ∷ clean ∷ lspawn ∷ rspawn ∷ []) kinds = tt
are_four [] kinds = kinds
are_four (sender ∷ []) kinds = kinds.1
are_four (sender ∷ clean ∷ []) kinds = kinds.1.1
are_four (sender ∷ clean ∷ lspawn ∷ []) kinds = kinds.1.1.1
are_four (sender ∷ clean ∷ lspawn ∷ rspawn ∷ more ∷ others) kinds = kinds.1.1.1.1

abbrev pub with_four : (List ℕ → Option Actor) → Program → Program → Program → Program → List ℕ → Option Actor
with_four actors sender clean lspawn rspawn =
    put_at (put_at (put_at (put_at actors (codes "sender") (Some (newborn sender))) (codes "clean") (Some (newborn clean)))
    (codes "lspawn") (Some (newborn lspawn))) (codes "rspawn") (Some (newborn rspawn))

-- who is no member is as before
pub four_other : (actors : List ℕ → Option Actor) (sender clean lspawn rspawn : Program) (a : List ℕ) → is_member a ≡ false
    → with_four actors sender clean lspawn rspawn a ≡ actors a
four_other actors sender clean lspawn rspawn a named =
    let one = put_at actors (codes "sender") (Some (newborn sender)) in
    let two = put_at one (codes "clean") (Some (newborn clean)) in
    let three = put_at two (codes "lspawn") (Some (newborn lspawn)) in
    put_at_other three (codes "rspawn") (Some (newborn rspawn)) a (other_than a (codes "rspawn") named refl)
    ∙ put_at_other two (codes "lspawn") (Some (newborn lspawn)) a (other_than a (codes "lspawn") named refl)
    ∙ put_at_other one (codes "clean") (Some (newborn clean)) a (other_than a (codes "clean") named refl)
    ∙ put_at_other actors (codes "sender") (Some (newborn sender)) a (other_than a (codes "sender") named refl)

pub four_sender : (actors : List ℕ → Option Actor) (sender clean lspawn rspawn : Program) → with_four actors sender clean lspawn rspawn (codes "sender") ≡ Some (newborn sender)
unfolding put_at
four_sender actors sender clean lspawn rspawn = refl

pub four_clean : (actors : List ℕ → Option Actor) (sender clean lspawn rspawn : Program) → with_four actors sender clean lspawn rspawn (codes "clean") ≡ Some (newborn clean)
unfolding put_at
four_clean actors sender clean lspawn rspawn = refl

pub four_lspawn : (actors : List ℕ → Option Actor) (sender clean lspawn rspawn : Program) → with_four actors sender clean lspawn rspawn (codes "lspawn") ≡ Some (newborn lspawn)
unfolding put_at
four_lspawn actors sender clean lspawn rspawn = refl

pub four_rspawn : (actors : List ℕ → Option Actor) (sender clean lspawn rspawn : Program) → with_four actors sender clean lspawn rspawn (codes "rspawn") ≡ Some (newborn rspawn)
unfolding put_at
four_rspawn actors sender clean lspawn rspawn = refl

-- and each member has just started
pub four_new : (actors : List ℕ → Option Actor) (sender clean lspawn rspawn : Program) (a : List ℕ) → is_member a ≡ true
    → (program : Program) × (with_four actors sender clean lspawn rspawn a ≡ Some (newborn program))
four_new actors sender clean lspawn rspawn a is =
    let four = with_four actors sender clean lspawn rspawn in
    ⊎_elim
    (λ e. (sender, ap four e ∙ four_sender actors sender clean lspawn rspawn))
    (λ f. ⊎_elim
    (λ e. (clean, ap four e ∙ four_clean actors sender clean lspawn rspawn))
    (λ g. ⊎_elim
    (λ e. (lspawn, ap four e ∙ four_lspawn actors sender clean lspawn rspawn))
    (λ e. (rspawn, ap four e ∙ four_rspawn actors sender clean lspawn rspawn))
    g) f)
    (member_cases a is)
