-- The names of those who start in a world, by which the lives of messages are read off its events: who is a member, a delivery or an
-- injector.
use Rattle.std.specs.Prelude.{◌≡◌, ℕ, List, [], ◌∷◌, Bool, true, false, Contains, codes, nat_eq}
use Rattle.std.specs.List.{starts_with}
use Rattle.world_events.specs.declared.event.Event.{Event as Kept}
use Rattle.world_events.specs.declared.event.Event.TheVariants as kept
use Rattle.world_events.specs.declared.event.Program.{Program}
use Rattle.world_events.specs.declared.event.Program.TheVariants as kinds
use Rattle.actor_names.specs.MailNames.{members}
use Rattle.mail_world.specs.History.{Event}
use Rattle.mail_world.specs.History.Event.{Start, Child}

-- a name as each delivery has one: it begins with `l.`
abbrev pub is_delivery_name : List ℕ → Bool
is_delivery_name a = starts_with nat_eq a (codes "l.")

-- Each delivery has such a name, no injector has, and there is no other program.
abbrev pub IsNamedSo : List ℕ → Program → Type 0
IsNamedSo a (kinds.Injector args) = is_delivery_name a ≡ false
IsNamedSo a (kinds.Delivery start args) = is_delivery_name a ≡ true
IsNamedSo a other = ⊥

-- Who starts alone, or as a child, has no member's name: it is an injector or a delivery.
abbrev pub IsNamedStart : Event → Type 0
IsNamedStart (Start a program) = (¬ (Contains members a)) × IsNamedSo a program
IsNamedStart (Child parent own a program) = (¬ (Contains members a)) × IsNamedSo a program
IsNamedStart other = Unit {0}

abbrev pub AreNamedStarts : List Event → Type 0
AreNamedStarts [] = Unit {0}
AreNamedStarts (event ∷ before) = IsNamedStart event × AreNamedStarts before

-- who is given a whole input is no delivery, by its name
abbrev pub IsFedSo : Kept → Type 0
IsFedSo (kept.Feed a own c message envelope) = is_delivery_name c ≡ false
IsFedSo event = Unit {0}
