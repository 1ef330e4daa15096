-- Where an address goes (qmail-send(8), "locals", "percenthack" and "virtualdomains" of qmail-control(5)).
use Rattle.std.specs.Prelude.{◌≡◌, ◌≢◌, ℕ, zero, suc, List, [], ◌∷◌, ◌++◌, length, ◌⊎◌, All, Contains, Option, Some, None, if◌then◌else◌}
use Rattle.std.specs.Option.{option_map, option_and_then, option_map_or}
use Rattle.address_rules.specs.declared.controls.Controls.{Controls}
use Rattle.address_rules.specs.declared.rewriting.Route.{Route}
use Rattle.address_rules.specs.declared.rewriting.Route.TheVariants.{Local, Remote}
use Rattle.address_rules.specs.Cuts.{Parts, last_cut, IsLastCut}
use Rattle.address_rules.specs.Keys.{is_listed, IsListed, first_prefix, HasKey, IsFirstPrefix, domain_keys}

-- an address without `@` gets one, and the host
abbrev pub with_host : List ℕ → List ℕ → Option Parts → List ℕ
with_host host address None = address ++ 64 ∷ host
with_host host address (Some parts) = address

abbrev pub qualified : List ℕ → List ℕ → List ℕ
qualified host address = with_host host address (last_cut 64 address)

-- `user@host`, of `user%host`
abbrev pub with_at : Parts → List ℕ
with_at parts = parts.0 ++ 64 ∷ parts.1

-- One round of percenthack: if the domain is listed, `user%host@domain` becomes `user@host`, at the last `%`.
abbrev pub hacked_at : List (List ℕ) → Parts → Option (List ℕ)
hacked_at hacks parts = if is_listed hacks parts.1 then option_map with_at (last_cut 37 parts.0) else None

abbrev pub hacked : List (List ℕ) → List ℕ → Option (List ℕ)
hacked hacks address = option_and_then (hacked_at hacks) (last_cut 64 address)

-- rounds, as long as there is one to make, but at most so many
abbrev pub after_rounds : List (List ℕ) → ℕ → List ℕ → List ℕ
after_rounds hacks zero address = address
after_rounds hacks (suc more) address = option_map_or (λ next. after_rounds hacks more next) (hacked hacks address) address

-- Each round makes the address shorter, so there are no more of them than it has bytes.
abbrev pub unhacked : List (List ℕ) → List ℕ → List ℕ
unhacked hacks address = after_rounds hacks (length address) address

-- the address as it is looked up
abbrev pub full_address : Controls → List ℕ → List ℕ
full_address controls address = unhacked controls.percent_hack (qualified controls.env_no_at_host address)

-- Under which keys virtualdomains is looked up: the whole address, then as its domain is.
abbrev pub address_keys : List ℕ → List ℕ → List (List ℕ)
address_keys address domain = address ∷ domain_keys domain

-- a prefix makes it local, an empty one remote
abbrev pub by_prefix : List ℕ → Option (List ℕ) → Route
by_prefix address None = Remote address
by_prefix address (Some []) = Remote address
by_prefix address (Some (b ∷ rest)) = Local ((b ∷ rest) ++ 45 ∷ address)

abbrev pub decided : Controls → List ℕ → List ℕ → Route
decided controls address domain =
    if is_listed controls.locals domain then Local address
    else by_prefix address (first_prefix controls.virtual_domains (address_keys address domain))

abbrev pub domain_of : Option Parts → List ℕ
domain_of None = []
domain_of (Some parts) = parts.1

-- the address that a route says
abbrev pub address_in : Route → List ℕ
address_in (Local address) = address
address_in (Remote address) = address

-- The route of an address. With locals `x`, percenthack `hack` and virtualdomains `.z:vz`: `Bob@X` is local as it is,
-- `joe%y@hack` is remote as `joe@y`, `m@a.z` is local as `vz-m@a.z`.
unfoldable pub route_of : Controls → List ℕ → Route
route_of controls address =
    let full = full_address controls address in
    decided controls full (domain_of (last_cut 64 full))

-- The same as relations.

-- the address itself if it has an `@`, else with `@` and the host
abbrev pub IsQualified : List ℕ → List ℕ → List ℕ → Type 0
IsQualified host address full = (Contains address 64 × (full ≡ address)) ⊎ ((¬ (Contains address 64)) × (full ≡ address ++ 64 ∷ host))

-- one round of percenthack
pub record IsRound (hacks : List (List ℕ)) (from to : List ℕ) : Type 0 where
  pub user : List ℕ
  pub host : List ℕ
  pub domain : List ℕ
  pub split : from ≡ (user ++ 37 ∷ host) ++ 64 ∷ domain
  pub last_at : ¬ (Contains domain 64)
  pub last_percent : ¬ (Contains host 37)
  pub hack : IsListed hacks domain
  pub becomes : to ≡ user ++ 64 ∷ host

-- rounds, until there is none to make
pub data AfterRounds (hacks : List (List ℕ)) (to : List ℕ) : List ℕ → Type 0 where
  NoRound : {from : List ℕ} → ((next : List ℕ) → ¬ (IsRound hacks from next)) → to ≡ from → AfterRounds hacks to from
  Round : {from next : List ℕ} → IsRound hacks from next → AfterRounds hacks to next → AfterRounds hacks to from

-- Where an address with this domain goes: first locals counts, then the first key of virtualdomains that is there.
pub data IsDecided (controls : Controls) (address domain : List ℕ) (route : Route) : Type 0 where
  IsHere : IsListed controls.locals domain → route ≡ Local address → IsDecided controls address domain route
  HasPrefix : ¬ (IsListed controls.locals domain) → (prefix : List ℕ) → IsFirstPrefix controls.virtual_domains (address_keys address domain) prefix
      → prefix ≢ [] → route ≡ Local (prefix ++ 45 ∷ address) → IsDecided controls address domain route
  IsExcepted : ¬ (IsListed controls.locals domain) → IsFirstPrefix controls.virtual_domains (address_keys address domain) []
      → route ≡ Remote address → IsDecided controls address domain route
  IsElsewhere : ¬ (IsListed controls.locals domain) → All (λ key. ¬ (HasKey controls.virtual_domains key)) (address_keys address domain)
      → route ≡ Remote address → IsDecided controls address domain route

pub record IsRoute (controls : Controls) (address : List ℕ) (route : Route) : Type 0 where
  pub begun : List ℕ
  pub full : List ℕ
  pub box : List ℕ
  pub domain : List ℕ
  pub qualifies : IsQualified controls.env_no_at_host address begun
  pub rounds : AfterRounds controls.percent_hack full begun
  pub cut : IsLastCut 64 full box domain
  pub decides : IsDecided controls full domain route
