-- What a request has to be for its program to be started.
use Rattle.std.specs.Prelude.{◌≡◌, ◌≢◌, ℕ, List, [], ◌∷◌, ◌++◌, All, Bool, true, false, ◌||◌, not, Option, Some, None, is_none, unwrap_or, if◌then◌else◌, ◌==◌, nat_le, slice_index_or, codes}
use Rattle.std.specs.Option.{option_or}
use Rattle.queue_paths.specs.Names.{Name, used_name}
use Rattle.queue_paths.specs.Names.Name.{Of}
use Rattle.queue_paths.specs.Names.Part.{Mess}
use Rattle.spawn_protocol.specs.declared.request.Request.{Request}
use Rattle.spawner_parts.specs.declared.place.TheConstants.{SLOTS}

-- the name of the message's file that a request names: `mess/` and its first field
abbrev pub name_of_mess : List ℕ → List ℕ
name_of_mess field = codes "mess/" ++ field

-- it is that of a message, `mess/S/N`
abbrev pub is_mess : Option Name → Bool
is_mess (Some (Of Mess n)) = true
is_mess other = false

abbrev pub names_message : List ℕ → Bool
names_message field = is_mess (used_name (name_of_mess field))

-- what comes after the last `@` of an address: after that of `a@b@c`, `c`
abbrev pub host_here : ℕ → List ℕ → Option (List ℕ)
host_here b rest = if b == 64 then Some rest else None

abbrev pub host_of : List ℕ → Option (List ℕ)
host_of [] = None
host_of (b ∷ rest) = option_or (host_of rest) (host_here b rest)

abbrev pub domain_of : List ℕ → List ℕ
domain_of address = unwrap_or (host_of address) []

-- a program runs in this slot
abbrev pub runs_in : List Bool → ℕ → Bool
runs_in running slot = slice_index_or running slot false

-- Its slot is over 119 or has a program, its first field names no message, or its recipient has no `@`.
abbrev pub is_bad : List Bool → Request → Bool
is_bad running r = nat_le SLOTS r.slot || (runs_in running r.slot || (not (names_message r.mess) || is_none (host_of r.recipient)))

-- as a relation: this comes before the last `@` of an address, and this after it
pub record IsSplit (address local host : List ℕ) : Type 0 where
  pub split : address ≡ local ++ 64 ∷ host
  pub last : All (λ b. b ≢ 64) host
