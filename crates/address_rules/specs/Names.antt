-- Addresses as they are told: without the prefix of a virtual domain, and a sender with the recipient in it (qmail-send(8),
-- "VERP" of addresses(5)).
use Rattle.std.specs.Prelude.{◌≡◌, ℕ, List, [], ◌∷◌, ◌++◌, Contains, Option, Some, None, if◌then◌else◌, ◌==◌, bytes_eq, unwrap_or, codes}
use Rattle.std.specs.Option.{option_map, option_and_then}
use Rattle.address_rules.specs.declared.virtual_domains.VirtualDomain.{VirtualDomain}
use Rattle.address_rules.specs.Cuts.{Parts, last_cut, IsLastCut}
use Rattle.address_rules.specs.Keys.{first_prefix, IsFirstPrefix, domain_keys}

-- what comes after these bytes at the beginning of a text
abbrev pub rest_after : List ℕ → List ℕ → Option (List ℕ)
rest_after [] text = Some text
rest_after (p ∷ ps) [] = None
rest_after (p ∷ ps) (b ∷ rest) = if p == b then rest_after ps rest else None

-- what comes before these bytes at the end of a text
abbrev pub front_before : List ℕ → List ℕ → Option (List ℕ)
front_before end [] = if bytes_eq [] end then Some [] else None
front_before end (b ∷ rest) = if bytes_eq (b ∷ rest) end then Some [] else option_map (λ front. b ∷ front) (front_before end rest)

-- Prefixes

-- what comes after `prefix-` in an address, if the prefix isn't empty
abbrev pub rest_after_prefix : List ℕ → List ℕ → Option (List ℕ)
rest_after_prefix address [] = None
rest_after_prefix address (b ∷ rest) = option_and_then (rest_after (45 ∷ [])) (rest_after (b ∷ rest) address)

abbrev pub rest_at : List VirtualDomain → List ℕ → Parts → Option (List ℕ)
rest_at lines address parts = option_and_then (rest_after_prefix address) (first_prefix lines (domain_keys parts.1))

-- what comes after the prefix that virtualdomains has for the domain
abbrev pub rest_of : List VirtualDomain → List ℕ → Option (List ℕ)
rest_of lines address = option_and_then (rest_at lines address) (last_cut 64 address)

-- An address without the prefix that virtualdomains has for its domain. With `x:w` the address `w-bob@x` is `bob@x`.
unfoldable pub stripped : List VirtualDomain → List ℕ → List ℕ
stripped lines address = unwrap_or (rest_of lines address) address

-- the address has a domain, whose first key that virtualdomains has says this prefix, and it is the rest after `prefix-`
pub record HasRest (lines : List VirtualDomain) (address rest : List ℕ) : Type 0 where
  pub box : List ℕ
  pub domain : List ℕ
  pub prefix : List ℕ
  pub cut : IsLastCut 64 address box domain
  pub first : IsFirstPrefix lines (domain_keys domain) prefix
  pub some : ¬ (prefix ≡ [])
  pub split : address ≡ prefix ++ 45 ∷ rest

-- without the prefix if it has one, else as it is
pub data IsStripped (lines : List VirtualDomain) (address text : List ℕ) : Type 0 where
  Prefixed : HasRest lines address text → IsStripped lines address text
  Bare : ((rest : List ℕ) → ¬ (HasRest lines address rest)) → text ≡ address → IsStripped lines address text

-- Senders

-- `-@[]`
abbrev pub mark : List ℕ
mark = codes "-@[]"

-- what stands before and after the last `@` of the part before the mark
abbrev pub owner_of : List ℕ → Option Parts
owner_of sender = option_and_then (last_cut 64) (front_before mark sender)

abbrev pub verp_by : List ℕ → Option Parts → Option Parts → List ℕ
verp_by sender None recipient = sender
verp_by sender (Some owner) None = sender
verp_by sender (Some owner) (Some to) = owner.0 ++ (to.0 ++ (61 ∷ (to.1 ++ 64 ∷ owner.1)))

-- The sender that a recipient sees: of `owner-@host-@[]` to `b@d` it is `owner-b=d@host`, any other sender is as it is.
unfoldable pub verp_of : List ℕ → List ℕ → List ℕ
verp_of sender recipient = verp_by sender (owner_of sender) (last_cut 64 recipient)

-- the sender is `owner@host-@[]`, and the host has no `@`
pub record IsMarked (sender owner host : List ℕ) : Type 0 where
  pub split : sender ≡ (owner ++ 64 ∷ host) ++ mark
  pub last : ¬ (Contains host 64)

pub data IsVerp (sender recipient text : List ℕ) : Type 0 where
  Told : (owner host box domain : List ℕ) → IsMarked sender owner host → IsLastCut 64 recipient box domain
      → text ≡ owner ++ (box ++ (61 ∷ (domain ++ 64 ∷ host))) → IsVerp sender recipient text
  Unmarked : ((owner host : List ℕ) → ¬ (IsMarked sender owner host)) → text ≡ sender → IsVerp sender recipient text
  NoDomain : ¬ (Contains recipient 64) → text ≡ sender → IsVerp sender recipient text
