-- Keys of the control files (qmail-control(5)): the case of ASCII letters doesn't count, and the first of equal keys
-- does. `X` is listed in `a`, `x`.
use Rattle.std.specs.Prelude.{◌≡◌, ℕ, List, [], ◌∷◌, ◌++◌, map, filter, find, Any, Bool, false, Option, None, ◌==◌, if◌then◌else◌, bytes_eq, slice_get}
use Rattle.std.specs.List.{list_any, filter_map}
use Rattle.std.specs.Option.{option_map}
use Rattle.mail_bytes.specs.Fold.{folded, IsSameFold}
use Rattle.address_rules.specs.declared.virtual_domains.VirtualDomain.{VirtualDomain}
use Rattle.address_rules.specs.Cuts.{IsFirst}

abbrev pub is_same : List ℕ → List ℕ → Bool
is_same a b = bytes_eq (map folded a) (map folded b)

-- whether a text of the list is this key
abbrev pub is_listed : List (List ℕ) → List ℕ → Bool
is_listed texts key = list_any (λ text. is_same text key) texts

abbrev pub IsListed : List (List ℕ) → List ℕ → Type 0
IsListed texts key = Any (λ text. IsSameFold text key) texts

-- the first line of virtualdomains with this key
abbrev pub line_for : List VirtualDomain → List ℕ → Option VirtualDomain
line_for lines key = find (λ line. is_same line.domain key) lines

-- its prefix
abbrev pub prefix_for : List VirtualDomain → List ℕ → Option (List ℕ)
prefix_for lines key = option_map (λ line. line.prefix) (line_for lines key)

-- the prefix of the first of these keys that a line has
abbrev pub first_prefix : List VirtualDomain → List (List ℕ) → Option (List ℕ)
first_prefix lines keys = slice_get (filter_map (prefix_for lines) keys) 0

-- a line of virtualdomains has this key
abbrev pub HasKey : List VirtualDomain → List ℕ → Type 0
HasKey lines key = Any (λ line. IsSameFold line.domain key) lines

-- The first of these keys that a line has is looked up, and the first line that has it says this prefix.
pub record IsFirstPrefix (lines : List VirtualDomain) (keys : List (List ℕ)) (prefix : List ℕ) : Type 0 where
  pub key : List ℕ
  pub line : VirtualDomain
  pub first_key : IsFirst (HasKey lines) keys key
  pub first_line : IsFirst (λ it. IsSameFold it.domain key) lines line
  pub says : line.prefix ≡ prefix

-- every suffix of a text, the longest first
abbrev pub suffixes : List ℕ → List (List ℕ)
suffixes [] = [] ∷ []
suffixes (b ∷ rest) = (b ∷ rest) ∷ suffixes rest

abbrev pub begins_with_dot : List ℕ → Bool
begins_with_dot [] = false
begins_with_dot (b ∷ rest) = b == 46

-- the prefix for a key that begins with a dot
abbrev pub prefix_for_dotted : List VirtualDomain → List ℕ → Option (List ℕ)
prefix_for_dotted lines key = if begins_with_dot key then prefix_for lines key else None

-- those that begin with a dot
abbrev pub dot_suffixes : List ℕ → List (List ℕ)
dot_suffixes domain = filter begins_with_dot (suffixes domain)

-- Under which keys a domain is looked up: itself, its suffixes that begin with a dot, and the empty text. `a.b.c` is
-- looked up as `a.b.c`, `.b.c`, `.c` and the empty text.
abbrev pub domain_keys : List ℕ → List (List ℕ)
domain_keys domain = domain ∷ (dot_suffixes domain ++ [] ∷ [])
