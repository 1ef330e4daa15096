-- The lines of a control file (qmail-control(5)).
use Rattle.std.specs.Prelude.{ℕ, List, [], ◌∷◌, length, Bool, false, ◌&&◌, ◌||◌, not, Option, Some, None, if◌then◌else◌, ◌==◌, nat_lt, nat_le, slice_get, unwrap_or}
use Rattle.std.specs.List.{list_all, list_any, filter_map, onto_first}
use Rattle.std.specs.Option.{option_map}
use Rattle.std.specs.Char.{is_ascii_digit}
use Rattle.mail_bytes.specs.Decimal.{value}
use Rattle.address_rules.specs.declared.virtual_domains.VirtualDomain.{VirtualDomain}
use Rattle.address_rules.specs.Cuts.{Parts, first_cut}
use Rattle.mail_bytes.specs.Texts.{trimmed}

-- The lines of a text. A last line without newline counts, and a newline at the end begins no line.
abbrev pub lines : List ℕ → List (List ℕ)
lines [] = []
lines (b ∷ rest) = if b == 10 then [] ∷ lines rest else onto_first b (lines rest)

-- The value of a file that holds one, in line 1: empty if that line is, or isn't there.
abbrev pub value_of : List ℕ → List ℕ
value_of bytes = trimmed (unwrap_or (slice_get (lines bytes) 0) [])

-- neither empty nor a comment
abbrev pub is_kept : List ℕ → Bool
is_kept [] = false
is_kept (b ∷ rest) = not (b == 35)

-- what a file with a list lists
abbrev pub kept_line : List ℕ → Option (List ℕ)
kept_line line = if is_kept (trimmed line) then Some (trimmed line) else None

abbrev pub listed : List ℕ → List (List ℕ)
listed bytes = filter_map kept_line (lines bytes)

-- `DOMAIN:PREFIX`, parted at the first colon
abbrev pub virtual_domain : Parts → VirtualDomain
virtual_domain parts = record { domain = parts.0; prefix = parts.1 }

abbrev pub virtual_of : List ℕ → Option VirtualDomain
virtual_of line = option_map virtual_domain (first_cut 58 line)

abbrev pub virtual_domains : List ℕ → List VirtualDomain
virtual_domains bytes = filter_map virtual_of (listed bytes)

-- 1 to 9 digits
abbrev pub is_short_number : List ℕ → Bool
is_short_number text = (nat_lt 0 (length text) && nat_le (length text) 9) && list_all is_ascii_digit text

abbrev pub short_number : List ℕ → Option ℕ
short_number text = if is_short_number text then Some (value text) else None

-- a line is too long, or has a NUL
abbrev pub is_bad : ℕ → List ℕ → Bool
is_bad limit line = nat_lt limit (length line) || list_any (λ b. b == 0) line
