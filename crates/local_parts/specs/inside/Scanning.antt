-- How a header is searched for a line, byte by byte.
use Rattle.std.specs.Prelude.{ℕ, ◌+◌, List, [], ◌∷◌, length, Bool, true, false, ◌&&◌, Option, Some, None, if◌then◌else◌, ◌==◌, nat_lt, slice_get}
use Rattle.local_parts.specs.declared.looping.Scan.{Scan}
use Rattle.local_parts.specs.declared.looping.Scan.TheVariants as scan

-- the byte that is looked for after so many
abbrev pub is_next : Option ℕ → ℕ → Bool
is_next (Some it) b = it == b
is_next None b = false

-- after a newline
abbrev pub line_ended : List ℕ → ℕ → Scan
line_ended line count = if count == 0 then scan.Over else (if count == length line then scan.Found else scan.Like 0)

-- after another byte
abbrev pub gone_on : List ℕ → ℕ → ℕ → Scan
gone_on line count b = if is_next (slice_get line count) b then scan.Like (count + 1) else scan.Unlike

abbrev pub scan_step : List ℕ → Scan → ℕ → Scan
scan_step line (scan.Like count) b = if b == 10 then line_ended line count else gone_on line count b
scan_step line scan.Unlike b = if b == 10 then scan.Like 0 else scan.Unlike
scan_step line scan.Found b = scan.Found
scan_step line scan.Over b = scan.Over

-- after these bytes
abbrev pub scanned : List ℕ → Scan → List ℕ → Scan
scanned line s [] = s
scanned line s (b ∷ rest) = scanned line (scan_step line s b) rest

-- the search goes on
abbrev pub is_open : Scan → Bool
is_open (scan.Like count) = true
is_open scan.Unlike = true
is_open scan.Found = false
is_open scan.Over = false

-- the header has the line, if no bytes come any more
abbrev pub is_found : List ℕ → Scan → Bool
is_found line (scan.Like count) = nat_lt 0 count && count == length line
is_found line scan.Unlike = false
is_found line scan.Found = true
is_found line scan.Over = false
