-- The users of a file, and the line that a local part belongs to, as functions. That they are those of the grammar and of the
-- choice is a law (`files_are_exact`, `users_are_exact`).
use Rattle.std.specs.Prelude.{ℕ, ◌+◌, List, [], ◌∷◌, length, take, map, Bool, true, false, ◌&&◌, Option, Some, None, if◌then◌else◌, ◌==◌, nat_le, nat_lt, bytes_eq}
use Rattle.std.specs.List.{slice_split}
use Rattle.std.specs.Option.{option_map}
use Rattle.mail_bytes.specs.Fold.{folded}
use Rattle.local_spawn.specs.declared.assign.Assignment.{Assignment}
use Rattle.local_spawn.specs.declared.finding.Found.{Found}
use Rattle.local_spawn.specs.declared.kinds.Kind.{Kind}
use Rattle.local_spawn.specs.declared.kinds.Kind.TheVariants.{Simple, Wildcard}
use Rattle.local_spawn.specs.Fields.{parsed}

-- The users of a file

abbrev pub is_dot : List ℕ → Bool
is_dot line = bytes_eq line (46 ∷ [])

-- an assignment comes before those of the later lines, and after `.` nothing counts
abbrev pub with_line : Option Assignment → (dot : Bool) → Option (List Assignment) → Option (List Assignment)
with_line (Some a) dot others = option_map (λ later. a ∷ later) others
with_line None true others = Some []
with_line None false others = None

abbrev pub users_of : List (List ℕ) → Option (List Assignment)
users_of [] = None
users_of (line ∷ later) = with_line (parsed line) (is_dot line) (users_of later)

-- the assignments of a file; none if a line before `.` assigns nothing, or if there is no `.`
abbrev pub users_in : List ℕ → Option (List Assignment)
users_in text = users_of (slice_split (λ b. b == 10) text)

-- The line of a local part

abbrev pub is_simple : Kind → Bool
is_simple Simple = true
is_simple Wildcard = false

abbrev pub is_wildcard : Kind → Bool
is_wildcard Simple = false
is_wildcard Wildcard = true

abbrev pub is_alike : List ℕ → List ℕ → Bool
is_alike a b = bytes_eq (map folded a) (map folded b)

abbrev pub is_for : Assignment → List ℕ → Bool
is_for a local = is_simple a.kind && is_alike a.local local

abbrev pub begins_for : Assignment → List ℕ → Bool
begins_for a local = is_wildcard a.kind && (nat_le (length a.local) (length local) && is_alike a.local (take (length a.local) local))

-- a longer wildcard takes the place of the best one so far
abbrev pub longer_of : Option Found → Found → Option Found
longer_of None found = Some found
longer_of (Some best) found = if nat_lt best.rest found.rest then Some found else Some best

abbrev pub better_of : Option Found → ℕ → Assignment → List ℕ → Option Found
better_of best at a local = if begins_for a local then longer_of best (record { line = at; rest = length a.local }) else best

-- of the lines from this place on
abbrev pub found_from : ℕ → Option Found → List Assignment → List ℕ → Option Found
found_from at best [] local = best
found_from at best (a ∷ later) local = if is_for a local then Some (record { line = at; rest = length local }) else found_from (at + 1) (better_of best at a local) later local

-- the first simple line for a local part, else the first of the longest wildcards for it
abbrev pub found_in : List Assignment → List ℕ → Option Found
found_in lines local = found_from 0 None lines local
