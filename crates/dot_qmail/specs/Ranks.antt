-- How the names of a home rank, for the one pass that finds the first of those that are looked for. `full` is the name with
-- all of ext, and `base` how many of its bytes stand before ext.
use Rattle.std.specs.Prelude.{◌≡◌, ℕ, ◌+◌, ◌-◌, ◌<◌, ◌≤◌, List, [], ◌∷◌, length, take, Bool, ◌&&◌, ◌||◌, Option, Some, None, if◌then◌else◌, ◌==◌, nat_eq, nat_le, nat_lt, bytes_eq, slice_index_or, codes}
use Rattle.std.specs.List.{starts_with, ends_with}
use Rattle.dot_qmail.specs.declared.rank.Best.{Best}

-- the bytes before ext, or more up to a `-` of ext
abbrev pub is_stem : List ℕ → ℕ → List ℕ → Bool
is_stem full base stem = starts_with nat_eq full stem && (length stem == base || (nat_lt base (length stem) && ends_with nat_eq stem (45 ∷ [])))

-- what stands before `default`
abbrev pub stem_of : List ℕ → List ℕ
stem_of name = take (length name - 7) name

abbrev pub default_rank : List ℕ → ℕ → List ℕ → Option ℕ
default_rank full base stem = if is_stem full base stem then Some (length stem) else None

-- the full name before any other, and a default name by the length of its stem
abbrev pub rank_of : List ℕ → ℕ → List ℕ → Option ℕ
rank_of full base name =
    if bytes_eq name full then Some (length full + 1)
    else (if ends_with nat_eq name (codes "default") then default_rank full base (stem_of name) else None)

-- the better of the best so far and the name at a place
abbrev pub better : Option Best → Option ℕ → ℕ → Option Best
better top None place = top
better None (Some rank) place = Some (record { rank = rank; place = place })
better (Some best) (Some rank) place = if nat_le rank best.rank then Some best else Some (record { rank = rank; place = place })

-- this name ranks best of the first so many, and it is the first that ranks so
pub record IsBest (full : List ℕ) (base : ℕ) (names : List (List ℕ)) (n : ℕ) (best : Best) : Type 0 where
  pub inside : best.place < n
  pub ranks : rank_of full base (slice_index_or names best.place []) ≡ Some best.rank
  pub greatest : (k rank : ℕ) → k < n → rank_of full base (slice_index_or names k []) ≡ Some rank → rank ≤ best.rank
  pub first : (k : ℕ) → k < best.place → ¬ (rank_of full base (slice_index_or names k []) ≡ Some best.rank)

-- of the first so many names this one ranks best, or none has a rank
abbrev pub IsTop : List ℕ → ℕ → List (List ℕ) → ℕ → Option Best → Type 0
IsTop full base names n None = (k : ℕ) → k < n → rank_of full base (slice_index_or names k []) ≡ None
IsTop full base names n (Some best) = IsBest full base names n best
