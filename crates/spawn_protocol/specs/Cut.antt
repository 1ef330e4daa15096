-- The first request of some bytes: what a spawner does next with those that it holds.
use Rattle.std.specs.Prelude.{◌≡◌, ◌≢◌, ℕ, List, [], ◌∷◌, drop, Option, Some, None, Result, Ok, Err}
use Rattle.std.specs.declared.alloc.AllocError.{AllocError}
use Rattle.spawn_protocol.specs.declared.cut.Cut as told
use Rattle.spawn_protocol.specs.declared.cut.Cut.TheVariants as it
use Rattle.spawn_protocol.specs.declared.request.Request.{Request}
use Rattle.spawn_protocol.specs.Request.{Reader, step}
use Rattle.spawn_protocol.specs.Request.Reader.{Reading, Refused}
use Rattle.spawn_protocol.specs.Request.Start.{NoByte}

-- The start of a request at most; a request and the bytes after it; or a request with a field that is too long.
pub data Cut : Type 0 where
  More : Cut
  Whole : (request : Request) (rest : List ℕ) → Cut
  TooLong : Cut

-- the first of the requests that a byte gave, with the bytes after it; if it gave none, what comes later
abbrev pub first_of : List Request → List ℕ → Cut → Cut
first_of (request ∷ more) rest later = Whole request rest
first_of [] rest later = later

-- what a reader holds that gave no request
abbrev pub unfinished : Reader → Cut
unfinished (Reading start) = More
unfinished Refused = TooLong

-- what bytes are to a reader that takes them one after the other
abbrev pub cut_from : Reader → List ℕ → Cut
cut_from reader [] = unfinished reader
cut_from reader (b ∷ bs) = first_of (step reader b).0 bs (cut_from (step reader b).1 bs)

-- What bytes are. Byte 3, `5/28`, NUL, `a@x`, NUL, `b@y`, NUL, byte 7 are a request for delivery 3, and byte 7 after it.
abbrev pub cut : List ℕ → Cut
cut bytes = cut_from (Reading NoByte) bytes

-- the same as it is told: the bytes after a request are those after so many
abbrev pub told_cut : told.Cut → List ℕ → Cut
told_cut it.More bytes = More
told_cut (it.Whole request count) bytes = Whole request (drop count bytes)
told_cut it.TooLong bytes = TooLong

-- how many bytes the request has
abbrev pub counted : told.Cut → ℕ
counted it.More = 0
counted (it.Whole request count) = count
counted it.TooLong = 0

-- what one byte settled, after which so many were taken
abbrev pub ComesOf : Reader → ℕ → ℕ → Result (Option told.Cut) AllocError → Reader → Type 0
ComesOf old byte count (Ok None) new = (step old byte ≡ ([], new)) × (new ≢ Refused)
ComesOf old byte count (Ok (Some (it.Whole request n))) new = (step old byte ≡ (request ∷ [], new)) × (n ≡ count)
ComesOf old byte count (Ok (Some it.TooLong)) new = (step old byte ≡ ([], Refused))
ComesOf old byte count (Ok (Some it.More)) new = ⊥
ComesOf old byte count (Err why) new = Unit {0}
