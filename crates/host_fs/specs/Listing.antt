-- The next name of a listing.
use Rattle.std.specs.Prelude.{ℕ, List, Bool, true, false, IsTrue, Contains, if◌then◌else◌, ◌&&◌}
use Rattle.std.specs.Ordering.{nat_cmp, is_lt}
use Rattle.std.specs.Cmp.Lexicographic.{slice_cmp}
use Rattle.std.specs.Str.{IsUtf8}
use Rattle.call_fs.specs.Names.{IsPart}
use Rattle.call_fs.specs.declared.calls.CallData.{CallData}
use Rattle.call_fs.specs.declared.calls.CallData.TheVariants.{NextName}
use Rattle.call_fs.specs.declared.calls.Answer.{Answer}
use Rattle.call_fs.specs.declared.calls.Answer.TheVariants.{Name}

-- one name stands before another in byte order
abbrev pub is_before : List ℕ → List ℕ → Bool
is_before first second = is_lt (slice_cmp nat_cmp first second)

-- a name stands after that one, and before the nearest that was found, if there was one
abbrev pub is_nearer : List ℕ → List ℕ → Bool → List ℕ → Bool
is_nearer name after found nearest = is_before after name && (if found then is_before name nearest else true)

-- an entry of a listing that counts as a name: one part of a name, and UTF-8
pub record IsEntry (name : List ℕ) : Type 0 where
  pub part : IsPart name
  pub no_slash : ¬ (Contains name 47)
  pub utf8 : IsUtf8 name

-- the name that was found, if one was, stands after that one, and is one part of a name in UTF-8
abbrev pub FoundAfter : Bool → List ℕ → List ℕ → Type 0
FoundAfter true after name = IsTrue (is_before after name) × IsEntry name
FoundAfter false after name = Unit {0}

-- a name that is answered to a search stands after the one asked for
abbrev pub ComesAfter : CallData → Answer → Type 0
ComesAfter (NextName dir after) (Name name) = FoundAfter true after name
ComesAfter call answer = Unit {0}
