-- The names of a directory.
use Rattle.std.specs.Prelude.{◌≡◌, ◌↔◌, ℕ, List, [], Contains}
use Rattle.std.specs.List.{AllPairs}
use Rattle.std.specs.Ordering.{nat_cmp}
use Rattle.std.specs.Cmp.Lexicographic.{slice_cmp}
use Rattle.std.specs.declared.cmp.Ordering.TheVariants.{Less}
use Rattle.call_fs.specs.Disk.{Disk}
use Rattle.call_fs.specs.Apply.{StandsAfter}

-- the names of a directory, in byte order
pub record AreNamesIn (d : Disk) (dir : List ℕ) (names : List (List ℕ)) : Type 0 where
  pub each : (name : List ℕ) → Contains names name ↔ StandsAfter d dir [] name
  pub rising : AllPairs (λ low high. slice_cmp nat_cmp low high ≡ Less) names
