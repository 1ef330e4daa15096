-- Which numbers messages have where nothing fails.
use Rattle.std.specs.Prelude.{◌≡◌, ◌<◌, ◌≤◌, ◌^◌, ℕ, List, true, Some}
use Rattle.std.specs.List.{list_all}
use Rattle.call_fs.specs.Disk.{Disk}
use Rattle.queue_law.specs.Books.{Injection}
use Rattle.mail_world.specs.History.{Event, Legal, after}
use Rattle.settle_law.specs.Well.{goes_well}

-- The disk relation has no bound on numbers; where each file that was made has a number that a program can name, so has each message: one from 1 to
-- the last of a u64.
abbrev pub NumbersAreSmall : Type 0
NumbersAreSmall = (d : Disk) (h : List Event) → Legal d h → list_all goes_well h ≡ true → (n : ℕ) (i : Injection) → (after d h).books.living n ≡ Some i → (1 ≤ n) × (n < 2 ^ 64)
