-- The lives of messages, as they are read off the events of injectors and senders, stand for the books.
use Rattle.std.specs.Prelude.{◌≡◌, ℕ, [], map, reverse, true, Option, Some, None}
use Rattle.std.specs.List.{AllZip, filter}
use Rattle.std.specs.Ordering.{nat_cmp}
use Rattle.std.specs.BTreeMap.{get}
use Rattle.queue_paths.specs.Names.{is_number}
use Rattle.queue_law.specs.Books.{Books, Injection}
use Rattle.queue_law.specs.Ledgers.{Spot, unrouted}
use Rattle.script_fates.specs.declared.fates.Fates.{Fates}
use Rattle.script_fates.specs.declared.fates.Spot.{Spot as KeptSpot}
use Rattle.script_fates.specs.declared.fates.Tenure.{Tenure}
use Rattle.script_fates.specs.declared.routers.Routers.{Routers}
use Rattle.script_fates.specs.Routers.{routes_at}

abbrev pub spot_of : KeptSpot → Spot
spot_of s = record { channel = s.channel; place = s.place }

-- a life stands for an injection, if these control files are kept
pub record IsTenure (kept : Routers) (t : Tenure) (q : Injection) : Type 0 where
  pub number : t.number ≡ q.number
  pub mail : t.mail ≡ q.actor
  pub delivered : map spot_of (reverse t.delivered.items) ≡ q.ledger.delivered
  pub routes : routes_at kept t.routes ≡ Some q.ledger.routes

abbrev pub IsTenureIf : Routers → Option Tenure → Option Injection → Type 0
IsTenureIf kept None None = Unit {0}
IsTenureIf kept None (Some q) = ⊥
IsTenureIf kept (Some t) None = ⊥
IsTenureIf kept (Some t) (Some q) = IsTenure kept t q

-- a number that a message may have
abbrev pub IsUsed : Option ℕ → Type 0
IsUsed None = Unit {0}
IsUsed (Some n) = is_number n ≡ true

-- each life that lasts is kept under its own number
pub record AreFates (f : Fates) (b : Books) : Type 0 where
  pub living : (n : ℕ) → is_number n ≡ true → IsTenureIf f.routers (get nat_cmp f.living n) (b.living n)
  pub over : AllZip (IsTenure f.routers) (reverse f.over.items) (filter (λ q. is_number q.number) b.over)
  pub none : f.routers.unrouted ≡ unrouted
  pub placed : (n : ℕ) (q : Injection) → b.living n ≡ Some q → q.number ≡ n

-- the books before any event
abbrev pub no_books : Books
no_books = record { living = λ _. None; over = [] }
