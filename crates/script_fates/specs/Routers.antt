-- The control files that are kept, and where.
use Rattle.std.specs.Prelude.{◌≡◌, ℕ, Option, Some, None}
use Rattle.std.specs.List.{slice_get}
use Rattle.address_rules.specs.declared.controls.Controls.{Controls}
use Rattle.script_fates.specs.declared.routers.Routers.{Routers}

-- those at a place, or those of a message that no sender has routed
abbrev pub routes_at : Routers → Option ℕ → Option Controls
routes_at kept None = Some kept.unrouted
routes_at kept (Some place) = slice_get kept.read.items place

-- what has a place keeps it
pub record AreMore (old new : Routers) : Type 0 where
  pub unrouted : new.unrouted ≡ old.unrouted
  pub read : (place : ℕ) (by : Controls) → slice_get old.read.items place ≡ Some by → slice_get new.read.items place ≡ Some by
