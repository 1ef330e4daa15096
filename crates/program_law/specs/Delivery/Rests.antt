-- What a local delivery rests on, of the queue and of its disk.
use Rattle.std.specs.Prelude.{◌≡◌, ℕ, List, Some}
use Rattle.call_fs.specs.declared.modes.Mode.{Mode}
use Rattle.call_fs.specs.declared.past.Own.{Own}
use Rattle.call_fs.specs.Past.{IsRunBy, held}
use Rattle.local_deliver.specs.Drops.{Drop}
use Rattle.local_deliver.specs.Table.{Next, place_after}
use Rattle.local_deliver.specs.Writes.{AtWork, WritesOn}
use Rattle.local_parts.specs.declared.arguments.LocalArgs.{LocalArgs}
use Rattle.maildir_drop.specs.declared.names.DropNames.{DropNames}
use Rattle.maildir_drop.specs.declared.row.Row.{Row}
use Rattle.maildir_drop.specs.declared.row.Row.TheVariants as at
use Rattle.maildir_drop.specs.Names.{pair_at}
use Rattle.queue_law.specs.Injectors.{IsHeld, IsOpen}
use Rattle.queue_law.specs.Numbers.{Queue}
use Rattle.program_law.specs.Delivery.Leaves.{IsDropOf}

-- a file of its own has this name
abbrev pub HasNamed : Queue → List ℕ → List ℕ → Type 0
HasNamed q a name = (i : ℕ) × IsDropOf q a name i

-- and is open by this descriptor, which is its own too
abbrev pub HasWritten : Queue → List ℕ → List ℕ → ℕ → Type 0
HasWritten q a name fd = (i : ℕ) × IsDropOf q a name i × IsOpen q a fd i

-- What a drop has at each row of its table: from its create to its unlink the name in `tmp` leads to a file of its own; and until it
-- closes that file its descriptor is open on it. Its name in `new` is a reader's once its link is made.
abbrev pub HasFile : Queue → List ℕ → DropNames → Row → Type 0
HasFile q a names (at.Create attempt) = Unit {0}
HasFile q a names (at.Append attempt fd) = HasWritten q a (pair_at names attempt).tmp fd.0
HasFile q a names (at.Sync attempt fd) = HasWritten q a (pair_at names attempt).tmp fd.0
HasFile q a names (at.Close attempt fd) = HasWritten q a (pair_at names attempt).tmp fd.0
HasFile q a names (at.Shut attempt fd reason) = HasWritten q a (pair_at names attempt).tmp fd.0
HasFile q a names (at.Link attempt) = HasNamed q a (pair_at names attempt).tmp
HasFile q a names (at.Unlink attempt outcome) = HasNamed q a (pair_at names attempt).tmp
HasFile q a names (at.Ended attempt outcome) = Unit {0}

abbrev pub HasDrop : Queue → List ℕ → Drop → Type 0
HasDrop q a it = HasFile q a it.names it.place.row

-- what a past holds open is open, and this actor's
abbrev pub HoldsOpen : Queue → List ℕ → List Own → Type 0
HoldsOpen q a past = (fd : ℕ) (mode : Mode) → held past fd ≡ Some mode
    → (i : ℕ) × IsHeld q.disk.opens q.holder a fd (record { number = i; mode = mode })

-- What the delivery a with these arguments rests on after this past: that the past is a run of its table; what the drop at work has
-- written so far, and that this is a file of its own; and what it holds open.
pub record DeliveryRests (q : Queue) (a : List ℕ) (args : LocalArgs) (past : List Own) : Type 0 where
  pub run : IsRunBy (Next args) past
  pub writes : WritesOn args past q.disk
  pub drop : AtWork (HasDrop q a) (place_after args past)
  pub holds : HoldsOpen q a past
