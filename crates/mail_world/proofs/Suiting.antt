-- What is due to an actor, and nothing of a child, suits the place of its pipes.
use Rattle.std.proofs.Common.{◌≡◌, ℕ, zero, suc, ◌<◌, List, Bool, false, Option, Some, None, arith}
use Rattle.call_fs.specs.declared.past.ChildData.TheVariants as child
use Rattle.call_fs.specs.declared.past.NeedData.{NeedData}
use Rattle.call_fs.specs.declared.past.NeedData.TheVariants as needs
use Rattle.call_fs.specs.declared.past.Own.{Own}
use Rattle.call_fs.specs.declared.program.Port.TheVariants as port
use Rattle.call_fs.specs.declared.program.Ready.{Ready}
use Rattle.local_deliver.specs.Drops.{Drop}
use Rattle.local_deliver.specs.Table.{due_at, due_by_drop, place_after}
use Rattle.local_deliver.specs.declared.place.Place.{Place}
use Rattle.local_deliver.specs.declared.row.Row.{Row}
use Rattle.local_deliver.specs.declared.row.Row.TheVariants as at
use Rattle.local_parts.specs.declared.arguments.LocalArgs.{LocalArgs}
use Rattle.maildir_drop.specs.Table.{due_at as drop_due}
use Rattle.maildir_drop.specs.declared.names.DropNames.{DropNames}
use Rattle.maildir_drop.specs.declared.row.Row.{Row as DropRow}
use Rattle.maildir_drop.specs.declared.row.Row.TheVariants as drop
use Rattle.world_events.specs.declared.event.Program.{Program}
use Rattle.world_events.specs.declared.event.Program.TheVariants.{Delivery}
use Rattle.mail_world.specs.Acting.{is_due_of_child, SuitsPlace}
use Rattle.mail_world.specs.History.{next_of}
use Rattle.mail_world.specs.Inside.{RunsBy}

-- that of a member
suits_place : (has : ℕ → Bool) (i : ℕ) (due : NeedData) → is_due_of_child has due ≡ false → i < 4 → SuitsPlace i due
suits_place has i (needs.Start (child.Bounce room)) own low = absurd cc
suits_place has i (needs.Start (child.Forward uid room)) own low = absurd cc
suits_place has i (needs.Start (child.Local slot words uid)) own low = absurd cc
suits_place has i (needs.Start (child.Remote slot domain sender recipient)) own low = low
suits_place has i (needs.File c) own low = tt
suits_place has i (needs.Take port.Input) own low = tt
suits_place has i (needs.Take port.Output) own low = tt
suits_place has i (needs.Take port.Clean) own low = low
suits_place has i (needs.Take port.Lspawn) own low = low
suits_place has i (needs.Take port.Rspawn) own low = low
suits_place has i (needs.Take port.Todo) own low = tt
suits_place has i (needs.Take (port.Program d)) own low = tt
suits_place has i (needs.Take (port.Status d)) own low = tt
suits_place has i (needs.Give port bytes) own low = tt
suits_place has i (needs.Command bytes) own low = tt
suits_place has i needs.Wait own low = tt
suits_place has i (needs.Ended status) own low = tt

-- that of a delivery
drop_suits : (i : ℕ) (names : DropNames) (left : List ℕ) (row : DropRow) → SuitsPlace i (drop_due names row left)
drop_suits i names left (drop.Create attempt) = tt
drop_suits i names left (drop.Append attempt fd) = tt
drop_suits i names left (drop.Sync attempt fd) = tt
drop_suits i names left (drop.Close attempt fd) = tt
drop_suits i names left (drop.Link attempt) = tt
drop_suits i names left (drop.Shut attempt fd reason) = tt
drop_suits i names left (drop.Unlink attempt outcome) = tt
drop_suits i names left (drop.Ended attempt outcome) = tt

by_drop : (i : ℕ) (o : Option Drop) → SuitsPlace i (due_by_drop o)
by_drop i None = tt
by_drop i (Some d) = drop_suits i d.names d.place.left d.place.row

delivery_suits : (has : ℕ → Bool) (i : ℕ) (args : LocalArgs) (p : Place) (row : Row) → is_due_of_child has (due_at args row p) ≡ false → SuitsPlace i (due_at args row p)
delivery_suits has i args p at.TakeInput own = tt
delivery_suits has i args p (at.Open what) own = tt
delivery_suits has i args p (at.Read what fd) own = tt
delivery_suits has i args p (at.Close what fd went) own = tt
delivery_suits has i args p at.NextName own = tt
delivery_suits has i args p at.Drop own = by_drop i p.dropping
delivery_suits has i args p at.Run own = tt
delivery_suits has i args p at.Start own = absurd cc
delivery_suits has i args p at.Feed own = tt
delivery_suits has i args p at.TakeStatus own = tt
delivery_suits has i args p (at.Report status) own = tt
delivery_suits has i args p (at.Fail reason) own = tt
delivery_suits has i args p (at.Ended status) own = tt

pub place_suits : (has : ℕ → Bool) (i : ℕ) (program : Program) (past : List Own) (p : ℕ) (ready : Ready) → is_due_of_child has (next_of program past p ready) ≡ false → RunsBy (Some i) program
    → SuitsPlace i (next_of program past p ready)
place_suits has zero program past p ready own runs = suits_place has 0 (next_of program past p ready) own (omega arith)
place_suits has (suc zero) program past p ready own runs = suits_place has 1 (next_of program past p ready) own (omega arith)
place_suits has (suc (suc zero)) program past p ready own runs = suits_place has 2 (next_of program past p ready) own (omega arith)
place_suits has (suc (suc (suc zero))) program past p ready own runs = suits_place has 3 (next_of program past p ready) own (omega arith)
place_suits has (suc (suc (suc (suc i)))) (Delivery start args) past p ready own runs = delivery_suits has (suc (suc (suc (suc i)))) args (place_after args past) (place_after args past).row own
place_suits has (suc (suc (suc (suc i)))) other past p ready own runs = absurd runs
