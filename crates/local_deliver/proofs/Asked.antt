-- What a delivery asks for, and the message that its commands get.
use Rattle.std.proofs.Common.{◌≡◌, ℕ, List, Option, Some, None, refl}
use Rattle.call_fs.specs.declared.past.NeedData.TheVariants as needs
use Rattle.call_fs.specs.declared.past.Own.{Own}
use Rattle.call_fs.specs.declared.program.Ready.{Ready}
use Rattle.call_fs.specs.Past.{IsRunBy, taken}
use Rattle.local_parts.specs.declared.arguments.LocalArgs.{LocalArgs}
use Rattle.local_parts.specs.Inputs.{message_in}
use Rattle.maildir_drop.specs.declared.names.DropNames.{DropNames}
use Rattle.maildir_drop.specs.declared.row.Row.{Row as DropRow}
use Rattle.maildir_drop.specs.declared.row.Row.TheVariants as drop
use Rattle.maildir_drop.specs.Ends.{end_at}
use Rattle.maildir_drop.specs.Table.{due_at as drop_due}
use Rattle.local_deliver.specs.declared.place.Place.{Place}
use Rattle.local_deliver.specs.declared.row.Row.{Row}
use Rattle.local_deliver.specs.declared.row.Row.TheVariants as at
use Rattle.local_deliver.specs.Asked.{IsAsked}
use Rattle.local_deliver.specs.Drops.{Drop}
use Rattle.local_deliver.specs.Table.{Next, due_at, due_by_drop, place_after}
use Rattle.local_deliver.proofs.Carrying.{holds}
use Rattle.local_deliver.proofs.Deeds.{Deeds, deeds_of}
use Rattle.local_deliver.proofs.Holds.{at_work}
use Rattle.local_deliver.proofs.Underway.{AtSome, Inv}

asked_of_drop : (names : DropNames) (left : List ℕ) (row : DropRow) → end_at names row ≡ None → IsAsked (drop_due names row left)
asked_of_drop names left (drop.Create attempt) e = tt
asked_of_drop names left (drop.Append attempt fd) e = tt
asked_of_drop names left (drop.Sync attempt fd) e = tt
asked_of_drop names left (drop.Close attempt fd) e = tt
asked_of_drop names left (drop.Link attempt) e = tt
asked_of_drop names left (drop.Shut attempt fd reason) e = tt
asked_of_drop names left (drop.Unlink attempt outcome) e = tt
asked_of_drop names left (drop.Ended attempt outcome) e = absurd (cc)

asked_of_some : (args : LocalArgs) (d : Deeds) (p : Place) (o : Option Drop) → (o ≡ None → ⊥) → AtSome args d p o → IsAsked (due_by_drop o)
asked_of_some args d p None isnt h = absurd (isnt refl)
asked_of_some args d p (Some it) isnt h = asked_of_drop it.names it.place.left it.place.row h.1

asked_at : (args : LocalArgs) (d : Deeds) (p : Place) (row : Row) → (row ≡ at.Drop → p.dropping ≡ None → ⊥) → Inv args d row p → IsAsked (due_at args row p)
asked_at args d p at.TakeInput work h = tt
asked_at args d p (at.Open what) work h = tt
asked_at args d p (at.Read what fd) work h = tt
asked_at args d p (at.Close what fd went) work h = tt
asked_at args d p at.NextName work h = tt
asked_at args d p at.Drop work h = asked_of_some args d p p.dropping (work refl) h
asked_at args d p at.Run work h = tt
asked_at args d p at.Start work h = tt
asked_at args d p at.Feed work h = refl
asked_at args d p at.TakeStatus work h = refl
asked_at args d p (at.Report status) work h = tt
asked_at args d p (at.Fail reason) work h = tt
asked_at args d p (at.Ended status) work h = tt

pub asked : (args : LocalArgs) (past : List Own) (now : ℕ) (ready : Ready) → IsRunBy (Next args) past → IsAsked (Next args past now ready)
asked args past now ready run =
    let p : Place = place_after args past in
    asked_at args (deeds_of past) p p.row (at_work args past run) (holds args past run)

-- A command is due only when the message is known

no_command : (names : DropNames) (left : List ℕ) (row : DropRow) (text : List ℕ) → drop_due names row left ≡ needs.Command text → ⊥
no_command names left (drop.Create attempt) text due = absurd (cc)
no_command names left (drop.Append attempt fd) text due = absurd (cc)
no_command names left (drop.Sync attempt fd) text due = absurd (cc)
no_command names left (drop.Close attempt fd) text due = absurd (cc)
no_command names left (drop.Link attempt) text due = absurd (cc)
no_command names left (drop.Shut attempt fd reason) text due = absurd (cc)
no_command names left (drop.Unlink attempt outcome) text due = absurd (cc)
no_command names left (drop.Ended attempt outcome) text due = absurd (cc)

no_command_of : (o : Option Drop) (text : List ℕ) → due_by_drop o ≡ needs.Command text → ⊥
no_command_of None text due = absurd (cc)
no_command_of (Some it) text due = no_command it.names it.place.left it.place.row text due

message_at : (args : LocalArgs) (d : Deeds) (p : Place) (row : Row) (text : List ℕ) → Inv args d row p → due_at args row p ≡ needs.Command text → message_in d.taken ≡ Some p.message
message_at args d p at.Run text h due = h.under.known.input
message_at args d p at.TakeInput text h due = absurd (cc)
message_at args d p (at.Open what) text h due = absurd (cc)
message_at args d p (at.Read what fd) text h due = absurd (cc)
message_at args d p (at.Close what fd went) text h due = absurd (cc)
message_at args d p at.NextName text h due = absurd (cc)
message_at args d p at.Drop text h due = absurd (no_command_of p.dropping text due)
message_at args d p at.Start text h due = absurd (cc)
message_at args d p at.Feed text h due = absurd (cc)
message_at args d p at.TakeStatus text h due = absurd (cc)
message_at args d p (at.Report status) text h due = absurd (cc)
message_at args d p (at.Fail reason) text h due = absurd (cc)
message_at args d p (at.Ended status) text h due = absurd (cc)

pub message : (args : LocalArgs) (past : List Own) (now : ℕ) (ready : Ready) (text : List ℕ) → IsRunBy (Next args) past → Next args past now ready ≡ needs.Command text
    → message_in (taken past) ≡ Some (place_after args past).message
message args past now ready text run due =
    let p : Place = place_after args past in
    message_at args (deeds_of past) p p.row text (holds args past run) due
