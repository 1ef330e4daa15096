-- An event of a delivery: what it leaves, and what the delivery rests on then.
use Rattle.std.proofs.Common.{◌≡◌, ◌≢◌, ℕ, List, ◌∷◌, length, Option, Some, None, refl, sym, ap, ◌∙◌, subst}
use Rattle.std.specs.Prelude.{IfSome}
use Rattle.call_fs.specs.declared.calls.CallData.{CallData}
use Rattle.call_fs.specs.declared.calls.CallData.TheVariants as call
use Rattle.call_fs.specs.declared.calls.How.TheVariants as how
use Rattle.call_fs.specs.declared.calls.Told.{Told}
use Rattle.call_fs.specs.declared.past.GotData.{GotData}
use Rattle.call_fs.specs.declared.past.GotData.TheVariants as came
use Rattle.call_fs.specs.declared.past.NeedData.{NeedData}
use Rattle.call_fs.specs.declared.past.NeedData.TheVariants as needs
use Rattle.call_fs.specs.declared.past.Own.{Own}
use Rattle.call_fs.specs.declared.program.Ready.{Ready}
use Rattle.call_fs.specs.Apply.{Fits, IsReadBy}
use Rattle.call_fs.specs.Disk.{Disk}
use Rattle.call_fs.specs.Past.{IsDueBy, IsRunBy, Makes, UsesHeld, held, taken}
use Rattle.call_fs.specs.Program.{MayCome}
use Rattle.local_deliver.specs.declared.place.Place.{Place}
use Rattle.local_deliver.specs.declared.row.Row.{Row}
use Rattle.local_deliver.specs.declared.row.Row.TheVariants as at
use Rattle.local_deliver.specs.Drops.{Drop, drop_arguments, due_drop, moved_drop}
use Rattle.local_deliver.specs.Table.{Next, act, due_at, due_by_drop, file_wanted, place_after}
use Rattle.local_deliver.specs.Writes.{AtWork, Writes, at_work}
use Rattle.local_deliver.proofs.Dropped.{stepped, works}
use Rattle.local_deliver.proofs.Holds.{uses}
use Rattle.local_deliver.proofs.Whole.{linked, writes_on}
use Rattle.local_parts.specs.declared.arguments.LocalArgs.{LocalArgs}
use Rattle.local_parts.specs.Inputs.{message_in}
use Rattle.local_parts.specs.Names.{last_name}
use Rattle.maildir_drop.specs.declared.names.DropNames.{DropNames}
use Rattle.maildir_drop.specs.declared.row.Attempt.TheVariants.{First}
use Rattle.maildir_drop.specs.declared.row.Row.{Row as DropRow}
use Rattle.maildir_drop.specs.declared.row.Row.TheVariants as drop
use Rattle.maildir_drop.specs.Names.{names_of}
use Rattle.maildir_drop.specs.Table.{due_at as drop_due}
use Rattle.queue_law.specs.Books.{own_call}
use Rattle.queue_law.specs.Numbers.{NamesSuit, Queue, Role}
use Rattle.queue_law.specs.Senders.{OnlyReads, called_queue}
use Rattle.program_law.specs.Delivery.Laws.{DeliveriesKeep, DeliveryLeads, IsNoCall, LinkedIsWhole}
use Rattle.program_law.specs.Delivery.Rests.{DeliveryRests, HasDrop}
use Rattle.program_law.proofs.Delivery.Deeds.{Leaves, reads_leave}
use Rattle.program_law.proofs.Delivery.Dropping.{begins, step}
use Rattle.program_law.proofs.Delivery.Holding.{held_on, held_still, own_descriptor}
use Rattle.program_law.proofs.Delivery.Placed.{differ, placed}

-- The drop at work then: one that has just begun, or that which was at work

abbrev Moves : Queue → List ℕ → Place → Row → GotData → Type 0
Moves r a p row got = (it : Drop) → row ≡ at.Drop → p.dropping ≡ Some it → HasDrop r a (moved_drop got it)

dropping_on : (args : LocalArgs) (now : ℕ) (r : Queue) (a : List ℕ) (p : Place) (got : GotData) → MayCome (due_at args p.row p) got → Moves r a p p.row got
    → AtWork (HasDrop r a) (act args now p.row got p)
dropping_on args now r a p got may moves =
    let next : Place = act args now p.row got p in
    works (HasDrop r a) (Unit {0}) (Unit {0}) next.row next.dropping
    (stepped args now (HasDrop r a) (Unit {0}) (Unit {0}) p.row got p refl
    (λ m path host. begins r a (names_of (drop_arguments args now path host p.message)) First)
    (λ it is drops none. moves it is drops)
    (λ is pid e. tt) (λ is e. tt) may)

-- A file call

module _ (q : Queue) (a : List ℕ) (args : LocalArgs) (past : List Own) (R : DeliveryRests q a args past) (read : ℕ) (ready : Ready) (c : CallData) (told : Told) (wrote : ℕ)
    (due : IsDueBy (Next args) past (own_call read ready c told)) (fits : Fits q.disk c told.answer wrote) where
  abbrev p : Place
  p = place_after args past

  abbrev answered : GotData
  answered = came.Answered told

  abbrev queue_then : (ℕ → Role) → Queue
  queue_then role = called_queue q a read c told.answer wrote role

  -- what the call does at a row
  abbrev Does : Row → Type 0
  Does row = (role : ℕ → Role) × Leaves a q (queue_then role) × Moves (queue_then role) a p row answered

  reads : (its : CallData) (row : Row) → OnlyReads q a its → ◌≡◌ {A = NeedData} (needs.File its) (needs.File c) → row ≢ at.Drop → Does row
  reads its row only e far =
      let same : its ≡ c = cc in
      (q.role, reads_leave q a read c told.answer wrote (subst (OnlyReads q a) same only) fits, λ it is drops. absurd (far is))

  module _ (S : NamesSuit q) where
    drops : (o : Option Drop) → p.dropping ≡ o → p.row ≡ at.Drop → due_by_drop o ≡ needs.File c → Does at.Drop
    drops None its is e = absurd (cc)
    drops (Some it) its is e =
        let w : Writes args past q.disk it = subst (λ o. IfSome (at_work at.Drop o) (Writes args past q.disk)) its
        (subst (λ row. IfSome (at_work row p.dropping) (Writes args past q.disk)) is R.writes) in
        let h : HasDrop q a it = subst (λ o. IfSome (at_work at.Drop o) (HasDrop q a)) its
        (subst (λ row. IfSome (at_work row p.dropping) (HasDrop q a)) is R.drop) in
        let d = step it.names a q S (placed args past q.disk it w) (differ args past q.disk it w) read wrote it.place.row it.place.left c told e h fits in (
          d.0,
          d.1,
          λ other row_is there.
              let same : it ≡ other = cc in
              subst (λ (x : Drop). HasDrop (queue_then d.0) a (moved_drop answered x)) same d.2,
        )

    does : (row : Row) → p.row ≡ row → due_at args row p ≡ needs.File c → Does row
    does (at.Open what) is e = reads (call.Open (file_wanted what p) how.Read) (at.Open what) tt e (λ w. cc)
    does (at.Read what fd) is e = reads (call.ReadAt fd (length p.read) 8192) (at.Read what fd) tt e (λ w. cc)
    does (at.Close what fd went) is e =
        reads (call.Close fd) (at.Close what fd went)
        (own_descriptor q a past fd R.holds (subst (λ row. UsesHeld (held past) (due_at args row p)) is (uses args past R.run))) e (λ w. cc)
    does at.NextName is e = reads (call.NextName args.home (last_name p.names)) at.NextName tt e (λ w. cc)
    does at.Drop is e = drops p.dropping refl is e
    does at.TakeInput is e = absurd (cc)
    does at.Run is e = absurd (cc)
    does at.Start is e = absurd (cc)
    does at.Feed is e = absurd (cc)
    does at.TakeStatus is e = absurd (cc)
    does (at.Report status) is e = absurd (cc)
    does (at.Fail reason) is e = absurd (cc)
    does (at.Ended status) is e = absurd (cc)

  module _ (by : IsReadBy q.disk c told) where
    rests_then : (role : ℕ → Role) → Moves (queue_then role) a p p.row answered → DeliveryRests (queue_then role) a args (own_call read ready c told ∷ past)
    rests_then role moves =
        let r : Queue = queue_then role in
        let run : IsRunBy (Next args) (own_call read ready c told ∷ past) = (R.run, due) in
        let made : Makes q.disk read (needs.File c) answered r.disk = ((wrote, fits, refl), by) in
        record {
          run = run;
          writes = writes_on args past (own_call read ready c told) q.disk r.disk run R.writes made;
          drop = dropping_on args read r a p answered (subst (λ x. MayCome x answered) (sym due.0) due.1) moves;
          holds = held_on q a past read ready c told wrote role fits R.holds;
        }

    leads : NamesSuit q → (role : ℕ → Role) × DeliveryLeads a q (queue_then role) args (own_call read ready c told ∷ past)
    leads S =
        let d = does S p.row refl due.0 in
        (d.0, record { foreign = d.1.foreign; outside = d.1.outside; own = d.1.own; drops = d.1.drops; rests = rests_then d.0 d.2 })

-- Any other event

no_change : (d : Disk) (read : ℕ) (due : NeedData) (got : GotData) → IsNoCall due → Makes d read due got d
no_change d read (needs.File c) got none = absurd none
no_change d read (needs.Take port) got none = refl
no_change d read (needs.Give port bytes) got none = refl
no_change d read (needs.Start child) got none = refl
no_change d read (needs.Command bytes) got none = refl
no_change d read needs.Wait got none = refl
no_change d read (needs.Ended status) got none = refl

-- a drop makes file calls alone
only_calls : (names : DropNames) (row : DropRow) (left : List ℕ) (got : GotData) → IsNoCall (drop_due names row left) → MayCome (drop_due names row left) got → ⊥
only_calls names (drop.Create attempt) left got none may = none
only_calls names (drop.Append attempt fd) left got none may = none
only_calls names (drop.Sync attempt fd) left got none may = none
only_calls names (drop.Close attempt fd) left got none may = none
only_calls names (drop.Link attempt) left got none may = none
only_calls names (drop.Shut attempt fd reason) left got none may = none
only_calls names (drop.Unlink attempt outcome) left got none may = none
only_calls names (drop.Ended attempt outcome) left got none may = may

rests_on : (q : Queue) (a : List ℕ) (args : LocalArgs) (past : List Own) (own : Own) → DeliveryRests q a args past → IsDueBy (Next args) past own → IsNoCall own.due
    → DeliveryRests q a args (own ∷ past)
rests_on q a args past own R due none =
    let p : Place = place_after args past in
    let run : IsRunBy (Next args) (own ∷ past) = (R.run, due) in
    let may : MayCome (due_at args p.row p) own.came = subst (λ x. MayCome x own.came) (sym due.0) due.1 in
    record {
      run = run;
      writes = writes_on args past own q.disk q.disk run R.writes (no_change q.disk own.read own.due own.came none);
      drop = dropping_on args own.read q a p own.came may (λ it is drops.
          let its : due_drop it ≡ own.due = sym (ap (λ row. due_at args row p) is ∙ ap due_by_drop drops) ∙ due.0 in
          absurd (only_calls it.names it.place.row it.place.left own.came (subst IsNoCall (sym its) none) (subst (λ x. MayCome x own.came) (sym its) due.1)));
      holds = held_still q a past own none R.holds;
    }

pub deliveries_keep : DeliveriesKeep
deliveries_keep = record {
  begins = λ q a args. record { run = tt; writes = tt; drop = tt; holds = λ fd mode is. absurd (cc) };
  calls = λ q a args past read ready c told wrote S R due fits by. leads q a args past R read ready c told wrote due fits by S;
  rest = rests_on;
}

-- A link that is due

module _ (q : Queue) (args : LocalArgs) (past : List Own) (from to : List ℕ) where
  abbrev Taken : Type 0
  Taken = (message : List ℕ) × (message_in (taken past) ≡ Some message)

  by_drop : (o : Option Drop) → due_by_drop o ≡ needs.File (call.Link from to) → IfSome o (Writes args past q.disk) → Taken
  by_drop None e w = absurd (cc)
  by_drop (Some it) e w = (w.message, w.input)

  by_row : (p : Place) (row : Row) → due_at args row p ≡ needs.File (call.Link from to) → IfSome (at_work row p.dropping) (Writes args past q.disk) → Taken
  by_row p at.Drop e w = by_drop p.dropping e w
  by_row p at.TakeInput e w = absurd (cc)
  by_row p (at.Open what) e w = absurd (cc)
  by_row p (at.Read what fd) e w = absurd (cc)
  by_row p (at.Close what fd went) e w = absurd (cc)
  by_row p at.NextName e w = absurd (cc)
  by_row p at.Run e w = absurd (cc)
  by_row p at.Start e w = absurd (cc)
  by_row p at.Feed e w = absurd (cc)
  by_row p at.TakeStatus e w = absurd (cc)
  by_row p (at.Report status) e w = absurd (cc)
  by_row p (at.Fail reason) e w = absurd (cc)
  by_row p (at.Ended status) e w = absurd (cc)

pub linked_is_whole : LinkedIsWhole
linked_is_whole q a args past now ready from to R due =
    let p : Place = place_after args past in
    let m = by_row q args past from to p p.row due R.writes in
    (m.0, m.1, linked args past now ready q.disk from to m.0 due R.writes m.1)
