-- Each link that a delivery makes is of a file that is whole.
use Rattle.std.proofs.Common.{◌≡◌, ℕ, List, [], ◌∷◌, Option, Some, None, Contains, refl, sym, ap, ◌∙◌, subst, arith}
use Rattle.std.specs.Prelude.{IfSome}
use Rattle.std.proofs.lemmas.List.Elements.{Contains-append_right}
use Rattle.call_fs.specs.declared.calls.CallData.TheVariants.{Link}
use Rattle.call_fs.specs.declared.past.GotData.{GotData}
use Rattle.call_fs.specs.declared.past.NeedData.TheVariants as needs
use Rattle.call_fs.specs.declared.past.Own.{Own}
use Rattle.call_fs.specs.declared.program.Ready.{Ready}
use Rattle.call_fs.specs.Disk.{Disk, IsWhole}
use Rattle.call_fs.specs.Past.{IsRunBy, LeadsTo, Makes, taken, taken_by}
use Rattle.call_fs.specs.Program.{MayCome}
use Rattle.dot_qmail.specs.declared.line.Line.{Line}
use Rattle.dot_qmail.specs.declared.line.Line.TheVariants as line
use Rattle.local_parts.specs.declared.arguments.LocalArgs.{LocalArgs}
use Rattle.local_parts.specs.Course.{lines_of, work_of}
use Rattle.local_parts.specs.Course.Work.{ToMaildir}
use Rattle.local_parts.specs.Inputs.{message_in}
use Rattle.local_parts.specs.Texts.{maildir_text}
use Rattle.maildir_drop.specs.declared.arguments.Arguments.{Arguments}
use Rattle.maildir_drop.specs.declared.names.DropNames.{DropNames}
use Rattle.maildir_drop.specs.declared.row.Row.{Row as DropRow}
use Rattle.maildir_drop.specs.declared.row.Row.TheVariants as drop
use Rattle.maildir_drop.specs.Names.{names_of, pair_at}
use Rattle.maildir_drop.specs.Rests.{LeavesAlone, Rests, RestsOn}
use Rattle.maildir_drop.specs.Table.{due_at as drop_due, moved as drop_moved}
use Rattle.maildir_drop.proofs.Drops.{begun_rests, rests_on, rests_still}
use Rattle.local_deliver.specs.declared.place.Place.{Place}
use Rattle.local_deliver.specs.declared.row.Row.{Row}
use Rattle.local_deliver.specs.declared.row.Row.TheVariants as at
use Rattle.local_deliver.specs.declared.row.Wanted.TheVariants as wanted
use Rattle.local_deliver.specs.Carried.{AreWhole}
use Rattle.local_deliver.specs.Drops.{Drop, drop_arguments, due_drop, moved_drop}
use Rattle.local_deliver.specs.Table.{Next, act, due_at, due_by_drop, place_after}
use Rattle.local_deliver.specs.Writes.{AtWork, Writes, WritesOn, at_work}
use Rattle.local_deliver.proofs.Deeds.{Deeds, deeds_of}
use Rattle.local_deliver.proofs.Carrying.{holds}
use Rattle.local_deliver.proofs.Underway.{AtSome, Inv}
use Rattle.local_deliver.proofs.Causing.{told_at_drop}
use Rattle.local_deliver.proofs.Dropped.{MayBegin, stepped, works}

-- the drop at work has written just what it says of this message, on this disk
record Wrote (args : LocalArgs) (message : List ℕ) (d : Disk) (it : Drop) : Type 0 where
  of : Arguments
  names : it.names ≡ names_of of
  bytes : of.bytes ≡ maildir_text args message
  rests : RestsOn of it.place d

some_same : {X : Type 0} (x y : X) → ◌≡◌ {A = Option X} (Some x) (Some y) → x ≡ y
some_same x y e = cc

wrote : (args : LocalArgs) (past : List Own) (message : List ℕ) (d : Disk) (it : Drop) → message_in (taken past) ≡ Some message → Writes args past d it → Wrote args message d it
wrote args past message d it e w = record {
  of = drop_arguments args w.moment w.path w.host w.message;
  names = w.names;
  bytes = ap (maildir_text args) (some_same w.message message (sym w.input ∙ e));
  rests = w.rests;
}

-- a step of the drop keeps that
moved : (args : LocalArgs) (message : List ℕ) (last mid : Disk) (read : ℕ) (got : GotData) (d : Drop) → Wrote args message mid d → MayCome (due_drop d) got
    → Makes mid read (due_drop d) got last → Wrote args message last (moved_drop got d)
moved args message last mid read got d w may made = record {
  of = w.of;
  names = w.names;
  bytes = w.bytes;
  rests = subst (λ n. RestsOn w.of (drop_moved n d.place got) last) (sym w.names)
      (rests_on w.of d.place read got mid last w.rests (subst (λ n. MayCome (drop_due n d.place.row d.place.left) got) w.names may)
      (subst (λ n. Makes mid read (drop_due n d.place.row d.place.left) got last) w.names made));
}

-- the message is known where a drop may begin
known : (args : LocalArgs) (d : Deeds) (p : Place) (row : Row) → Inv args d row p → MayBegin row p → message_in d.taken ≡ Some p.message
known args d p (at.Close wanted.Host fd went) h m = h.input
known args d p (at.Close wanted.Instructions fd went) h m = h.file.before.input
known args d p at.NextName h m = h.input
known args d p at.Drop h m = by p.dropping h m.1
  where
    by : (o : Option Drop) → AtSome args d p o → o ≡ Some m.0 → message_in d.taken ≡ Some p.message
    by None h e = absurd (cc)
    by (Some it) h e = h.0.under.known.input
known args d p at.Run h m = h.under.known.input
known args d p at.TakeInput h m = absurd m
known args d p (at.Open what) h m = absurd m
known args d p (at.Read what fd) h m = absurd m
known args d p at.Start h m = absurd m
known args d p at.Feed h m = absurd m
known args d p at.TakeStatus h m = absurd m
known args d p (at.Report status) h m = absurd m
known args d p (at.Fail reason) h m = absurd m
known args d p (at.Ended status) h m = absurd m

-- no more of the input is taken there
same_drop : (names : DropNames) (row : DropRow) (left : List ℕ) (old : List ℕ) (got : GotData) → taken_by old (drop_due names row left) got ≡ old
same_drop names (drop.Create a) left old got = refl
same_drop names (drop.Append a fd) left old got = refl
same_drop names (drop.Sync a fd) left old got = refl
same_drop names (drop.Close a fd) left old got = refl
same_drop names (drop.Link a) left old got = refl
same_drop names (drop.Shut a fd reason) left old got = refl
same_drop names (drop.Unlink a outcome) left old got = refl
same_drop names (drop.Ended a outcome) left old got = refl

same_by_drop : (o : Option Drop) (old : List ℕ) (got : GotData) → taken_by old (due_by_drop o) got ≡ old
same_by_drop None old got = refl
same_by_drop (Some it) old got = same_drop it.names it.place.row it.place.left old got

same : (args : LocalArgs) (p : Place) (row : Row) (old : List ℕ) (got : GotData) → MayBegin row p → taken_by old (due_at args row p) got ≡ old
same args p (at.Close what fd went) old got m = refl
same args p at.NextName old got m = refl
same args p at.Drop old got m = same_by_drop p.dropping old got
same args p at.Run old got m = refl
same args p at.TakeInput old got m = absurd m
same args p (at.Open what) old got m = absurd m
same args p (at.Read what fd) old got m = absurd m
same args p at.Start old got m = absurd m
same args p at.Feed old got m = absurd m
same args p at.TakeStatus old got m = absurd m
same args p (at.Report status) old got m = absurd m
same args p (at.Fail reason) old got m = absurd m
same args p (at.Ended status) old got m = absurd m

-- a step of the delivery keeps that
wrote_on : (args : LocalArgs) (event : Own) (before : List Own) (mid last : Disk) → IsRunBy (Next args) (event ∷ before) → WritesOn args before mid
    → Makes mid event.read event.due event.came last → (message : List ℕ) → message_in (taken (event ∷ before)) ≡ Some message
    → AtWork (Wrote args message last) (place_after args (event ∷ before))
wrote_on args event before mid last run writes makes message e =
    let p : Place = place_after args before in
    let next : Place = act args event.read p.row event.came p in
    let due = run.1.0 in
    let may = subst (λ x. MayCome x event.came) (sym due) run.1.1 in
    let made = subst (λ x. Makes mid event.read x event.came last) (sym due) makes in
    let input = subst (λ x. message_in (taken_by (taken before) x event.came) ≡ Some message) (sym due) e in
    let old = holds args before run.0 in
    let before_is = λ (m : MayBegin p.row p). sym (ap message_in (same args p p.row (taken before) event.came m)) ∙ input in
    let it_is = λ (m : MayBegin p.row p). some_same p.message message (sym (known args (deeds_of before) p p.row old m) ∙ before_is m) in
    works (Wrote args message last) (Unit {0}) (Unit {0}) next.row next.dropping
    (stepped args event.read (Wrote args message last) (Unit {0}) (Unit {0}) p.row event.came p refl
    (λ m path host.
    let of = drop_arguments args event.read path host p.message in
    record { of = of; names = refl; bytes = ap (maildir_text args) (it_is m); rests = begun_rests of last })
    (λ d is drops none.
    let m : MayBegin p.row p = subst (λ row. MayBegin row p) (sym is) (d, drops) in
    let w = subst (λ o. IfSome (at_work at.Drop o) (Writes args before mid)) drops (subst (λ row. IfSome (at_work row p.dropping) (Writes args before mid)) is writes) in
    let its_due : due_at args p.row p ≡ due_drop d = ap (λ row. due_at args row p) is ∙ ap due_by_drop drops in
    moved args message last mid event.read event.came d (wrote args before message mid d (before_is m) w)
    (subst (λ x. MayCome x event.came) its_due may) (subst (λ x. Makes mid event.read x event.came last) its_due made))
    (λ is pid got. tt)
    (λ is got. tt)
    may)

-- a maildir that is next is one of the lines
maildir_in : (ahead : List Line) (path : List ℕ) → work_of ahead ≡ ToMaildir path → Contains ahead (line.Maildir path)
maildir_in [] path e = absurd (cc)
maildir_in (line.Forward address ∷ more) path e = Contains-append_right (line.Forward address ∷ []) more (line.Maildir path) (maildir_in more path e)
maildir_in (line.Command text ∷ more) path e = absurd (cc)
maildir_in (line.Maildir other ∷ more) path e = let same : other ≡ path = cc in (0, omega arith, ap (λ t. line.Maildir t) same)
maildir_in (line.Mailbox other ∷ more) path e = absurd (cc)

-- the drop at work is that of a line of the instructions
of_line : (args : LocalArgs) (past : List Own) (d : Disk) → IsRunBy (Next args) past
    → ((message : List ℕ) → message_in (taken past) ≡ Some message → AtWork (Wrote args message d) (place_after args past)) → WritesOn args past d
of_line args past d run rested = by (place_after args past).row (place_after args past).dropping refl refl
  where
    by : (row : Row) (o : Option Drop) → (place_after args past).row ≡ row → (place_after args past).dropping ≡ o → IfSome (at_work row o) (Writes args past d)
    by at.Drop None is drops = tt
    by at.Drop (Some it) is drops =
        let p : Place = place_after args past in
        let h = (subst (AtSome args (deeds_of past) p) drops (subst (λ row. Inv args (deeds_of past) row p) is (holds args past run))).0 in
        let w = subst (λ o. IfSome (at_work at.Drop o) (Wrote args p.message d)) drops
        (subst (λ row. IfSome (at_work row p.dropping) (Wrote args p.message d)) is (rested p.message h.under.known.input)) in
        record {
          message = p.message;
          lines = lines_of p.course;
          moment = h.moment;
          path = h.path;
          host = p.host;
          input = h.under.known.input;
          told = told_at_drop args past it run is drops;
          line = Contains-append_right p.course.done p.course.ahead (line.Maildir h.path) (maildir_in p.course.ahead h.path h.work);
          names = h.names;
          rests = subst (λ n. Rests n (maildir_text args p.message) it.place.row it.place.left d) (sym w.names ∙ h.names)
              (subst (λ b. Rests (names_of w.of) b it.place.row it.place.left d) w.bytes w.rests);
        }
    by row o is drops = tt

-- after each run

pub writes_on : (args : LocalArgs) (past : List Own) (event : Own) (mid last : Disk) → IsRunBy (Next args) (event ∷ past) → WritesOn args past mid
    → Makes mid event.read event.due event.came last → WritesOn args (event ∷ past) last
writes_on args past event mid last run writes made = of_line args (event ∷ past) last run (wrote_on args event past mid last run writes made)

-- others leave alone what the drop rests on

with_both : {X : Type 0} (o : Option X) (P Q R : X → Type 0) → ((x : X) → P x → Q x → R x) → IfSome o P → IfSome o Q → IfSome o R
with_both None P Q R f p q = tt
with_both (Some x) P Q R f p q = f x p q

still_writes : (args : LocalArgs) (past : List Own) (d e : Disk) (it : Drop) → LeavesAlone it.names it.place.row d e → Writes args past d it → Writes args past e it
still_writes args past d e it alone w = record {
  message = w.message;
  lines = w.lines;
  moment = w.moment;
  path = w.path;
  host = w.host;
  input = w.input;
  told = w.told;
  line = w.line;
  names = w.names;
  rests = rests_still (drop_arguments args w.moment w.path w.host w.message) it.place d e
      (subst (λ (n : DropNames). LeavesAlone n it.place.row d e) w.names alone) w.rests;
}

pub writes_still : (args : LocalArgs) (past : List Own) (d e : Disk) → AtWork (λ it. LeavesAlone it.names it.place.row d e) (place_after args past)
    → WritesOn args past d → WritesOn args past e
writes_still args past d e alone writes =
    let p : Place = place_after args past in
    with_both (at_work p.row p.dropping) (λ it. LeavesAlone it.names it.place.row d e) (Writes args past d) (Writes args past e)
    (still_writes args past d e) alone writes

writing : (args : LocalArgs) (past : List Own) (first last : Disk) → IsRunBy (Next args) past → LeadsTo first past last → WritesOn args past last
writing args [] first last run leads = tt
writing args (event ∷ before) first last run leads = writes_on args before event leads.0 last run (writing args before first leads.0 run.0 leads.1) leads.2

-- a link is due only at the row of a drop, for its file

linked_file : (names : DropNames) (bytes : List ℕ) (row : DropRow) (left from to : List ℕ) (last : Disk) → drop_due names row left ≡ needs.File (Link from to) → Rests names bytes row left last → IsWhole last from bytes
linked_file names bytes (drop.Link a) left from to last e r =
    let same : (pair_at names a).tmp ≡ from = cc in
    subst (λ name. IsWhole last name bytes) same r
linked_file names bytes (drop.Create a) left from to last e r = absurd (cc)
linked_file names bytes (drop.Append a fd) left from to last e r = absurd (cc)
linked_file names bytes (drop.Sync a fd) left from to last e r = absurd (cc)
linked_file names bytes (drop.Close a fd) left from to last e r = absurd (cc)
linked_file names bytes (drop.Shut a fd reason) left from to last e r = absurd (cc)
linked_file names bytes (drop.Unlink a outcome) left from to last e r = absurd (cc)
linked_file names bytes (drop.Ended a outcome) left from to last e r = absurd (cc)

pub linked : (args : LocalArgs) (past : List Own) (now : ℕ) (ready : Ready) (d : Disk) (from to message : List ℕ) → Next args past now ready ≡ needs.File (Link from to)
    → WritesOn args past d → message_in (taken past) ≡ Some message → IsWhole d from (maildir_text args message)
linked args past now ready d from to message due writes e = by (place_after args past).row due writes
  where
    its : (o : Option Drop) → due_by_drop o ≡ needs.File (Link from to) → IfSome o (Writes args past d) → IsWhole d from (maildir_text args message)
    its None e w = absurd (cc)
    its (Some it) link w =
        let r = wrote args past message d it e w in
        subst (IsWhole d from) r.bytes
        (linked_file (names_of r.of) r.of.bytes it.place.row it.place.left from to d (ap (λ n. drop_due n it.place.row it.place.left) (sym r.names) ∙ link) r.rests)

    by : (row : Row) → due_at args row (place_after args past) ≡ needs.File (Link from to) → IfSome (at_work row (place_after args past).dropping) (Writes args past d)
        → IsWhole d from (maildir_text args message)
    by at.Drop link w = its (place_after args past).dropping link w
    by at.TakeInput link w = absurd (cc)
    by (at.Open what) link w = absurd (cc)
    by (at.Read what fd) link w = absurd (cc)
    by (at.Close what fd went) link w = absurd (cc)
    by at.NextName link w = absurd (cc)
    by at.Run link w = absurd (cc)
    by at.Start link w = absurd (cc)
    by at.Feed link w = absurd (cc)
    by at.TakeStatus link w = absurd (cc)
    by (at.Report status) link w = absurd (cc)
    by (at.Fail reason) link w = absurd (cc)
    by (at.Ended status) link w = absurd (cc)

pub are_whole : (args : LocalArgs) (past : List Own) → IsRunBy (Next args) past → AreWhole args past
are_whole args [] run = tt
are_whole args (event ∷ before) run = (
  are_whole args before run.0,
  λ from to message told first last due came done input leads.
      linked args before event.read event.ready last from to message (run.1.0 ∙ due) (writing args before first last run.0 leads) input,
)
