-- How the injector of forwards gets its input: directly after its start, and its status is taken directly after that.
use Rattle.std.proofs.Common.{◌≡◌, ℕ, List, [], ◌∷◌, ◌++◌, Option, Some, None, refl, sym, ap, ◌∙◌, subst}
use Rattle.call_fs.specs.declared.past.ChildData.{ChildData}
use Rattle.call_fs.specs.declared.past.ChildData.TheVariants.{Forward as ForwardChild}
use Rattle.call_fs.specs.declared.past.GotData.{GotData}
use Rattle.call_fs.specs.declared.past.GotData.TheVariants as came
use Rattle.call_fs.specs.declared.past.NeedData.{NeedData}
use Rattle.call_fs.specs.declared.past.NeedData.TheVariants as needs
use Rattle.call_fs.specs.declared.past.Own.{Own}
use Rattle.call_fs.specs.declared.program.Port.TheVariants as port
use Rattle.call_fs.specs.declared.program.Ready.{Ready}
use Rattle.call_fs.specs.Past.{IsRunBy}
use Rattle.call_fs.specs.Program.{MayCome}
use Rattle.dot_qmail.specs.declared.line.Line.{Line}
use Rattle.local_parts.specs.declared.arguments.LocalArgs.{LocalArgs}
use Rattle.local_parts.specs.declared.forwarding.Injection.{Injection}
use Rattle.local_parts.specs.Course.{lines_of}
use Rattle.local_parts.specs.Forwarding.{envelope, forward_sender, forwards, injected, injection_of, injection_to, net_text}
use Rattle.local_parts.specs.Texts.{forward_text}
use Rattle.maildir_drop.specs.declared.names.DropNames.{DropNames}
use Rattle.maildir_drop.specs.declared.row.Row.{Row as DropRow}
use Rattle.maildir_drop.specs.declared.row.Row.TheVariants as drop
use Rattle.maildir_drop.specs.Table.{due_at as drop_due}
use Rattle.local_deliver.specs.declared.place.Place.{Place}
use Rattle.local_deliver.specs.declared.row.Row.{Row}
use Rattle.local_deliver.specs.declared.row.Row.TheVariants as at
use Rattle.local_deliver.specs.Deeds.{starts}
use Rattle.local_deliver.specs.Drops.{Drop}
use Rattle.local_deliver.specs.Forwards.{HasGiven, HasStarted, IsForwardInput}
use Rattle.local_deliver.specs.Table.{Next, act, due_at, due_by_drop, due_by, place_after}
use Rattle.local_deliver.proofs.Carrying.{holds}
use Rattle.local_deliver.proofs.Underway.{AtFeed, Inv}
use Rattle.local_deliver.proofs.Deeds.{deeds_of}
use Rattle.local_deliver.proofs.Dropped.{AtPlace, AtRow, stepped}

-- At which row such a need is due

abbrev OnlyAt : Row → NeedData → Type 0
OnlyAt row (needs.Start child) = row ≡ at.Start
OnlyAt row (needs.Give (port.Program slot) bytes) = row ≡ at.Feed
OnlyAt row (needs.Take (port.Status slot)) = row ≡ at.TakeStatus
OnlyAt row other = Unit {0}

drops_none : (row : Row) (names : DropNames) (left : List ℕ) (at_drop : DropRow) → OnlyAt row (drop_due names at_drop left)
drops_none row names left (drop.Create attempt) = tt
drops_none row names left (drop.Append attempt fd) = tt
drops_none row names left (drop.Sync attempt fd) = tt
drops_none row names left (drop.Close attempt fd) = tt
drops_none row names left (drop.Link attempt) = tt
drops_none row names left (drop.Shut attempt fd reason) = tt
drops_none row names left (drop.Unlink attempt outcome) = tt
drops_none row names left (drop.Ended attempt outcome) = tt

only_at : (args : LocalArgs) (p : Place) (row : Row) → OnlyAt row (due_at args row p)
only_at args p at.TakeInput = tt
only_at args p (at.Open what) = tt
only_at args p (at.Read what fd) = tt
only_at args p (at.Close what fd went) = tt
only_at args p at.NextName = tt
only_at args p at.Drop = by p.dropping
  where
    by : (o : Option Drop) → OnlyAt at.Drop (due_by_drop o)
    by None = tt
    by (Some it) = drops_none at.Drop it.names it.place.left it.place.row
only_at args p at.Run = tt
only_at args p at.Start = refl
only_at args p at.Feed = refl
only_at args p at.TakeStatus = refl
only_at args p (at.Report status) = tt
only_at args p (at.Fail reason) = tt
only_at args p (at.Ended status) = tt

-- the same needs are of the same

same_start : (x y : ChildData) → needs.Start x ≡ needs.Start y → y ≡ x
same_start x y e = cc

same_give : (slot : ℕ) (x y : List ℕ) → needs.Give (port.Program 0) x ≡ needs.Give (port.Program slot) y → (slot ≡ 0) × (y ≡ x)
same_give slot x y e =
    let first : slot ≡ 0 = cc in
    let same : y ≡ x = cc in
    (first, same)

same_take : (slot : ℕ) → needs.Take (port.Status 0) ≡ needs.Take (port.Status slot) → slot ≡ 0
same_take slot e = cc

-- The newest event

abbrev StartedAt : Row → GotData → Type 0
StartedAt row got = (row ≡ at.Start) × ((pid : ℕ) × (got ≡ came.Started pid))

abbrev GivenAt : Row → GotData → Type 0
GivenAt row got = (row ≡ at.Feed) × (got ≡ came.Gave)

leads : (args : LocalArgs) (now : ℕ) (p : Place) (got : GotData) → MayCome (due_at args p.row p) got
    → AtPlace (λ d. Unit {0}) (StartedAt p.row got) (GivenAt p.row got) (act args now p.row got p)
leads args now p got may =
    stepped args now (λ d. Unit {0}) (StartedAt p.row got) (GivenAt p.row got) p.row got p refl
    (λ m path host. tt) (λ d is drops none. tt) (λ is pid e. (is, (pid, e))) (λ is e. (is, e)) may

leads_to : (args : LocalArgs) (event : Own) (before : List Own) → IsRunBy (Next args) (event ∷ before) → (row : Row) → (place_after args (event ∷ before)).row ≡ row
    → AtRow (λ d. Unit {0}) (StartedAt (place_after args before).row event.came) (GivenAt (place_after args before).row event.came) row (place_after args (event ∷ before)).dropping
leads_to args event before run row is =
    let p : Place = place_after args before in
    let next : Place = place_after args (event ∷ before) in
    subst (λ r. AtRow (λ d. Unit {0}) (StartedAt p.row event.came) (GivenAt p.row event.came) r next.dropping) is
    (leads args event.read p event.came (subst (λ x. MayCome x event.came) (sym run.1.0) run.1.1))

started_last : (args : LocalArgs) (past : List Own) → IsRunBy (Next args) past → (place_after args past).row ≡ at.Feed → HasStarted past
started_last args [] run is = absurd (cc)
started_last args (event ∷ before) run is =
    let p : Place = place_after args before in
    let it : StartedAt p.row event.came = leads_to args event before run at.Feed is in
    (ForwardChild args.uid p.room, (it.1.0, (sym run.1.0 ∙ ap (λ row. due_at args row p) it.0, it.1.1)))

given_last : (args : LocalArgs) (past : List Own) → IsRunBy (Next args) past → (place_after args past).row ≡ at.TakeStatus → (text : List ℕ) × HasGiven text past
given_last args [] run is = absurd (cc)
given_last args (event ∷ before) run is =
    let p : Place = place_after args before in
    let it : GivenAt p.row event.came = leads_to args event before run at.TakeStatus is in
    (p.text, (sym run.1.0 ∙ ap (λ row. due_at args row p) it.0, it.1))

-- What is given

injected_text : (args : LocalArgs) (names : List (List ℕ)) (message : List ℕ) (lines : List Line) (it : Injection) → injection_of args names message lines ≡ Some it
    → it.text ≡ net_text (forward_text args message) ++ net_text (envelope (forward_sender args names) (forwards lines))
unfolding injection_of
injected_text args names message lines it e = by (forwards lines) e
  where
    by : (to : List (List ℕ)) → injection_to args names message to ≡ Some it → it.text ≡ net_text (forward_text args message) ++ net_text (envelope (forward_sender args names) to)
    by [] none = absurd (cc)
    by (address ∷ more) some =
        let same : it ≡ injected (forward_text args message) (envelope (forward_sender args names) (address ∷ more)) = cc in
        ap (λ (i : Injection). i.text) same

is_input : (args : LocalArgs) (past : List Own) (text : List ℕ) (p : Place) → AtFeed args (deeds_of past) p → text ≡ p.text → IsForwardInput args past text
is_input args past text p f same =
    let i = f.injects in
    record {
      message = p.message;
      lines = i.lines;
      reached = lines_of p.course;
      input = i.over.known.input;
      told = i.over.known.told;
      reaches = i.over.reaches;
      is =
          same ∙ i.text ∙ injected_text args p.names p.message (lines_of p.course) i.it i.is
          ∙ ap (λ names. net_text (forward_text args p.message) ++ net_text (envelope (forward_sender args names) (forwards (lines_of p.course)))) (sym i.over.known.names);
    }

-- The laws

pub single : (args : LocalArgs) (past : List Own) (now : ℕ) (ready : Ready) (child : ChildData) → IsRunBy (Next args) past → Next args past now ready ≡ needs.Start child
    → ((room : ℕ) × (child ≡ ForwardChild args.uid room)) × (starts past ≡ [])
single args past now ready child run due =
    let p : Place = place_after args past in
    let is : p.row ≡ at.Start = subst (OnlyAt p.row) due (only_at args p p.row) in (
      (p.room, same_start (ForwardChild args.uid p.room) child (sym (ap (λ row. due_at args row p) is) ∙ due)),
      (subst (λ row. Inv args (deeds_of past) row p) is (holds args past run)).alone.starts,
    )

pub next : (args : LocalArgs) (past : List Own) → IsRunBy (Next args) past → HasStarted past
    → (text : List ℕ) × ((now : ℕ) (ready : Ready) → Next args past now ready ≡ needs.Give (port.Program 0) text)
next args [] run h = absurd h.1.1
next args (event ∷ before) run h =
    let p : Place = place_after args before in
    let is : p.row ≡ at.Start = subst (OnlyAt p.row) (run.1.0 ∙ h.1.1.0) (only_at args p p.row) in (
      p.text,
      λ now ready. ap (λ row. due_by args (act args event.read row event.came p)) is ∙ ap (λ got. due_by args (act args event.read at.Start got p)) h.1.1.1,
    )

pub given : (args : LocalArgs) (past : List Own) (now : ℕ) (ready : Ready) (slot : ℕ) (text : List ℕ) → IsRunBy (Next args) past
    → Next args past now ready ≡ needs.Give (port.Program slot) text → (slot ≡ 0) × HasStarted past × IsForwardInput args past text
given args past now ready slot text run due =
    let p : Place = place_after args past in
    let is : p.row ≡ at.Feed = subst (OnlyAt p.row) due (only_at args p p.row) in
    let same = same_give slot p.text text (sym (ap (λ row. due_at args row p) is) ∙ due) in
    (same.0, started_last args past run is, is_input args past text p (subst (λ row. Inv args (deeds_of past) row p) is (holds args past run)) same.1)

pub taken : (args : LocalArgs) (past : List Own) (now : ℕ) (ready : Ready) (slot : ℕ) → IsRunBy (Next args) past → Next args past now ready ≡ needs.Take (port.Status slot)
    → (slot ≡ 0) × ((text : List ℕ) × HasGiven text past)
taken args past now ready slot run due =
    let p : Place = place_after args past in
    let is : p.row ≡ at.TakeStatus = subst (OnlyAt p.row) due (only_at args p p.row) in
    (same_take slot (sym (ap (λ row. due_at args row p) is) ∙ due), given_last args past run is)
