-- What an event of a spawner does to what runs in its slots, and to the requests for which that was started.
use Rattle.std.proofs.Common.{◌≡◌, ◌≢◌, ⊎_elim, ℕ, List, set, Bool, true, false, if◌then◌else◌, Option, Some, None, refl, sym, ap, ◌∙◌, subst}
use Rattle.std.proofs.lemmas.Bool.{cases_eq}
use Rattle.std.proofs.lemmas.List.{get_or-set_other}
use Rattle.call_fs.specs.Maps.{put}
use Rattle.call_fs.proofs.Maps.{put_cases}
use Rattle.call_fs.specs.declared.calls.Answer.{Answer}
use Rattle.call_fs.specs.declared.calls.Answer.TheVariants as answer
use Rattle.call_fs.specs.declared.calls.Fd.{Fd}
use Rattle.call_fs.specs.declared.calls.FsError.TheVariants as why
use Rattle.call_fs.specs.declared.past.ChildData.{ChildData}
use Rattle.call_fs.specs.declared.past.GotData.{GotData}
use Rattle.call_fs.specs.declared.past.GotData.TheVariants as came
use Rattle.call_fs.specs.declared.past.NeedData.{NeedData}
use Rattle.call_fs.specs.declared.past.Own.{Own}
use Rattle.call_fs.specs.declared.program.Ready.{Ready}
use Rattle.local_spawn.specs.declared.assign.Assignment.{Assignment}
use Rattle.local_spawn.specs.declared.delivery.Delivery.{Delivery}
use Rattle.local_spawn.specs.declared.place.Place.{Place as LocalPlace}
use Rattle.local_spawn.specs.declared.row.Row.{Row as LocalRow}
use Rattle.local_spawn.specs.declared.row.Row.TheVariants as local
use Rattle.local_spawn.specs.Deliveries.{delivery_for, refusal}
use Rattle.local_spawn.specs.Table.{local_kind, program_of, readied_by, users_closed, users_opened, users_opened_by, users_read, users_read_by}
use Rattle.program_law.specs.Post.Posts.{At, IsAskedFor, Post, Posted, Spawner, channel_of, due_of, goes_at, moved, work_of}
use Rattle.program_law.specs.Post.Posts.Spawner.{Local, Remote}
use Rattle.program_law.proofs.Post.Sums.{not_running}
use Rattle.program_law.proofs.Post.Works.{arrives}
use Rattle.remote_spawn.specs.Table.{program_of as remote_program, remote}
use Rattle.send_jobs.specs.declared.attempts.Attempt.{Attempt}
use Rattle.send_jobs.specs.Slots.{attempt_in}
use Rattle.spawn_protocol.specs.declared.request.Request.{Request}
use Rattle.spawn_protocol.specs.Inbox.{pull, with_more}
use Rattle.spawner_parts.specs.declared.place.Place.{Place}
use Rattle.spawner_parts.specs.declared.row.Row.{Row}
use Rattle.spawner_parts.specs.declared.row.Row.TheVariants as at
use Rattle.spawner_parts.specs.Asked.{is_bad, runs_in}
use Rattle.spawner_parts.specs.Table.{IsNoStart, Kind, act, arrive, bad_request, closed, due_at, fed, gave, heeded, launched, next_request, opened, opened_by, opens, printed, read_by, read_on, reports, row_now, took}
use Rattle.world_law.specs.Spawned.{started_by}

-- What runs stays, but for a start and the taking of a status.

heeded_if : (b : Bool) (r : Request) (p : Place) → (if b then reports bad_request r.slot p else opens r p).running ≡ p.running
heeded_if true r p = refl
heeded_if false r p = refl

heeded_runs : (o : Option Request) (p : Place) → (heeded o p).running ≡ p.running
heeded_runs None p = refl
heeded_runs (Some r) p = heeded_if (is_bad p.running r) r p

next_runs : (p : Place) → (next_request p).running ≡ p.running
next_runs p = heeded_runs (pull p.inbox).request (record p { inbox = (pull p.inbox).inbox })

gave_runs : (got : GotData) (p : Place) → (gave got p).running ≡ p.running
gave_runs came.Gave p = next_runs p
gave_runs got p = refl

took_runs : (got : GotData) (p : Place) → (took got p).running ≡ p.running
took_runs (came.Took bytes) p = next_runs (record p { inbox = with_more bytes p.inbox })
took_runs came.End p = refl
took_runs got p = refl

opened_runs_by : (it : Answer) (p : Place) → (opened_by it p).running ≡ p.running
opened_runs_by (answer.Opened fd) p = refl
opened_runs_by (answer.Refused why.Memory) p = refl
opened_runs_by it p = refl

opened_runs : (got : GotData) (p : Place) → (opened got p).running ≡ p.running
opened_runs (came.Answered told) p = opened_runs_by told.answer p
opened_runs got p = refl

read_runs_by : (fd : Fd) (it : Answer) (bytes : List ℕ) (p : Place) → (read_by fd it bytes p).running ≡ p.running
read_runs_by fd (answer.Count count) bytes p = refl
read_runs_by fd it bytes p = refl

read_runs : (fd : Fd) (got : GotData) (p : Place) → (read_on fd got p).running ≡ p.running
read_runs fd (came.Answered told) p = read_runs_by fd told.answer told.bytes p
read_runs fd got p = refl

printed_runs : (slot : ℕ) (got : GotData) (p : Place) → (printed slot got p).running ≡ p.running
printed_runs slot (came.Took bytes) p = refl
printed_runs slot came.End p = refl
printed_runs slot got p = refl

runs_as : (old new : List Bool) → new ≡ old → (slot : ℕ) → runs_in new slot ≡ true → runs_in old slot ≡ true
runs_as old new same slot run = sym (ap (λ (l : List Bool). runs_in l slot) same) ∙ run

less_runs : (running : List Bool) (freed slot : ℕ) → runs_in (set running freed false) slot ≡ true → runs_in running slot ≡ true
less_runs running freed slot run = ⊎_elim
    (λ (e : slot ≡ freed).
    let none : runs_in (set running freed false) slot ≡ false = ap (runs_in (set running freed false)) e ∙ not_running running freed in
    let both : true ≡ false = sym run ∙ none in
    absurd (cc))
    (λ (apart : slot ≢ freed). sym (get_or-set_other running freed slot false false apart) ∙ run)
    (cases_eq slot freed)

-- A spawner that serves in its own way

module _ (kind : Kind) (readied : (p : Place) → (kind.readied p).running ≡ p.running) where
  closed_runs : (whole : Bool) (p : Place) → (closed kind whole p).running ≡ p.running
  closed_runs true p = readied p
  closed_runs false p = refl

  -- one that runs after an event other than a start ran before
  ran_before : (row : Row) (got : GotData) (p : Place) → IsNoStart row → (slot : ℕ) → runs_in (act kind row got p).running slot ≡ true → runs_in p.running slot ≡ true
  ran_before at.Greet got p is = runs_as p.running (gave got p).running (gave_runs got p)
  ran_before at.Idle got p is = λ slot run. run
  ran_before at.TakeInput got p is = runs_as p.running (took got p).running (took_runs got p)
  ran_before at.OpenMess got p is = runs_as p.running (opened got p).running (opened_runs got p)
  ran_before (at.ReadMess fd) got p is = runs_as p.running (read_on fd got p).running (read_runs fd got p)
  ran_before (at.CloseMess fd whole) got p is = runs_as p.running (closed kind whole p).running (closed_runs whole p)
  ran_before at.Start got p is = absurd is
  ran_before at.Feed got p is = runs_as p.running (fed p).running (next_runs p)
  ran_before (at.TakeOutput slot) got p is = runs_as p.running (printed slot got p).running (printed_runs slot got p)
  ran_before (at.TakeStatus slot) got p is = less_runs p.running slot
  ran_before at.Report got p is = runs_as p.running (gave got p).running (gave_runs got p)
  ran_before (at.Ended code) got p is = λ slot run. run

  -- and one that has ended stays so
  goes_back_at : (r : Row) (base : Place) (ready : Ready) (got : GotData) → goes_at true (act kind (arrive r (record base { row = r }) ready) got (record base { row = r })).row ≡ true
      → goes_at true r ≡ true
  goes_back_at (at.Ended code) base ready got goes = goes
  goes_back_at r base ready got goes = refl

  goes_back : (p : Place) (ready : Ready) (got : GotData) → goes_at true (act kind (row_now p ready) got p).row ≡ true → goes_at true p.row ≡ true
  goes_back p ready got goes = goes_back_at p.row p ready got goes

started_same : (program : ChildData) (row : Row) (p : Place) (got : GotData) (r : Request) (old : ℕ → Option Request) → IsNoStart row → started_by (due_at program row p) got r old ≡ old
started_same program at.Start p got r old is = absurd is
started_same program row p got r old is = refl

-- Between two steps nothing is started.
begun_at : (r : Row) (p : Place) (ready : Ready) → arrive r p ready ≡ at.Start → r ≡ at.Start
begun_at at.Idle p ready is =
    let none : arrive at.Idle p ready ≢ at.Start = arrives (λ (row : Row). row ≢ at.Start) p (λ e. cc) (λ e. cc) (λ code e. cc) (λ slot run e. cc) ready in
    absurd (none is)
begun_at r p ready is = is

-- In its start the local spawner only reads the users.

opened_work_by : (it : Answer) (p : LocalPlace) → (users_opened_by it p).work ≡ p.work
opened_work_by (answer.Opened fd) p = refl
opened_work_by (answer.Refused why.NotThere) p = refl
opened_work_by (answer.Refused why.Memory) p = refl
opened_work_by it p = refl

pub opened_work : (it : GotData) (p : LocalPlace) → (users_opened it p).work ≡ p.work
opened_work (came.Answered told) p = opened_work_by told.answer p
opened_work it p = refl

read_work_by : (fd : Fd) (it : Answer) (bytes : List ℕ) (p : LocalPlace) → (users_read_by fd it bytes p).work ≡ p.work
read_work_by fd (answer.Count count) bytes p = refl
read_work_by fd it bytes p = refl

pub read_work : (fd : Fd) (it : GotData) (p : LocalPlace) → (users_read fd it p).work ≡ p.work
read_work fd (came.Answered told) p = read_work_by fd told.answer told.bytes p
read_work fd it p = refl

pub closed_work : (whole : Bool) (p : LocalPlace) → (users_closed whole p).work ≡ p.work
closed_work true p = refl
closed_work false p = refl

-- What runs in a slot is of the attempt there.

abbrev pub IsTied : Place → List (Option Attempt) → (ℕ → Option Request) → Type 0
IsTied p slots started = goes_at true p.row ≡ true → (slot : ℕ) (t : Attempt) → runs_in p.running slot ≡ true → attempt_in slots slot ≡ Some t → IsAskedFor (started slot) t

module _ (slots : List (Option Attempt)) (last started : ℕ → Option Request) (flies : (slot : ℕ) (t : Attempt) → attempt_in slots slot ≡ Some t → IsAskedFor (last slot) t) (got : GotData) where
  module _ (kind : Kind) (readied : (p : Place) → (kind.readied p).running ≡ p.running) (program : ChildData) (p : Place) (tied : IsTied p slots started) where
    abbrev Then : Row → Type 0
    Then row = IsTied (act kind row got p) slots (started_by (due_at program row p) got p.request started)

    abbrev Back : Row → Type 0
    Back row = goes_at true (act kind row got p).row ≡ true → goes_at true p.row ≡ true

    no_start : (row : Row) → IsNoStart row → Back row → Then row
    no_start row is back = λ goes slot t run there.
        subst (λ (f : ℕ → Option Request). IsAskedFor (f slot) t) (sym (started_same program row p got p.request started is))
        (tied (back goes) slot t (ran_before kind readied row got p is slot run) there)

    starts : (came_is : GotData) → came_is ≡ got → (goes_at true (launched kind.unstarted came_is p).row ≡ true → goes_at true p.row ≡ true) → last p.request.slot ≡ Some p.request
        → IsTied (launched kind.unstarted came_is p) slots (started_by (due_at program at.Start p) came_is p.request started)
    starts (came.Started pid) e back last_is = λ goes slot t run there. ⊎_elim
        (λ (c : (slot ≡ p.request.slot) × (put started p.request.slot (Some p.request) slot ≡ Some p.request)).
        subst (λ (o : Option Request). IsAskedFor o t) (sym c.1) (subst (λ (o : Option Request). IsAskedFor o t) (ap last c.0 ∙ last_is) (flies slot t there)))
        (λ (c : (slot ≢ p.request.slot) × (put started p.request.slot (Some p.request) slot ≡ started slot)).
        subst (λ (o : Option Request). IsAskedFor o t) (sym c.1) (tied (back goes) slot t (sym (get_or-set_other p.running p.request.slot slot true false c.0) ∙ run) there))
        (put_cases started p.request.slot (Some p.request) slot)
    starts came.Memory e back last_is = λ goes slot t run there. tied (back goes) slot t run there
    starts came_is e back last_is = λ goes slot t run there. tied (back goes) slot t run there

    by_row : (row : Row) → Back row → (row ≡ at.Start → last p.request.slot ≡ Some p.request) → Then row
    by_row at.Start back last_is = starts got refl back (last_is refl)
    by_row row back last_is = no_start row tt back

  -- The local spawner, which reads the users first

  kept : (p q : Place) → q ≡ p → IsTied p slots started → IsTied q slots started
  kept p q same tied = subst (λ (z : Place). IsTied z slots started) (sym same) tied

  readied_so : (o : Option Delivery) (report : List ℕ) (p : Place) → (readied_by o report p).running ≡ p.running
  readied_so None report p = refl
  readied_so (Some delivery) report p = refl

  module _ (read : ℕ) (ready : Ready) where
    abbrev event : NeedData → Own
    event due = record { read = read; ready = ready; due = due; came = got }

    abbrev Moves : Spawner → Type 0
    Moves s = (row_now (work_of s) ready ≡ at.Start → last (work_of s).request.slot ≡ Some (work_of s).request) → IsTied (work_of s) slots started
        → IsTied (work_of (moved s (event (due_of s ready)))) slots (started_by (due_of s ready) got (work_of s).request started)

    local_moves : (row : LocalRow) (text : List ℕ) (users : Option (List Assignment)) (delivery : Delivery) (work : Place)
        → Moves (Local (record { row = row; text = text; users = users; delivery = delivery; work = work }))
    local_moves local.OpenUsers text users delivery work begins tied =
        let p : LocalPlace = record { row = local.OpenUsers; text = text; users = users; delivery = delivery; work = work } in
        kept work (users_opened got p).work (opened_work got p) tied
    local_moves (local.ReadUsers fd) text users delivery work begins tied =
        let p : LocalPlace = record { row = local.ReadUsers fd; text = text; users = users; delivery = delivery; work = work } in
        kept work (users_read fd got p).work (read_work fd got p) tied
    local_moves (local.CloseUsers fd whole) text users delivery work begins tied =
        let p : LocalPlace = record { row = local.CloseUsers fd whole; text = text; users = users; delivery = delivery; work = work } in
        kept work (users_closed whole p).work (closed_work whole p) tied
    local_moves local.Serves text users delivery work begins tied =
        let p : LocalPlace = record { row = local.Serves; text = text; users = users; delivery = delivery; work = work } in
        let so : (z : Place) → ((local_kind users).readied z).running ≡ z.running = λ z. readied_so (delivery_for users z.request) (refusal users) z in
        by_row (local_kind users) so (program_of p) work tied (row_now work ready) (goes_back (local_kind users) so work ready got) begins
    local_moves local.OutOfMemory text users delivery work begins tied = tied

    moves : (s : Spawner) → Moves s
    moves (Local p) begins tied = local_moves p.row p.text p.users p.delivery p.work begins tied
    moves (Remote p) begins tied =
        by_row remote (λ z. refl) (remote_program p.request) p tied (row_now p ready) (goes_back remote (λ z. refl) p ready got) begins

-- An event of a spawner keeps that.
pub tied_works : (x : Post) (own : Own) (started : ℕ → Option Request) → Posted x → x.lives ≡ true → x.serves ≡ true → own.due ≡ due_of x.spawner own.ready
    → IsTied (work_of x.spawner) x.slots started → IsTied (work_of (moved x.spawner own)) x.slots (started_by own.due own.came (work_of x.spawner).request started)
tied_works x own started P lives serves due tied goes =
    subst (λ (n : NeedData). IsTied (work_of (moved x.spawner (record { read = own.read; ready = own.ready; due = n; came = own.came }))) x.slots
    (started_by n own.came (work_of x.spawner).request started)) (sym due)
    (moves x.slots x.last started (P.fares.flies lives) own.came own.read own.ready x.spawner begins tied) goes
  where
    begins : row_now (work_of x.spawner) own.ready ≡ at.Start → x.last (work_of x.spawner).request.slot ≡ Some (work_of x.spawner).request
    begins is =
        let row : (work_of x.spawner).row ≡ at.Start = begun_at (work_of x.spawner).row (work_of x.spawner) own.ready is in
        let on : goes_at x.serves (work_of x.spawner).row ≡ true = ap (λ (b : Bool). goes_at b (work_of x.spawner).row) serves ∙ ap (goes_at true) row in
        (subst (λ (r : Row). At (channel_of x.spawner) x.done x.last r (work_of x.spawner)) row (P.fares.stands on)).last_is
