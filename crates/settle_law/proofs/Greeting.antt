-- What a sender heard first of a spawner, by its past, and when a spawner gives its first byte.
use Rattle.std.proofs.Common.{◌≡◌, ℕ, List, [], ◌∷◌, ◌++◌, Bool, true, false, if◌then◌else◌, Option, Some, None, refl, sym, ap, ◌∙◌}
use Rattle.std.specs.Prelude.{is_some, length, nat_lt}
use Rattle.call_fs.specs.declared.calls.Answer.{Answer}
use Rattle.call_fs.specs.declared.calls.Answer.TheVariants as answer
use Rattle.call_fs.specs.declared.calls.CallData.{CallData}
use Rattle.call_fs.specs.declared.calls.CallData.TheVariants as call
use Rattle.call_fs.specs.declared.calls.Fd.{Fd}
use Rattle.call_fs.specs.declared.calls.FsError.TheVariants as why
use Rattle.call_fs.specs.declared.calls.How.TheVariants as how
use Rattle.call_fs.specs.declared.calls.Told.{Told}
use Rattle.call_fs.specs.declared.file_system.TheConstants.{PIECE}
use Rattle.call_fs.specs.declared.past.ChildData.{ChildData}
use Rattle.call_fs.specs.declared.past.GotData.{GotData}
use Rattle.call_fs.specs.declared.past.GotData.TheVariants as came
use Rattle.call_fs.specs.declared.past.NeedData.{NeedData}
use Rattle.call_fs.specs.declared.past.NeedData.TheVariants as needs
use Rattle.call_fs.specs.declared.past.Own.{Own}
use Rattle.call_fs.specs.declared.program.Port.{Port}
use Rattle.call_fs.specs.declared.program.Port.TheVariants as port
use Rattle.call_fs.specs.declared.program.Ready.{Ready}
use Rattle.local_spawn.specs.declared.place.Place.{Place as LocalPlace}
use Rattle.local_spawn.specs.declared.row.Row.TheVariants as local
use Rattle.local_spawn.specs.declared.assign.Assignment.{Assignment}
use Rattle.local_spawn.specs.declared.delivery.Delivery.{Delivery}
use Rattle.local_spawn.specs.declared.row.Row.{Row as LocalRow}
use Rattle.local_spawn.specs.Deliveries.{delivery_for, refusal}
use Rattle.local_spawn.specs.Table.{act as local_act, due_at as local_due, local_kind, place_after as local_after, program_of as local_program, readied, readied_by, users_closed, users_opened, users_opened_by, users_read, users_read_by}
use Rattle.program_law.specs.Post.Posts.{told_by}
use Rattle.program_law.specs.Post.Senders.{told_on}
use Rattle.queue_paths.specs.Names.{Name, parse}
use Rattle.queue_paths.specs.Names.Name.{Of}
use Rattle.queue_paths.specs.Names.Part.{Bounce as BounceFile, Local as LocalFile, Remote as RemoteFile}
use Rattle.remote_spawn.specs.Table.{due_by as remote_due, place_after as remote_after, program_of as remote_program, remote}
use Rattle.send_core.specs.Past.{Account, Happening, Owed, Source, Task, Work, account_by, called, closed, closed_if, ends, given, given_up, happening, news, note_closed, opened, settle, settle_all, settle_by, took, uncreated_note, unopened_note, whole_of}
use Rattle.send_core.specs.Past.Happening.{Gives, GivesUp, Marks, Nothing, Reads, Takes}
use Rattle.send_core.specs.Past.Work.{Missing, Noting, Reading}
use Rattle.send_known.specs.declared.channel.Channel.{Channel}
use Rattle.send_known.specs.declared.channel.Channel.TheVariants.{Local, Remote}
use Rattle.send_parts.specs.Channels.{port_of}
use Rattle.spawn_protocol.specs.Inbox.{pull, with_more}
use Rattle.spawn_protocol.specs.declared.report.Report.{Report}
use Rattle.spawn_protocol.specs.declared.request.Request.{Request}
use Rattle.spawner_parts.specs.declared.place.Place.{Place}
use Rattle.spawner_parts.specs.declared.row.Row.{Row}
use Rattle.spawner_parts.specs.declared.row.Row.TheVariants as at
use Rattle.spawner_parts.specs.Asked.{is_bad}
use Rattle.spawner_parts.specs.Table.{Kind, act, arrive, bad_request, due_at, gave, greeting, heeded, launched, next_request, opened as spawn_opened, opened_by, opens, printed, read_by, read_on, reports, row_now, took as spawn_took}
use Rattle.world_events.specs.declared.event.Program.{Program}
use Rattle.world_events.specs.declared.event.Program.TheVariants.{LocalSpawner, RemoteSpawner}
use Rattle.mail_world.specs.History.{next_of}
use Rattle.world_law.specs.Spawned.{IsSpawner, stands_after}

-- The sender's account of what it took

abbrev pub IsNoTaking : Happening → Type 0
IsNoTaking (Takes bytes) = ⊥
IsNoTaking other = Unit {0}

no_given : (p : Port) (c : Channel) (text : List ℕ) (got : GotData) → IsNoTaking (given p c text got)
no_given port.Lspawn Local (slot ∷ rest) came.Gave = tt
no_given port.Rspawn Remote (slot ∷ rest) came.Gave = tt
no_given p c text got = tt

-- and no giving
abbrev pub IsStill : Happening → Type 0
IsStill (Takes bytes) = ⊥
IsStill (Gives slot) = ⊥
IsStill other = Unit {0}

pub untaken : (it : Happening) → IsStill it → IsNoTaking it
untaken (Takes bytes) still = absurd still
untaken (Gives slot) still = absurd still
untaken other still = tt

no_whole : (channel c : Channel) (s : Source) → IsStill (whole_of channel c s)
no_whole Local Local s = tt
no_whole Remote Remote s = tt
no_whole channel c s = tt

no_closed_if : (b : Bool) (s : Source) (c : Channel) → IsStill (closed_if b s c)
no_closed_if true s c = no_whole s.channel c s
no_closed_if false s c = tt

no_given_up : (c : Channel) (owed : List Owed) → IsStill (given_up c owed)
no_given_up Local owed = tt
no_given_up Remote [] = tt
no_given_up Remote (first ∷ rest) = tt

no_note : (b : Bool) (c : Channel) (owed : List Owed) → IsStill (note_closed b c owed)
no_note true c owed = tt
no_note false c owed = no_given_up c owed

no_closed : (s : Option Work) (fd : Fd) (owed : List Owed) (c : Channel) → IsStill (closed s fd owed c)
no_closed None fd owed c = tt
no_closed (Some (Reading s)) fd owed c = no_closed_if (ends s fd) s c
no_closed (Some Missing) fd owed c = tt
no_closed (Some (Noting f synced)) fd owed c = no_note synced c owed

no_opened : (name : Option Name) (c : Channel) → IsStill (opened name c)
no_opened (Some (Of LocalFile n)) Local = tt
no_opened (Some (Of RemoteFile n)) Remote = tt
no_opened name c = tt

no_unopened : (told : Answer) (owed : List Owed) (c : Channel) → IsStill (unopened_note told owed c)
no_unopened (answer.Opened fd) owed c = tt
no_unopened (answer.Refused why.NotThere) owed c = tt
no_unopened told owed c = no_given_up c owed

no_uncreated : (name : Option Name) (told : Answer) (owed : List Owed) (c : Channel) → IsStill (uncreated_note name told owed c)
no_uncreated (Some (Of BounceFile n)) (answer.Created fd number) owed c = tt
no_uncreated (Some (Of BounceFile n)) told owed c = no_given_up c owed
no_uncreated name told owed c = tt

pub no_called : (one : CallData) (told : Told) (s : Option Work) (owed : List Owed) (c : Channel) → IsStill (called one told s owed c)
no_called (call.Close fd) told s owed c = no_closed s fd owed c
no_called (call.Open name how.Write) told s owed c = no_opened (parse name) c
no_called (call.Open name how.Append) told s owed c = no_unopened told.answer owed c
no_called (call.CreateExcl name) told s owed c = no_uncreated (parse name) told.answer owed c
no_called one told s owed c = tt

-- an event of the sender takes from the spawner, or leaves what was heard and what it is told
pub data SentAs (c : Channel) (due : NeedData) (got : GotData) : Type 0 where
  Hears : (bytes : List ℕ) → due ≡ needs.Take (port_of c) → got ≡ came.Took bytes → SentAs c due got
  Other : ((s : Option Work) (owed : List Owed) → IsNoTaking (happening due got s owed c)) → ((told : List ℕ) → told_on c due got told ≡ told) → SentAs c due got

pub sent_as : (c : Channel) (due : NeedData) (got : GotData) → SentAs c due got
sent_as Local (needs.Take port.Lspawn) (came.Took bytes) = Hears bytes refl refl
sent_as Remote (needs.Take port.Rspawn) (came.Took bytes) = Hears bytes refl refl
sent_as c (needs.File one) (came.Answered told) = Other (λ s owed. untaken (called one told s owed c) (no_called one told s owed c)) (λ t. refl)
sent_as c (needs.Give p text) got = Other (λ s owed. no_given p c text got) (λ t. refl)
sent_as c due got = Other (λ s owed. tt) (λ t. refl)

pub kept_limit : (it : Happening) (a : Account) → IsNoTaking it → (account_by it a).limit ≡ a.limit
kept_limit Nothing a untaken = refl
kept_limit (Takes bytes) a untaken = absurd untaken
kept_limit (Gives slot) a untaken = refl
kept_limit (Reads tasks) a untaken = refl
kept_limit Marks a untaken = refl
kept_limit GivesUp a untaken = refl

pub kept_flights : (it : Happening) (a : Account) → IsStill it → (account_by it a).in_flight ≡ a.in_flight
kept_flights Nothing a still = refl
kept_flights (Takes bytes) a still = absurd still
kept_flights (Gives slot) a still = absurd still
kept_flights (Reads tasks) a still = refl
kept_flights Marks a still = refl
kept_flights GivesUp a still = refl

pub kept_heard : (it : Happening) (a : Account) → IsNoTaking it → (account_by it a).heard ≡ a.heard
kept_heard Nothing a untaken = refl
kept_heard (Takes bytes) a untaken = absurd untaken
kept_heard (Gives slot) a untaken = refl
kept_heard (Reads tasks) a untaken = refl
kept_heard Marks a untaken = refl
kept_heard GivesUp a untaken = refl

-- reports leave the limit, and that something was heard

pub record Stays (a b : Account) : Type 0 where
  pub limit : b.limit ≡ a.limit
  pub heard : b.heard ≡ a.heard

settled_stays : (r : Report) (a : Account) → Stays a (settle r a)
settled_stays r a = by (a.in_flight r.slot)
  where
    by : (o : Option Task) → Stays a (settle_by o r a)
    by None = record { limit = refl; heard = refl }
    by (Some t) = record { limit = refl; heard = refl }

pub all_stay : (rs : List Report) (a : Account) → Stays a (settle_all rs a)
all_stay [] a = record { limit = refl; heard = refl }
all_stay (r ∷ rs) a =
    let one = settled_stays r a in
    let more = all_stay rs (settle r a) in
    record { limit = more.limit ∙ one.limit; heard = more.heard ∙ one.heard }

-- after a taking something was heard, and the limit is the first byte of the first one
pub took_heard : (o : Option (List ℕ)) (bytes : List ℕ) (a : Account) → is_some (took o bytes a).heard ≡ true
took_heard None bytes a = refl
took_heard (Some before) bytes a = ap is_some (all_stay (news before bytes) (record a { heard = Some (before ++ bytes) })).heard

pub took_later : (before bytes : List ℕ) (a : Account) → (took (Some before) bytes a).limit ≡ a.limit
took_later before bytes a = (all_stay (news before bytes) (record a { heard = Some (before ++ bytes) })).limit

-- The spawner's first byte

abbrev pub is_greet : Row → Bool
is_greet at.Greet = true
is_greet row = false

abbrev pub is_greeting : Channel → List Own → Bool
is_greeting c past = is_greet (stands_after c past).row

greet_row : (row : Row) → is_greet row ≡ true → row ≡ at.Greet
greet_row at.Greet e = refl
greet_row row e = absurd (cc)

heeded_no : (o : Option Request) (p : Place) → is_greet (heeded o p).row ≡ false
heeded_no None p = refl
heeded_no (Some r) p = by (is_bad p.running r)
  where
    by : (b : Bool) → is_greet (if b then reports bad_request r.slot p else opens r p).row ≡ false
    by true = refl
    by false = refl

next_no : (p : Place) → is_greet (next_request p).row ≡ false
next_no p = let it = pull p.inbox in heeded_no it.request (record p { inbox = it.inbox })

gave_no : (got : GotData) (p : Place) → is_greet (gave got p).row ≡ false
gave_no came.Gave p = next_no p
gave_no got p = refl

took_no : (got : GotData) (p : Place) → is_greet (spawn_took got p).row ≡ false
took_no (came.Took bytes) p = next_no (record p { inbox = with_more bytes p.inbox })
took_no came.End p = refl
took_no got p = refl

opened_no_by : (told : Answer) (p : Place) → is_greet (opened_by told p).row ≡ false
opened_no_by (answer.Opened fd) p = refl
opened_no_by (answer.Refused why.Memory) p = refl
opened_no_by told p = refl

opened_no : (got : GotData) (p : Place) → is_greet (spawn_opened got p).row ≡ false
opened_no (came.Answered told) p = opened_no_by told.answer p
opened_no got p = refl

read_no_by : (fd : Fd) (told : Answer) (bytes : List ℕ) (p : Place) → is_greet (read_by fd told bytes p).row ≡ false
read_no_by fd (answer.Count count) bytes p = by (nat_lt (length bytes) PIECE)
  where
    by : (b : Bool) → is_greet (if b then at.CloseMess fd true else at.ReadMess fd) ≡ false
    by true = refl
    by false = refl
read_no_by fd told bytes p = refl

read_no : (fd : Fd) (got : GotData) (p : Place) → is_greet (read_on fd got p).row ≡ false
read_no fd (came.Answered told) p = read_no_by fd told.answer told.bytes p
read_no fd got p = refl

launched_no : (report : List ℕ) (got : GotData) (p : Place) → is_greet (launched report got p).row ≡ false
launched_no report (came.Started pid) p = refl
launched_no report came.Memory p = refl
launched_no report got p = refl

printed_no : (slot : ℕ) (got : GotData) (p : Place) → is_greet (printed slot got p).row ≡ false
printed_no slot (came.Took bytes) p = refl
printed_no slot came.End p = refl
printed_no slot got p = refl

-- no event leads to it
act_no : (kind : Kind) → ((q : Place) → is_greet (kind.readied q).row ≡ false) → (row : Row) (got : GotData) (p : Place) → (is_greet row ≡ false → is_greet p.row ≡ false)
    → is_greet (act kind row got p).row ≡ false
act_no kind readied at.Greet got p h = gave_no got p
act_no kind readied at.Idle got p h = h refl
act_no kind readied at.TakeInput got p h = took_no got p
act_no kind readied at.OpenMess got p h = opened_no got p
act_no kind readied (at.ReadMess fd) got p h = read_no fd got p
act_no kind readied (at.CloseMess fd true) got p h = readied p
act_no kind readied (at.CloseMess fd false) got p h = refl
act_no kind readied at.Start got p h = launched_no kind.unstarted got p
act_no kind readied at.Feed got p h = next_no p
act_no kind readied (at.TakeOutput slot) got p h = printed_no slot got p
act_no kind readied (at.TakeStatus slot) got p h = refl
act_no kind readied at.Report got p h = gave_no got p
act_no kind readied (at.Ended code) got p h = h refl

arrived_no : (row : Row) (p : Place) (ready : Ready) → is_greet (arrive row p ready) ≡ false → is_greet row ≡ false
arrived_no at.Greet p ready e = e
arrived_no at.Idle p ready e = refl
arrived_no at.TakeInput p ready e = refl
arrived_no at.OpenMess p ready e = refl
arrived_no (at.ReadMess fd) p ready e = refl
arrived_no (at.CloseMess fd whole) p ready e = refl
arrived_no at.Start p ready e = refl
arrived_no at.Feed p ready e = refl
arrived_no (at.TakeOutput slot) p ready e = refl
arrived_no (at.TakeStatus slot) p ready e = refl
arrived_no at.Report p ready e = refl
arrived_no (at.Ended status) p ready e = refl

-- Before its first byte a spawner waits for it or gives it, and later it never does again.
pub data StepsFrom (c : Channel) (mine : List Own) (own : Own) : Type 0 where
  Waits : is_greeting c mine ≡ true → is_greeting c (own ∷ mine) ≡ true → ((got : GotData) (wrote : ℕ) (told : List ℕ) → told_by own.due got wrote told ≡ told) → StepsFrom c mine own
  Greets : is_greeting c mine ≡ true → is_greeting c (own ∷ mine) ≡ false → own.due ≡ needs.Give port.Output greeting → StepsFrom c mine own
  Later : is_greeting c mine ≡ false → is_greeting c (own ∷ mine) ≡ false → StepsFrom c mine own

-- at work
work_due : (program : ChildData) (p : Place) (ready : Ready) → is_greet p.row ≡ true → due_at program (row_now p ready) p ≡ needs.Give port.Output greeting
work_due program p ready e = ap (λ (r : Row). due_at program (arrive r p ready) p) (greet_row p.row e)

served_steps : (c : Channel) (mine : List Own) (own : Own) (p : Place) (program : ChildData) → is_greeting c mine ≡ is_greet p.row → is_greeting c (own ∷ mine) ≡ false
    → due_at program (row_now p own.ready) p ≡ own.due → (b : Bool) → is_greet p.row ≡ b → StepsFrom c mine own
served_steps c mine own p program was now due true e = Greets (was ∙ e) now (sym due ∙ work_due program p own.ready e)
served_steps c mine own p program was now due false e = Later (was ∙ e) now

remote_steps : (mine : List Own) (own : Own) → remote_due (remote_after mine) own.ready ≡ own.due → StepsFrom Remote mine own
remote_steps mine own due =
    let p = remote_after mine in
    served_steps Remote mine own p (remote_program p.request) refl (act_no remote (λ q. refl) (row_now p own.ready) own.came p (arrived_no p.row p own.ready)) due (is_greet p.row) refl

readied_no : (users : Option (List Assignment)) (q : Place) → is_greet (readied users q).row ≡ false
readied_no users q = by (delivery_for users q.request)
  where
    by : (o : Option Delivery) → is_greet (readied_by o (refusal users) q).row ≡ false
    by None = refl
    by (Some delivery) = refl

-- while it reads the users nothing else changes
users_opened_work : (told : Answer) (p : LocalPlace) → (users_opened_by told p).work ≡ p.work
users_opened_work (answer.Opened fd) p = refl
users_opened_work (answer.Refused why.NotThere) p = refl
users_opened_work (answer.Refused why.Memory) p = refl
users_opened_work told p = refl

pub opening_work : (got : GotData) (p : LocalPlace) → (users_opened got p).work ≡ p.work
opening_work (came.Answered told) p = users_opened_work told.answer p
opening_work got p = refl

users_read_work : (fd : Fd) (told : Answer) (bytes : List ℕ) (p : LocalPlace) → (users_read_by fd told bytes p).work ≡ p.work
users_read_work fd (answer.Count count) bytes p = refl
users_read_work fd told bytes p = refl

pub reading_work : (fd : Fd) (got : GotData) (p : LocalPlace) → (users_read fd got p).work ≡ p.work
reading_work fd (came.Answered told) p = users_read_work fd told.answer told.bytes p
reading_work fd got p = refl

pub closing_work : (whole : Bool) (p : LocalPlace) → (users_closed whole p).work ≡ p.work
closing_work true p = refl
closing_work false p = refl

still_steps : (mine : List Own) (own : Own) → is_greeting Local (own ∷ mine) ≡ is_greeting Local mine → ((got : GotData) (wrote : ℕ) (told : List ℕ) → told_by own.due got wrote told ≡ told) → (b : Bool)
    → is_greeting Local mine ≡ b → StepsFrom Local mine own
still_steps mine own same quiet true e = Waits e (same ∙ e) quiet
still_steps mine own same quiet false e = Later e (same ∙ e)

local_steps : (mine : List Own) (own : Own) (r : LocalRow) → (local_after mine).row ≡ r → local_due r own.ready (local_after mine) ≡ own.due → StepsFrom Local mine own
local_steps mine own local.Serves is due =
    let p = local_after mine in
    let new : is_greeting Local (own ∷ mine) ≡ false =
    ap (λ (r : LocalRow). is_greet (local_act r own.ready own.came p).work.row) is
    ∙ act_no (local_kind p.users) (readied_no p.users) (row_now p.work own.ready) own.came p.work (arrived_no p.work.row p.work own.ready) in
    served_steps Local mine own p.work (local_program p) refl new due (is_greet p.work.row) refl
local_steps mine own local.OpenUsers is due =
    let p = local_after mine in
    let same : is_greeting Local (own ∷ mine) ≡ is_greeting Local mine =
    ap (λ (r : LocalRow). is_greet (local_act r own.ready own.came p).work.row) is ∙ ap (λ (w : Place). is_greet w.row) (opening_work own.came p) in
    still_steps mine own same (λ got wrote told. ap (λ (d : NeedData). told_by d got wrote told) (sym due)) (is_greeting Local mine) refl
local_steps mine own (local.ReadUsers fd) is due =
    let p = local_after mine in
    let same : is_greeting Local (own ∷ mine) ≡ is_greeting Local mine =
    ap (λ (r : LocalRow). is_greet (local_act r own.ready own.came p).work.row) is ∙ ap (λ (w : Place). is_greet w.row) (reading_work fd own.came p) in
    still_steps mine own same (λ got wrote told. ap (λ (d : NeedData). told_by d got wrote told) (sym due)) (is_greeting Local mine) refl
local_steps mine own (local.CloseUsers fd whole) is due =
    let p = local_after mine in
    let same : is_greeting Local (own ∷ mine) ≡ is_greeting Local mine =
    ap (λ (r : LocalRow). is_greet (local_act r own.ready own.came p).work.row) is ∙ ap (λ (w : Place). is_greet w.row) (closing_work whole p) in
    still_steps mine own same (λ got wrote told. ap (λ (d : NeedData). told_by d got wrote told) (sym due)) (is_greeting Local mine) refl
local_steps mine own local.OutOfMemory is due =
    let p = local_after mine in
    let same : is_greeting Local (own ∷ mine) ≡ is_greeting Local mine = ap (λ (r : LocalRow). is_greet (local_act r own.ready own.came p).work.row) is in
    still_steps mine own same (λ got wrote told. ap (λ (d : NeedData). told_by d got wrote told) (sym due)) (is_greeting Local mine) refl

-- by its table
pub steps_from : (c : Channel) (program : Program) → IsSpawner c program → (mine : List Own) (own : Own) → next_of program mine own.read own.ready ≡ own.due → StepsFrom c mine own
steps_from Local (LocalSpawner start) it mine own due = local_steps mine own (local_after mine).row refl due
steps_from Remote (RemoteSpawner start) it mine own due = remote_steps mine own due
steps_from Local program it mine own due = absurd it
steps_from Remote program it mine own due = absurd it
