-- Each injection of the books is of the mail that its actor was started with, and its number is the one that the books of the
-- world tell of that mail.
use Rattle.std.proofs.Common.{◌≡◌, ◌⊎◌, inl, inr, ℕ, List, [], ◌∷◌, ◌++◌, Bool, true, false, Option, Some, None, refl, sym, ap, ◌∙◌, subst, ⊎_elim, bytes_eq, codes, append-nil}
use Rattle.std.specs.Prelude.{if◌then◌else◌, option_to_list}
use Rattle.std.specs.List.{AllZip}
use Rattle.std.specs.Option.{option_map}
use Rattle.call_fs.specs.declared.calls.CallData.{CallData}
use Rattle.call_fs.specs.declared.calls.CallData.TheVariants as call
use Rattle.call_fs.specs.declared.calls.Answer.{Answer}
use Rattle.call_fs.specs.declared.calls.Answer.TheVariants.{Created, Opened, Count, Done, Stat as Stated, Name as Named, NoName, Refused}
use Rattle.call_fs.specs.declared.calls.Fd.{Fd}
use Rattle.call_fs.specs.declared.calls.FsError.TheVariants.{NotThere}
use Rattle.call_fs.specs.declared.calls.Told.{Told}
use Rattle.call_fs.specs.declared.program.Ready.{Ready}
use Rattle.call_fs.specs.Disk.{Disk, Among}
use Rattle.call_fs.specs.Maps.{put, put_at}
use Rattle.call_fs.specs.declared.past.NeedData.{NeedData}
use Rattle.call_fs.specs.declared.past.NeedData.TheVariants as needs
use Rattle.call_fs.specs.declared.past.GotData.TheVariants.{Answered}
use Rattle.call_fs.specs.declared.past.Own.{Own}
use Rattle.call_fs.proofs.Maps.{put_cases, put_at_cases, put_at_same}
use Rattle.queue_inject.proofs.Acts.{IsAlone, next_alone}
use Rattle.queue_inject.specs.declared.injection.Arguments.{Arguments}
use Rattle.queue_inject.specs.declared.row.Row.{Row}
use Rattle.queue_inject.specs.declared.row.Row.TheVariants as at
use Rattle.queue_inject.specs.Table.{Work, work_of, due_by as inject_due, in_time, moved, place_after as inject_after, goes_to, past_bytes, past_piece}
use Rattle.queue_paths.specs.Names.{Name, path, parse, is_number, used}
use Rattle.queue_paths.specs.Names.Name.{Pid, Of}
use Rattle.queue_paths.specs.Names.Part.{Mess, Intd, Todo, SplitIntd, SplitTodo}
use Rattle.queue_paths.proofs.Paths.{exact}
use Rattle.queue_law.proofs.Looks.{mapped_some}
use Rattle.world_events.specs.declared.event.Event.{Event as Kept}
use Rattle.world_events.specs.declared.event.Program.{Program}
use Rattle.world_events.specs.declared.event.Program.TheVariants.{Injector, Cleaner, Sender, LocalSpawner, RemoteSpawner}
use Rattle.mail_world.specs.History.{Event, Actor, Injection, Books, Life, State, MayRun, newborn, next_of, own_call, stopped, acted, finished, begun, accept, linked, booked, bouncer_of, books_after, happens, after}
use Rattle.mail_world.specs.History.Event.{Start, Act, Child, Generation, Report, End, Stop, Moment, Halt}
use Rattle.mail_world.specs.History.Life.{Over, Stopped}
use Rattle.mail_world.specs.World.{Tells}
use Rattle.mail_world.specs.ByKind.{injection_of}
use Rattle.mail_world.specs.Books.{mess_number, number_by, newer, number_of, mail_by, mails_of, IsOfMail}
use Rattle.mail_world.proofs.Covered.{AreLone}
use Rattle.mail_world.proofs.Kept.{runs_always}
use Rattle.mail_world.proofs.Owns.{IsPass, by_act, may_read}
use Rattle.mail_world.proofs.Programs.{passes_none, program_starts_none}
use Rattle.mail_world.proofs.Tests.{text_cases, same_text}
use Rattle.world_events.specs.Programs.{crew_at}

-- an injection of these books
abbrev pub IsIn : Books → Injection → Type 0
IsIn b q = ((n : ℕ) × (b.living n ≡ Some q)) ⊎ Among q b.over

pub among_option : (o : Option Injection) (over : List Injection) (q : Injection) → Among q (option_to_list o ++ over) → (o ≡ Some q) ⊎ Among q over
among_option None over q h = inr h
among_option (Some x) over q h = ⊎_elim (λ e. inl (ap Some (sym e))) (λ w. inr w) h

-- What each injection of the books is, by its actor, its arguments and its number

abbrev EachIn : Books → (List ℕ → Arguments → ℕ → Type 0) → Type 0
EachIn b P = (q : Injection) → IsIn b q → P q.actor q.args q.number

mess_holds : (b : Books) (a : List ℕ) (args : Arguments) (old : List ℕ) (n : ℕ) (P : List ℕ → Arguments → ℕ → Type 0) → EachIn b P → P a args n → EachIn (linked b a args old (Some (Of Mess n))) P
mess_holds b a args old n P h mine q is = ⊎_elim
    (λ w. ⊎_elim
    (λ f. let both : ◌≡◌ {A = Option Injection} (Some (begun a args n)) (Some q) = sym f.1 ∙ w.1 in
    let same : begun a args n ≡ q = cc in subst (λ (q : Injection). P q.actor q.args q.number) same mine)
    (λ f. h q (inl (w.0, sym f.1 ∙ w.1)))
    (put_cases b.living n (Some (begun a args n)) w.0))
    (λ w. ⊎_elim (λ e. h q (inl (n, e))) (λ e. h q (inr e)) (among_option (b.living n) b.over q w))
    is

-- an accepted one is as before
accept_holds : (a : List ℕ) (o : Option Injection) (P : List ℕ → Arguments → ℕ → Type 0) → ((x : Injection) → o ≡ Some x → P x.actor x.args x.number)
    → (q : Injection) → accept a o ≡ Some q → P q.actor q.args q.number
accept_holds a None P h q e = absurd cc
accept_holds a (Some x) P h q e = ⊎_elim
    (λ w. let turned : Injection = record x { accepted = true } in
    let both : ◌≡◌ {A = Option Injection} (Some turned) (Some q) = sym (ap (λ t. if t then Some turned else Some x) w.1) ∙ e in
    let same : turned ≡ q = cc in subst (λ (q : Injection). P q.actor q.args q.number) same (h x refl))
    (λ w. let turned : Injection = record x { accepted = true } in
    h q (sym (ap (λ t. if t then Some turned else Some x) w.1) ∙ e))
    (text_cases x.actor a)

todo_holds : (b : Books) (a : List ℕ) (n : ℕ) (P : List ℕ → Arguments → ℕ → Type 0) → EachIn b P → EachIn (record { living = put b.living n (accept a (b.living n)); over = b.over }) P
todo_holds b a n P h q is = ⊎_elim
    (λ w. ⊎_elim
    (λ f. accept_holds a (b.living n) P (λ x e. h x (inl (n, e))) q (sym f.1 ∙ w.1))
    (λ f. h q (inl (w.0, sym f.1 ∙ w.1)))
    (put_cases b.living n (accept a (b.living n)) w.0))
    (λ w. h q (inr w))
    is

if_holds : (t : Bool) (b c : Books) (P : List ℕ → Arguments → ℕ → Type 0) → EachIn b P → EachIn c P → EachIn (if t then c else b) P
if_holds true b c P h g = g
if_holds false b c P h g = h

name_holds : (b : Books) (a : List ℕ) (args : Arguments) (old : List ℕ) (name : Option Name) (P : List ℕ → Arguments → ℕ → Type 0) → EachIn b P
    → ((n : ℕ) → mess_number name ≡ Some n → P a args n) → EachIn (linked b a args old name) P
name_holds b a args old (Some (Of Mess n)) P h mine = mess_holds b a args old n P h (mine n refl)
name_holds b a args old (Some (Of Todo n)) P h mine =
    if_holds (bytes_eq old (path (Of Intd n))) b (record { living = put b.living n (accept a (b.living n)); over = b.over }) P h (todo_holds b a n P h)
name_holds b a args old (Some (Of SplitTodo n)) P h mine =
    if_holds (bytes_eq old (path (Of SplitIntd n))) b (record { living = put b.living n (accept a (b.living n)); over = b.over }) P h (todo_holds b a n P h)
name_holds b a args old name P h mine = h

-- the number of an injection that a call began
abbrev begun_by : CallData → Answer → Option ℕ
begun_by (call.Link old new) Done = mess_number (parse new)
begun_by c answer = None

link_holds : (b : Books) (a : List ℕ) (args : Arguments) (old new : List ℕ) (answer : Answer) (P : List ℕ → Arguments → ℕ → Type 0) → EachIn b P
    → ((n : ℕ) → begun_by (call.Link old new) answer ≡ Some n → P a args n) → EachIn (booked b a args (call.Link old new) answer) P
link_holds b a args old new Done P h mine = name_holds b a args old (parse new) P h mine
link_holds b a args old new (Created fd n) P h mine = h
link_holds b a args old new (Opened fd) P h mine = h
link_holds b a args old new (Count n) P h mine = h
link_holds b a args old new (Stated stat) P h mine = h
link_holds b a args old new (Named name) P h mine = h
link_holds b a args old new NoName P h mine = h
link_holds b a args old new (Refused why) P h mine = h

call_holds : (b : Books) (a : List ℕ) (args : Arguments) (c : CallData) (answer : Answer) (P : List ℕ → Arguments → ℕ → Type 0) → EachIn b P
    → ((n : ℕ) → begun_by c answer ≡ Some n → P a args n) → EachIn (booked b a args c answer) P
call_holds b a args (call.Link old new) answer P h mine = link_holds b a args old new answer P h mine
call_holds b a args (call.CreateExcl name) answer P h mine = h
call_holds b a args (call.Open name how) answer P h mine = h
call_holds b a args (call.ReadAt fd from len) answer P h mine = h
call_holds b a args (call.WriteAt fd from bytes) answer P h mine = h
call_holds b a args (call.Append fd bytes) answer P h mine = h
call_holds b a args (call.Truncate fd len) answer P h mine = h
call_holds b a args (call.Sync fd) answer P h mine = h
call_holds b a args (call.Close fd) answer P h mine = h
call_holds b a args (call.Unlink name) answer P h mine = h
call_holds b a args (call.Stat name) answer P h mine = h
call_holds b a args (call.NextName dir name) answer P h mine = h

-- The number that the books of the world tell is that of the injection that a call began.

used_number : (name : Option Name) (n : ℕ) → mess_number name ≡ Some n → is_number n ≡ true → mess_number (used name) ≡ Some n
used_number (Some (Of Mess m)) n e t =
    let same : m ≡ n = cc in
    ap (λ c. mess_number (if c then Some (Of Mess m) else None)) (ap is_number same ∙ t) ∙ e
used_number name n e t = absurd cc

if_none : (t : Bool) (name : Name) → mess_number (Some name) ≡ None → mess_number (if t then Some name else None) ≡ None
if_none true name e = e
if_none false name e = refl

unused_number : (name : Option Name) → mess_number name ≡ None → mess_number (used name) ≡ None
unused_number None e = refl
unused_number (Some name) e = if_none _ name e

link_number : (old new : List ℕ) (answer : Answer) (n : ℕ) → begun_by (call.Link old new) answer ≡ Some n → (answer ≡ Done) × (mess_number (parse new) ≡ Some n)
link_number old new Done n e = (refl, e)
link_number old new (Created fd k) n e = absurd cc
link_number old new (Opened fd) n e = absurd cc
link_number old new (Count k) n e = absurd cc
link_number old new (Stated stat) n e = absurd cc
link_number old new (Named name) n e = absurd cc
link_number old new NoName n e = absurd cc
link_number old new (Refused why) n e = absurd cc

begins_number : (c : CallData) (got : Told) (n : ℕ) → begun_by c got.answer ≡ Some n → is_number n ≡ true → number_by (needs.File c) (Answered got) ≡ Some n
begins_number (call.Link old new) got n e t =
    let w = link_number old new got.answer n e in
    ap (λ (answer : Answer). number_by (needs.File (call.Link old new)) (Answered (record { answer = answer; bytes = got.bytes }))) w.0 ∙ used_number (parse new) n w.1 t
begins_number (call.CreateExcl name) got n e t = absurd cc
begins_number (call.Open name how) got n e t = absurd cc
begins_number (call.ReadAt fd from len) got n e t = absurd cc
begins_number (call.WriteAt fd from bytes) got n e t = absurd cc
begins_number (call.Append fd bytes) got n e t = absurd cc
begins_number (call.Truncate fd len) got n e t = absurd cc
begins_number (call.Sync fd) got n e t = absurd cc
begins_number (call.Close fd) got n e t = absurd cc
begins_number (call.Unlink name) got n e t = absurd cc
begins_number (call.Stat name) got n e t = absurd cc
begins_number (call.NextName dir name) got n e t = absurd cc

link_none : (old new : List ℕ) (answer : Answer) (bytes : List ℕ) → begun_by (call.Link old new) answer ≡ None
    → number_by (needs.File (call.Link old new)) (Answered (record { answer = answer; bytes = bytes })) ≡ None
link_none old new Done bytes e = unused_number (parse new) e
link_none old new (Created fd k) bytes e = refl
link_none old new (Opened fd) bytes e = refl
link_none old new (Count k) bytes e = refl
link_none old new (Stated stat) bytes e = refl
link_none old new (Named name) bytes e = refl
link_none old new NoName bytes e = refl
link_none old new (Refused why) bytes e = refl

begins_none : (c : CallData) (got : Told) → begun_by c got.answer ≡ None → number_by (needs.File c) (Answered got) ≡ None
begins_none (call.Link old new) got e = link_none old new got.answer got.bytes e
begins_none (call.CreateExcl name) got e = refl
begins_none (call.Open name how) got e = refl
begins_none (call.ReadAt fd from len) got e = refl
begins_none (call.WriteAt fd from bytes) got e = refl
begins_none (call.Append fd bytes) got e = refl
begins_none (call.Truncate fd len) got e = refl
begins_none (call.Sync fd) got e = refl
begins_none (call.Close fd) got e = refl
begins_none (call.Unlink name) got e = refl
begins_none (call.Stat name) got e = refl
begins_none (call.NextName dir name) got e = refl

-- An injector begins one injection: after its link to the name of a message it makes no other.

abbrev IsPastLink : Row → Type 0
IsPastLink (at.Create seq) = ⊥
IsPastLink (at.LinkMess seq n fd) = ⊥
IsPastLink row = Unit {0}

-- such a link is the call of this row, answered Ok
record IsAtLink (row : Row) (answer : Answer) : Type 0 where
  seq : ℕ
  number : ℕ
  fd : Fd
  row_is : row ≡ at.LinkMess seq number fd
  answer_is : answer ≡ Done

-- a call that begins an injection is no other one
begins_none_else : (own c : CallData) (answer : Answer) (n : ℕ) → ◌≡◌ {A = NeedData} (needs.File own) (needs.File c) → begun_by own answer ≡ None → begun_by c answer ≡ Some n → ⊥
begins_none_else own c answer n due never begins =
    let same : own ≡ c = cc in
    let both : ◌≡◌ {A = Option ℕ} None (Some n) = sym never ∙ ap (λ (c : CallData). begun_by c answer) same ∙ begins in absurd (cc)

to_todo : (old : List ℕ) (k : ℕ) (answer : Answer) (n : ℕ) → begun_by (call.Link old (path (Of Todo k))) answer ≡ Some n → ⊥
to_todo old k answer n begins =
    let w = link_number old (path (Of Todo k)) answer n begins in
    let both : ◌≡◌ {A = Option ℕ} None (Some n) = sym (ap mess_number (exact.parse_path (Of Todo k))) ∙ w.1 in absurd (cc)

at_link : (args : Arguments) (row : Row) (c : CallData) (answer : Answer) (n : ℕ) → inject_due args row ≡ needs.File c → begun_by c answer ≡ Some n → IsAtLink row answer
at_link args (at.Create seq) c answer n due begins = absurd (begins_none_else _ c answer n due refl begins)
at_link args (at.LinkMess seq k fd) c answer n due begins =
    let own : CallData = call.Link (path (Pid args.pid args.start seq)) (path (Of Mess k)) in
    let same : own ≡ c = cc in
    let w = link_number (path (Pid args.pid args.start seq)) (path (Of Mess k)) answer n (ap (λ (c : CallData). begun_by c answer) same ∙ begins) in
    record { seq = seq; number = k; fd = fd; row_is = refl; answer_is = w.0 }
at_link args (at.UnlinkPid seq k fd) c answer n due begins = absurd (begins_none_else _ c answer n due refl begins)
at_link args (at.AppendMess k fd done) c answer n due begins = absurd (begins_none_else _ c answer n due refl begins)
at_link args (at.SyncMess k fd) c answer n due begins = absurd (begins_none_else _ c answer n due refl begins)
at_link args (at.CreateIntd k) c answer n due begins = absurd (begins_none_else _ c answer n due refl begins)
at_link args (at.AppendTodo k fd done) c answer n due begins = absurd (begins_none_else _ c answer n due refl begins)
at_link args (at.SyncTodo k fd) c answer n due begins = absurd (begins_none_else _ c answer n due refl begins)
at_link args (at.LinkTodo k) c answer n due begins =
    let own : CallData = call.Link (path (Of Intd k)) (path (Of Todo k)) in
    let same : own ≡ c = cc in
    absurd (to_todo (path (Of Intd k)) k answer n (ap (λ (c : CallData). begun_by c answer) same ∙ begins))
at_link args (at.CleanIntd k cause) c answer n due begins = absurd (begins_none_else _ c answer n due refl begins)
at_link args (at.CleanMess k cause) c answer n due begins = absurd (begins_none_else _ c answer n due refl begins)
at_link args at.Queued c answer n due begins = absurd (cc)
at_link args (at.Failed cause) c answer n due begins = absurd (cc)

-- what follows is past it

if_past : (t : Bool) (row other : Row) → IsPastLink row → IsPastLink other → IsPastLink (if t then row else other)
if_past true row other h g = h
if_past false row other h g = g

piece_past : (bytes : List ℕ) (fault : Option ℕ) (done : ℕ) (more end : Row) (bad : ℕ → Row) → IsPastLink more → IsPastLink end → ((status : ℕ) → IsPastLink (bad status))
    → IsPastLink (past_piece bytes fault done more end bad)
piece_past bytes None done more end bad h g f = if_past _ more end h g
piece_past bytes (Some status) done more end bad h g f = if_past _ more (bad status) h (f status)

bytes_past : (work : Work) (row : Row) → IsPastLink row → IsPastLink (past_bytes work row)
bytes_past work (at.AppendMess n fd done) h =
    piece_past work.message.bytes work.message.fault done (at.AppendMess n fd done) (at.SyncMess n fd) (λ status. at.CleanMess n status) tt tt (λ status. tt)
bytes_past work (at.AppendTodo n fd done) h =
    piece_past work.todo.bytes work.todo.fault done (at.AppendTodo n fd done) (at.SyncTodo n fd) (λ status. at.CleanIntd n status) tt tt (λ status. tt)
bytes_past work (at.Create seq) h = h
bytes_past work (at.LinkMess seq n fd) h = h
bytes_past work row h = h

goes_past : (row : Row) (answer : Answer) → IsPastLink row → IsPastLink (goes_to row answer)
goes_past (at.Create seq) answer h = absurd h
goes_past (at.LinkMess seq n fd) answer h = absurd h
goes_past (at.UnlinkPid seq n fd) Done h = tt
goes_past (at.UnlinkPid seq n fd) answer h = tt
goes_past (at.AppendMess n fd done) Done h = tt
goes_past (at.AppendMess n fd done) answer h = tt
goes_past (at.SyncMess n fd) Done h = tt
goes_past (at.SyncMess n fd) answer h = tt
goes_past (at.CreateIntd n) (Created fd i) h = tt
goes_past (at.CreateIntd n) answer h = tt
goes_past (at.AppendTodo n fd done) Done h = tt
goes_past (at.AppendTodo n fd done) answer h = tt
goes_past (at.SyncTodo n fd) Done h = tt
goes_past (at.SyncTodo n fd) answer h = tt
goes_past (at.LinkTodo n) Done h = tt
goes_past (at.LinkTodo n) answer h = tt
goes_past (at.CleanIntd n status) Done h = tt
goes_past (at.CleanIntd n status) (Refused NotThere) h = tt
goes_past (at.CleanIntd n status) answer h = tt
goes_past (at.CleanMess n status) answer h = tt
goes_past at.Queued answer h = tt
goes_past (at.Failed status) answer h = tt

moved_past : (args : Arguments) (row : Row) (answer : Answer) → IsPastLink row → IsPastLink (moved args row answer)
moved_past args row answer h = bytes_past (work_of args) (goes_to row answer) (goes_past row answer h)

link_past : (args : Arguments) (row : Row) (answer : Answer) → IsAtLink row answer → IsPastLink (moved args row answer)
link_past args row answer w =
    subst (λ (row : Row). IsPastLink (moved args row answer)) (sym w.row_is)
    (subst (λ (answer : Answer). IsPastLink (moved args (at.LinkMess w.seq w.number w.fd) answer)) (sym w.answer_is) tt)

never_past : (row : Row) (answer : Answer) → IsAtLink row answer → IsPastLink row → ⊥
never_past row answer w h = subst IsPastLink w.row_is h

timely : (input late : Bool) (due : NeedData) (c : CallData) → in_time input late due ≡ needs.File c → due ≡ needs.File c
timely true true (needs.File own) c h = absurd (cc)
timely true false (needs.File own) c h = h
timely false late (needs.File own) c h = absurd (cc)
timely input late due c h = absurd (cc)

-- What holds of the program and the past of an actor

abbrev HasBegun : Program → List Own → Type 0
HasBegun (Injector args) past = IsPastLink (inject_after args past)
HasBegun other past = ⊥

abbrev Runs : (Program → List Own → Type 0) → Option Actor → Type 0
Runs P None = ⊥
Runs P (Some x) = P x.program x.past

-- it holds of each actor
abbrev AllRun : (List ℕ → Program → Type 0) → (List ℕ → Option Actor) → Type 0
AllRun P actors = (a : List ℕ) (x : Actor) → actors a ≡ Some x → P a x.program

put_run : (P : List ℕ → Program → Type 0) (actors : List ℕ → Option Actor) (b : List ℕ) (x : Actor) → AllRun P actors → P b x.program → AllRun P (put_at actors b (Some x))
put_run P actors b x all mine a y is = ⊎_elim
    (λ w. let both : ◌≡◌ {A = Option Actor} (Some x) (Some y) = sym w.1 ∙ is in
    let same : x ≡ y = cc in
    subst (λ (a : List ℕ). P a y.program) (sym w.0) (subst (λ (x : Actor). P b x.program) same mine))
    (λ w. all a y (sym w.1 ∙ is))
    (put_at_cases actors b (Some x) a)

acted_run : (P : List ℕ → Program → Type 0) (s : State) (b : List ℕ) (own : Own) (wrote : ℕ) (o : Option Actor) → s.actors b ≡ o → AllRun P s.actors → AllRun P (acted s b own wrote o).actors
acted_run P s b own wrote None is all = all
acted_run P s b own wrote (Some x) is all = put_run P s.actors b _ all (all b x is)

finished_run : (P : List ℕ → Program → Type 0) (s : State) (b : List ℕ) (life : Life) (o : Option Actor) → s.actors b ≡ o → AllRun P s.actors → AllRun P (finished s b life o).actors
finished_run P s b life None is all = all
finished_run P s b life (Some x) is all = put_run P s.actors b _ all (all b x is)

stopped_run : (P : List ℕ → Program → Type 0) (actors : List ℕ → Option Actor) → AllRun P actors → AllRun P (λ a. option_map stopped (actors a))
stopped_run P actors all a y is =
    let w = mapped_some stopped (actors a) y is in
    subst (λ (y : Actor). P a y.program) w.2 (all a w.0 w.1)

-- Each injector is one of the mails.

abbrev IsMailed : List (List ℕ × Arguments) → List ℕ → Program → Type 0
IsMailed mails a (Injector args) = Among (a, args) mails
IsMailed mails a other = Unit {0}

among_left : {X : Type 0} (x : X) (xs ys : List X) → Among x xs → Among x (xs ++ ys)
among_left x [] ys h = absurd h
among_left x (y ∷ xs) ys h = ⊎_elim (λ e. inl e) (λ w. inr (among_left x xs ys w)) h

among_right : {X : Type 0} (x : X) (xs ys : List X) → Among x ys → Among x (xs ++ ys)
among_right x [] ys h = h
among_right x (y ∷ xs) ys h = inr (among_right x xs ys h)

more_mailed : (mails later : List (List ℕ × Arguments)) (a : List ℕ) (program : Program) → IsMailed mails a program → IsMailed (mails ++ later) a program
more_mailed mails later a (Injector args) h = among_left (a, args) mails later h
more_mailed mails later a other h = tt

new_mailed : (mails : List (List ℕ × Arguments)) (a : List ℕ) (program : Program) → IsMailed (mails ++ mail_by a (injection_of program)) a program
new_mailed mails a (Injector args) = among_right (a, args) mails ((a, args) ∷ []) (inl refl)
new_mailed mails a other = tt

all_mailed : (d : Disk) (events : List Kept) (h : List Event) → AllZip Tells events h → AllRun (IsMailed (mails_of h)) (after d h).actors
all_mailed d [] [] told a x is = absurd cc
all_mailed d [] (e ∷ h) told a x is = absurd told
all_mailed d (k ∷ events) [] told a x is = absurd told
all_mailed d (k ∷ events) ((Start b program) ∷ h) told a x is =
    put_run (IsMailed (mails_of h ++ mail_by b (injection_of program))) (after d h).actors b _
    (λ a x is. more_mailed (mails_of h) (mail_by b (injection_of program)) a x.program (all_mailed d events h told.1 a x is))
    (new_mailed (mails_of h) b program) a x is
all_mailed d (k ∷ events) ((Act b own wrote) ∷ h) told a x is =
    acted_run (IsMailed (mails_of h)) (after d h) b own wrote ((after d h).actors b) refl (all_mailed d events h told.1) a x is
all_mailed d (k ∷ events) ((Child parent own b program) ∷ h) told a x is =
    let s = after d h in
    put_run (IsMailed (mails_of h ++ mail_by b (injection_of program))) (acted s parent own 0 (s.actors parent)).actors b _
    (λ a x is. more_mailed (mails_of h) (mail_by b (injection_of program)) a x.program
    (acted_run (IsMailed (mails_of h)) s parent own 0 (s.actors parent) refl (all_mailed d events h told.1) a x is))
    (new_mailed (mails_of h) b program) a x is
all_mailed d (k ∷ events) ((Generation crew) ∷ h) told a x is =
    let s = after d h in
    let of : List ℕ → Program → Type 0 = IsMailed (mails_of h) in
    let p : ℕ = told.0.0 in
    let one = put_at s.actors (codes "sender") (Some (newborn (Sender p))) in
    let two = put_at one (codes "clean") (Some (newborn (Cleaner p))) in
    let three = put_at two (codes "lspawn") (Some (newborn (LocalSpawner p))) in
    let all : AllRun of (happens s (Generation (crew_at p))).actors =
    put_run of three (codes "rspawn") (newborn (RemoteSpawner p))
    (put_run of two (codes "lspawn") (newborn (LocalSpawner p))
    (put_run of one (codes "clean") (newborn (Cleaner p))
    (put_run of s.actors (codes "sender") (newborn (Sender p)) (all_mailed d events h told.1) tt) tt) tt) tt in
    subst (λ (programs : List Program). AllRun of (happens s (Generation programs)).actors) (sym told.0.2) all a x is
all_mailed d (k ∷ events) ((Report slot output) ∷ h) told a x is = all_mailed d events h told.1 a x is
all_mailed d (k ∷ events) ((End b read ready status) ∷ h) told a x is =
    finished_run (IsMailed (mails_of h)) (after d h) b (Over status) ((after d h).actors b) refl (all_mailed d events h told.1) a x is
all_mailed d (k ∷ events) ((Stop b) ∷ h) told a x is =
    finished_run (IsMailed (mails_of h)) (after d h) b Stopped ((after d h).actors b) refl (all_mailed d events h told.1) a x is
all_mailed d (k ∷ events) ((Moment m) ∷ h) told a x is = all_mailed d events h told.1 a x is
all_mailed d (k ∷ events) ((Halt how contents) ∷ h) told a x is = stopped_run (IsMailed (mails_of h)) (after d h).actors (all_mailed d events h told.1) a x is

-- One event

put_kept : (P : Program → List Own → Type 0) (actors : List ℕ → Option Actor) (b : List ℕ) (x y : Actor) (a : List ℕ) → actors b ≡ Some x → (P x.program x.past → P y.program y.past)
    → Runs P (actors a) → Runs P (put_at actors b (Some y) a)
put_kept P actors b x y a is on run = ⊎_elim
    (λ w. subst (Runs P) (sym w.1) (on (subst (Runs P) (ap actors w.0 ∙ is) run)))
    (λ w. subst (Runs P) (sym w.1) run)
    (put_at_cases actors b (Some y) a)

start_kept : (P : Program → List Own → Type 0) (actors : List ℕ → Option Actor) (b : List ℕ) (y : Actor) (a : List ℕ) → actors b ≡ None → Runs P (actors a) → Runs P (put_at actors b (Some y) a)
start_kept P actors b y a new run = ⊎_elim
    (λ w. absurd (subst (Runs P) (ap actors w.0 ∙ new) run))
    (λ w. subst (Runs P) (sym w.1) run)
    (put_at_cases actors b (Some y) a)

finish_kept : (P : Program → List Own → Type 0) (s : State) (b : List ℕ) (life : Life) (o : Option Actor) (a : List ℕ) → s.actors b ≡ o → Runs P (s.actors a) → Runs P ((finished s b life o).actors a)
finish_kept P s b life None a is run = run
finish_kept P s b life (Some x) a is run = put_kept P s.actors b x _ a is (λ p. p) run

stop_kept : (P : Program → List Own → Type 0) (o : Option Actor) → Runs P o → Runs P (option_map stopped o)
stop_kept P None run = run
stop_kept P (Some x) run = run

-- what is said of an injection after a history
record IsTold (h : List Event) (actors : List ℕ → Option Actor) (a : List ℕ) (args : Arguments) (n : ℕ) : Type 0 where
  mail : Among (a, args) (mails_of h)
  number : is_number n ≡ true → number_of a h ≡ Some n
  begun_there : Runs HasBegun (actors a)

none_or : (o : Option ℕ) → ((n : ℕ) → o ≡ Some n → ⊥) → o ≡ None
none_or None never = refl
none_or (Some n) never = absurd (never n refl)

-- an injection of another actor, or of one that begins none with this call, has its number
old_number : (b a : List ℕ) (o before : Option ℕ) (n : ℕ) → (b ≡ a → o ≡ None) → before ≡ Some n → newer (if bytes_eq b a then o else None) before ≡ Some n
old_number b a o before n none is = ⊎_elim
    (λ w. ap (λ t. newer (if t then o else None) before) w.1 ∙ ap (λ m. newer m before) (none w.0) ∙ is)
    (λ w. ap (λ t. newer (if t then o else None) before) w.1 ∙ is)
    (text_cases b a)

call_told : (h : List Event) (s : State) (b : List ℕ) (read : ℕ) (ready : Ready) (c : CallData) (got : Told) (wrote : ℕ) (program : Program) (past : List Own) (life : Life) → MayRun program
    → s.actors b ≡ Some (record { program = program; past = past; life = life }) → next_of program past read ready ≡ needs.File c → IsMailed (mails_of h) b program
    → EachIn s.books (IsTold h s.actors)
    → EachIn (books_after (bouncer_of s b) s.books b program past read ready (needs.File c) (Answered got))
    (IsTold (Act b (own_call read ready c got) wrote ∷ h) (put_at s.actors b (Some (record { program = program; past = own_call read ready c got ∷ past; life = life }))))
call_told h s b read ready c got wrote (Injector args) past life runs is due mailed all =
    let row = inject_after args past in
    let own : Own = own_call read ready c got in
    let now : Actor = record { program = Injector args; past = own ∷ past; life = life } in
    let call_is : inject_due args row ≡ needs.File c = timely _ _ _ c due in
    let told : Option ℕ = number_by (needs.File c) (Answered got) in
    call_holds s.books b args c got.answer (IsTold (Act b own wrote ∷ h) (put_at s.actors b (Some now)))
    (λ q there.
    let t = all q there in
    let none : b ≡ q.actor → told ≡ None = λ same. begins_none c got (none_or (begun_by c got.answer) (λ n begins.
    never_past row got.answer (at_link args row c got.answer n call_is begins) (subst (Runs HasBegun) (ap s.actors (sym same) ∙ is) t.begun_there))) in
    record {
      mail = t.mail;
      number = λ m. old_number b q.actor told (number_of q.actor h) q.number none (t.number m);
      begun_there = put_kept HasBegun s.actors b (record { program = Injector args; past = past; life = life }) now q.actor is (moved_past args row got.answer) t.begun_there;
    })
    (λ n begins. record {
      mail = mailed;
      number = λ m. ap (λ t. newer (if t then told else None) (number_of b h)) (same_text b) ∙ ap (λ o. newer o (number_of b h)) (begins_number c got n begins m);
      begun_there = subst (Runs HasBegun) (sym (put_at_same s.actors b (Some now))) (link_past args row got.answer (at_link args row c got.answer n call_is begins));
    })
call_told h s b read ready c got wrote other past life runs is due mailed all = absurd runs

pass_told : (program : Program) (past : List Own) (read : ℕ) (ready : Ready) (due : NeedData) → MayRun program → next_of program past read ready ≡ due → IsPass due → ⊥
pass_told (Injector args) past read ready due runs next pass = passes_none due (subst IsAlone next (next_alone args past read ready)) pass
pass_told other past read ready due runs next pass = runs

abbrev TellsOn : List Event → State → List ℕ → Own → ℕ → Type 0
TellsOn h s b own wrote = (x : Actor) → s.actors b ≡ Some x → EachIn (acted s b own wrote (Some x)).books (IsTold (Act b own wrote ∷ h) (acted s b own wrote (Some x)).actors)

act_told : (d : Disk) (h : List Event) (b : List ℕ) (own : Own) (wrote : ℕ) → AreLone d (Act b own wrote ∷ h) → AllRun (IsMailed (mails_of h)) (after d h).actors
    → EachIn (after d h).books (IsTold h (after d h).actors) → EachIn (after d (Act b own wrote ∷ h)).books (IsTold (Act b own wrote ∷ h) (after d (Act b own wrote ∷ h)).actors)
act_told d h b own wrote legal mailed all =
    let s = after d h in
    let reads = may_read s b wrote own legal.1 in
    let on : TellsOn h s b own wrote =
    by_act s b wrote (λ own. TellsOn h s b own wrote)
    (λ read ready c got may x is.
    let same : may.actor ≡ x = (let both : ◌≡◌ {A = Option Actor} (Some may.actor) (Some x) = sym may.reads.is ∙ is in cc) in
    call_told h s b read ready c got wrote x.program x.past x.life (runs_always d h legal.0 b x is) is
    (subst (λ (x : Actor). next_of x.program x.past read ready ≡ needs.File c) same may.due) (mailed b x is) all)
    (λ y read ready due came reads next pass x is.
    absurd (pass_told y.program y.past read ready due (runs_always d h legal.0 b y reads.is) next pass))
    own legal.1 in
    subst (λ (o : Option Actor). EachIn (acted s b own wrote o).books (IsTold (Act b own wrote ∷ h) (acted s b own wrote o).actors)) (sym reads.1.is) (on reads.0 reads.1.is)

-- an event that tells nothing of a mail
same_told : (h l : List Event) (s : State) (books : Books) (actors : List ℕ → Option Actor) → books ≡ s.books → (later : List (List ℕ × Arguments)) → mails_of l ≡ mails_of h ++ later
    → ((a : List ℕ) → number_of a l ≡ number_of a h) → ((a : List ℕ) → Runs HasBegun (s.actors a) → Runs HasBegun (actors a))
    → EachIn s.books (IsTold h s.actors) → EachIn books (IsTold l actors)
same_told h l s books actors same later mails numbers on all q there =
    let t = all q (subst (λ (b : Books). IsIn b q) same there) in
    record {
      mail = subst (Among (q.actor, q.args)) (sym mails) (among_left (q.actor, q.args) (mails_of h) later t.mail);
      number = λ m. numbers q.actor ∙ t.number m;
      begun_there = on q.actor t.begun_there;
    }

finished_same : (s : State) (b : List ℕ) (life : Life) (o : Option Actor) → (finished s b life o).books ≡ s.books
finished_same s b life None = refl
finished_same s b life (Some x) = refl

-- no program that starts alone starts another one
pub bears_none : (d : Disk) (h : List Event) (parent : List ℕ) (own : Own) (b : List ℕ) (program : Program) → AreLone d (Child parent own b program ∷ h) → ⊥
bears_none d h parent own b program legal =
    let born = legal.1 in
    program_starts_none born.actor.program born.actor.past own.read own.ready born.asked (runs_always d h legal.0 parent born.actor born.reads.is) (born.due ∙ born.starts)

each_told : (d : Disk) (events : List Kept) (h : List Event) → AreLone d h → AllZip Tells events h → EachIn (after d h).books (IsTold h (after d h).actors)
each_told d [] [] legal told q is = ⊎_elim (λ w. absurd (cc)) (λ w. absurd w) is
each_told d [] (e ∷ h) legal told q is = absurd told
each_told d (k ∷ events) [] legal told q is = absurd told
each_told d (k ∷ events) ((Start b program) ∷ h) legal told q is =
    let s = after d h in
    same_told h (Start b program ∷ h) s s.books (happens s (Start b program)).actors refl (mail_by b (injection_of program)) refl (λ a. refl)
    (λ a run. start_kept HasBegun s.actors b _ a legal.1.new run) (each_told d events h legal.0 told.1) q is
each_told d (k ∷ events) ((Act b own wrote) ∷ h) legal told q is =
    act_told d h b own wrote legal (all_mailed d events h told.1) (each_told d events h legal.0 told.1) q is
each_told d (k ∷ events) ((Child parent own b program) ∷ h) legal told q is = absurd (bears_none d h parent own b program legal)
each_told d (k ∷ events) ((Generation crew) ∷ h) legal told q is = absurd legal.1
each_told d (k ∷ events) ((Report slot output) ∷ h) legal told q is =
    let s = after d h in
    same_told h (Report slot output ∷ h) s s.books s.actors refl [] (sym (append-nil (mails_of h))) (λ a. refl) (λ a run. run) (each_told d events h legal.0 told.1) q is
each_told d (k ∷ events) ((End b read ready status) ∷ h) legal told q is =
    let s = after d h in
    same_told h (End b read ready status ∷ h) s (happens s (End b read ready status)).books (happens s (End b read ready status)).actors
    (finished_same s b (Over status) (s.actors b)) [] (sym (append-nil (mails_of h))) (λ a. refl)
    (λ a run. finish_kept HasBegun s b (Over status) (s.actors b) a refl run) (each_told d events h legal.0 told.1) q is
each_told d (k ∷ events) ((Stop b) ∷ h) legal told q is =
    let s = after d h in
    same_told h (Stop b ∷ h) s (happens s (Stop b)).books (happens s (Stop b)).actors
    (finished_same s b Stopped (s.actors b)) [] (sym (append-nil (mails_of h))) (λ a. refl)
    (λ a run. finish_kept HasBegun s b Stopped (s.actors b) a refl run) (each_told d events h legal.0 told.1) q is
each_told d (k ∷ events) ((Moment m) ∷ h) legal told q is =
    let s = after d h in
    same_told h (Moment m ∷ h) s s.books s.actors refl [] (sym (append-nil (mails_of h))) (λ a. refl) (λ a run. run) (each_told d events h legal.0 told.1) q is
each_told d (k ∷ events) ((Halt how contents) ∷ h) legal told q is =
    let s = after d h in
    same_told h (Halt how contents ∷ h) s s.books (happens s (Halt how contents)).actors refl [] (sym (append-nil (mails_of h))) (λ a. refl)
    (λ a run. stop_kept HasBegun (s.actors a) run) (each_told d events h legal.0 told.1) q is

pub injections_told : (d : Disk) (events : List Kept) (h : List Event) → AreLone d h → AllZip Tells events h → (q : Injection) → IsIn (after d h).books q → IsOfMail h q
injections_told d events h legal told q is = let t = each_told d events h legal told q is in record { mail = t.mail; number = t.number }
