-- An injector made the link that accepts its mail exactly where the books of the history have its accepted injection.
use Rattle.std.proofs.Common.{◌≡◌, ◌⊎◌, inl, inr, ℕ, List, [], ◌∷◌, reverse, Bool, true, false, ◌&&◌, ◌||◌, Option, Some, None, refl, sym, ap, ◌∙◌, subst, ⊎_elim, bytes_eq}
use Rattle.std.proofs.Math.Bool.{or-true, or-false}
use Rattle.std.specs.Prelude.{if◌then◌else◌}
use Rattle.std.specs.List.{AllZip}
use Rattle.std.specs.Option.{option_map}
use Rattle.call_fs.specs.declared.calls.CallData.{CallData}
use Rattle.call_fs.specs.declared.calls.CallData.TheVariants as call
use Rattle.call_fs.specs.declared.calls.Answer.{Answer}
use Rattle.call_fs.specs.declared.calls.Answer.TheVariants.{Created, Opened, Count, Done, Stat as Stated, Name as Named, NoName, Refused}
use Rattle.call_fs.specs.declared.calls.Told.{Told}
use Rattle.call_fs.specs.declared.program.Ready.{Ready}
use Rattle.call_fs.specs.Disk.{Disk}
use Rattle.call_fs.specs.Maps.{put, put_at}
use Rattle.call_fs.specs.declared.past.NeedData.{NeedData}
use Rattle.call_fs.specs.declared.past.NeedData.TheVariants as needs
use Rattle.call_fs.specs.declared.past.GotData.{GotData}
use Rattle.call_fs.specs.declared.past.GotData.TheVariants.{Answered}
use Rattle.call_fs.specs.declared.past.Own.{Own}
use Rattle.call_fs.proofs.Maps.{put_cases, put_at_cases, put_at_same, put_at_other}
use Rattle.queue_inject.specs.declared.injection.Arguments.{Arguments}
use Rattle.queue_inject.specs.declared.row.Row.{Row}
use Rattle.queue_inject.specs.declared.row.Row.TheVariants as at
use Rattle.queue_inject.specs.Table.{due_by as inject_due, in_time, has_input, is_late, moved, place_after as inject_after}
use Rattle.queue_limits.specs.declared.statuses.TheConstants.{DONE}
use Rattle.queue_paths.specs.Names.{Name, path, parse}
use Rattle.queue_paths.specs.Names.Name.{Pid, Of}
use Rattle.queue_paths.specs.Names.Part.{Mess, Intd, Todo, SplitIntd, SplitTodo}
use Rattle.queue_paths.proofs.Paths.{exact}
use Rattle.world_events.specs.declared.event.Event.{Event as Kept}
use Rattle.world_events.specs.declared.event.Program.{Program}
use Rattle.world_events.specs.declared.event.Program.TheVariants.{Injector}
use Rattle.mail_world.specs.History.{Event, Actor, Injection, Books, Life, State, MayRun, next_of, own_call, stopped, acted, finished, begun, accept, linked, booked, bouncer_of, books_after, told_by, after}
use Rattle.queue_law.specs.Entered.{Child as Bouncer}
use Rattle.mail_world.specs.History.Event.{Start, Act, Child, Generation, Report, End, Stop, Moment, Halt}
use Rattle.mail_world.specs.History.Life.{Over, Stopped}
use Rattle.mail_world.specs.Waiting.{HasQueued}
use Rattle.mail_world.proofs.Programs.{IsBooked}
use Rattle.mail_world.specs.World.{Tells, with_inputs}
use Rattle.mail_world.specs.Books.{is_to_todo, is_accepting, is_accepting_by, is_accepted, AcceptedAreBooked}
use Rattle.mail_world.proofs.BookedNumbers.{IsIn, among_option, bears_none, injections_told}
use Rattle.mail_world.proofs.Covered.{AreLone, covered}
use Rattle.mail_world.proofs.Kept.{books_always, runs_always}
use Rattle.mail_world.proofs.Owns.{IsPass, by_act, may_read}
use Rattle.mail_world.proofs.Tests.{text_cases, same_text}

-- What is accepted in the books was linked.

-- each accepted one was linked, so far as this says
abbrev AreLinked : Books → (List ℕ → Bool) → Type 0
AreLinked b said = (q : Injection) → IsIn b q → q.accepted ≡ true → said q.actor ≡ true

-- a message's link begins one that isn't accepted
mess_linked : (b : Books) (a : List ℕ) (args : Arguments) (old : List ℕ) (n : ℕ) (said : List ℕ → Bool) → AreLinked b said → AreLinked (linked b a args old (Some (Of Mess n))) said
mess_linked b a args old n said h q is agreed = ⊎_elim
    (λ w. ⊎_elim
    (λ f. let both : ◌≡◌ {A = Option Injection} (Some (begun a args n)) (Some q) = sym f.1 ∙ w.1 in
    let same : begun a args n ≡ q = cc in
    let never : false ≡ true = ap (λ (q : Injection). q.accepted) same ∙ agreed in absurd (cc))
    (λ f. h q (inl (w.0, sym f.1 ∙ w.1)) agreed)
    (put_cases b.living n (Some (begun a args n)) w.0))
    (λ w. ⊎_elim (λ e. h q (inl (n, e)) agreed) (λ e. h q (inr e) agreed) (among_option (b.living n) b.over q w))
    is

-- what a link of intd accepts is its own
own_accepted : (a : List ℕ) (o : Option Injection) (q : Injection) → accept a o ≡ Some q → (o ≡ Some q) ⊎ (q.actor ≡ a)
own_accepted a None q h = absurd cc
own_accepted a (Some x) q h = ⊎_elim
    (λ w. let turned : Injection = record x { accepted = true } in
    let both : ◌≡◌ {A = Option Injection} (Some turned) (Some q) = sym (ap (λ t. if t then Some turned else Some x) w.1) ∙ h in
    let same : turned ≡ q = cc in inr (ap (λ (q : Injection). q.actor) (sym same) ∙ w.0))
    (λ w. let turned : Injection = record x { accepted = true } in
    inl (sym (ap (λ t. if t then Some turned else Some x) w.1) ∙ h))
    (text_cases x.actor a)

todo_linked : (b : Books) (a : List ℕ) (n : ℕ) (said : List ℕ → Bool) → AreLinked b said → said a ≡ true
    → AreLinked (record { living = put b.living n (accept a (b.living n)); over = b.over }) said
todo_linked b a n said h mine q is agreed = ⊎_elim
    (λ w. ⊎_elim
    (λ f. ⊎_elim (λ e. h q (inl (n, e)) agreed) (λ e. ap said e ∙ mine) (own_accepted a (b.living n) q (sym f.1 ∙ w.1)))
    (λ f. h q (inl (w.0, sym f.1 ∙ w.1)) agreed)
    (put_cases b.living n (accept a (b.living n)) w.0))
    (λ w. h q (inr w) agreed)
    is

if_linked : (t : Bool) (b c : Books) (said : List ℕ → Bool) → AreLinked b said → (t ≡ true → AreLinked c said) → AreLinked (if t then c else b) said
if_linked true b c said h g = g refl
if_linked false b c said h g = h

name_linked : (b : Books) (a : List ℕ) (args : Arguments) (old : List ℕ) (name : Option Name) (said : List ℕ → Bool) → AreLinked b said → (is_to_todo old name ≡ true → said a ≡ true)
    → AreLinked (linked b a args old name) said
name_linked b a args old (Some (Of Mess n)) said h mine = mess_linked b a args old n said h
name_linked b a args old (Some (Of Todo n)) said h mine =
    if_linked (bytes_eq old (path (Of Intd n))) b (record { living = put b.living n (accept a (b.living n)); over = b.over }) said h
    (λ t. todo_linked b a n said h (mine t))
name_linked b a args old (Some (Of SplitTodo n)) said h mine =
    if_linked (bytes_eq old (path (Of SplitIntd n))) b (record { living = put b.living n (accept a (b.living n)); over = b.over }) said h
    (λ t. todo_linked b a n said h (mine t))
name_linked b a args old name said h mine = h

link_linked : (b : Books) (a : List ℕ) (args : Arguments) (old new : List ℕ) (answer : Answer) (said : List ℕ → Bool) → AreLinked b said → (is_accepting (call.Link old new) answer ≡ true → said a ≡ true)
    → AreLinked (booked b a args (call.Link old new) answer) said
link_linked b a args old new Done said h mine = name_linked b a args old (parse new) said h mine
link_linked b a args old new (Created fd n) said h mine = h
link_linked b a args old new (Opened fd) said h mine = h
link_linked b a args old new (Count n) said h mine = h
link_linked b a args old new (Stated stat) said h mine = h
link_linked b a args old new (Named name) said h mine = h
link_linked b a args old new NoName said h mine = h
link_linked b a args old new (Refused why) said h mine = h

call_linked : (b : Books) (a : List ℕ) (args : Arguments) (c : CallData) (answer : Answer) (said : List ℕ → Bool) → AreLinked b said → (is_accepting c answer ≡ true → said a ≡ true)
    → AreLinked (booked b a args c answer) said
call_linked b a args (call.Link old new) answer said h mine = link_linked b a args old new answer said h mine
call_linked b a args (call.CreateExcl name) answer said h mine = h
call_linked b a args (call.Open name how) answer said h mine = h
call_linked b a args (call.ReadAt fd from len) answer said h mine = h
call_linked b a args (call.WriteAt fd from bytes) answer said h mine = h
call_linked b a args (call.Append fd bytes) answer said h mine = h
call_linked b a args (call.Truncate fd len) answer said h mine = h
call_linked b a args (call.Sync fd) answer said h mine = h
call_linked b a args (call.Close fd) answer said h mine = h
call_linked b a args (call.Unlink name) answer said h mine = h
call_linked b a args (call.Stat name) answer said h mine = h
call_linked b a args (call.NextName dir name) answer said h mine = h

program_linked : (child : Option Bouncer) (b : Books) (a : List ℕ) (program : Program) (past : List Own) (read : ℕ) (ready : Ready) (c : CallData) (got : Told) (said : List ℕ → Bool) → MayRun program → AreLinked b said → (is_accepting c got.answer ≡ true → said a ≡ true)
    → AreLinked (books_after child b a program past read ready (needs.File c) (Answered got)) said
program_linked child b a (Injector args) past read ready c got said runs h mine = call_linked b a args c got.answer said h mine
program_linked child b a other past read ready c got said runs h mine = absurd runs

-- what passes between programs changes no books, if it isn't a sender's
take_books : (child : Option Bouncer) (b : Books) (program : Program) (past : List Own) (read : ℕ) (ready : Ready) (came : GotData) → MayRun program
    → told_by child b program past read ready came ≡ b
take_books child b (Injector args) past read ready came runs = refl
take_books child b other past read ready came runs = absurd runs

pass_books : (child : Option Bouncer) (b : Books) (a : List ℕ) (program : Program) (past : List Own) (read : ℕ) (ready : Ready) (due : NeedData) (came : GotData) → MayRun program → IsPass due
    → books_after child b a program past read ready due came ≡ b
pass_books child b a program past read ready (needs.Take port) came runs pass = take_books child b program past read ready came runs
pass_books child b a program past read ready (needs.Give port bytes) came runs pass = take_books child b program past read ready came runs
pass_books child b a program past read ready (needs.Start asked) came runs pass = refl
pass_books child b a program past read ready (needs.Command bytes) came runs pass = refl
pass_books child b a program past read ready (needs.File c) came runs pass = absurd pass
pass_books child b a program past read ready needs.Wait came runs pass = absurd pass
pass_books child b a program past read ready (needs.Ended status) came runs pass = absurd pass

finished_books : (s : State) (b : List ℕ) (life : Life) (o : Option Actor) → (finished s b life o).books ≡ s.books
finished_books s b life None = refl
finished_books s b life (Some x) = refl

abbrev LinksOn : State → List ℕ → Own → Type 0
LinksOn s b own = (x : Actor) → s.actors b ≡ Some x → (said : List ℕ → Bool) → AreLinked s.books said → (is_accepting_by own.due own.came ≡ true → said b ≡ true)
    → AreLinked (books_after (bouncer_of s b) s.books b x.program x.past own.read own.ready own.due own.came) said

linked_told : (d : Disk) (events : List Kept) (h : List Event) → AreLone d h → AllZip Tells events h → AreLinked (after d h).books (λ a. is_accepted a h)
linked_told d [] [] legal told q is agreed = ⊎_elim (λ w. absurd (cc)) (λ w. absurd w) is
linked_told d [] (e ∷ h) legal told q is agreed = absurd told
linked_told d (k ∷ events) [] legal told q is agreed = absurd told
linked_told d (k ∷ events) ((Start b program) ∷ h) legal told q is agreed = linked_told d events h legal.0 told.1 q is agreed
linked_told d (k ∷ events) ((Act b own wrote) ∷ h) legal told q is agreed =
    let s = after d h in
    let reads = may_read s b wrote own legal.1 in
    let t = is_accepting_by own.due own.came in
    let said : List ℕ → Bool = λ a. (bytes_eq b a && t) || is_accepted a h in
    let on : LinksOn s b own =
    by_act s b wrote (LinksOn s b)
    (λ read ready c got may x here said old mine. program_linked (bouncer_of s b) s.books b x.program x.past read ready c got said (runs_always d h legal.0 b x here) old mine)
    (λ x read ready due came reads next pass y here said old mine. subst (λ (books : Books). AreLinked books said) (sym (pass_books (bouncer_of s b) s.books b y.program y.past read ready due came (runs_always d h legal.0 b y here) pass)) old)
    own legal.1 in
    let before : AreLinked s.books said =
    λ q is agreed. ap (λ c. (bytes_eq b q.actor && t) || c) (linked_told d events h legal.0 told.1 q is agreed) ∙ or-true (bytes_eq b q.actor && t) in
    let mine : t ≡ true → said b ≡ true = λ e. ap (λ c. (c && t) || is_accepted b h) (same_text b) ∙ ap (λ c. c || is_accepted b h) e in
    subst (λ (o : Option Actor). AreLinked (acted s b own wrote o).books said) (sym reads.1.is) (on reads.0 reads.1.is said before mine) q is agreed
linked_told d (k ∷ events) ((Child parent own b program) ∷ h) legal told q is agreed = absurd (bears_none d h parent own b program legal)
linked_told d (k ∷ events) ((Generation crew) ∷ h) legal told q is agreed = linked_told d events h legal.0 told.1 q is agreed
linked_told d (k ∷ events) ((Report slot output) ∷ h) legal told q is agreed = linked_told d events h legal.0 told.1 q is agreed
linked_told d (k ∷ events) ((End b read ready status) ∷ h) legal told q is agreed =
    subst (λ (books : Books). AreLinked books (λ a. is_accepted a h)) (sym (finished_books (after d h) b (Over status) ((after d h).actors b)))
    (linked_told d events h legal.0 told.1) q is agreed
linked_told d (k ∷ events) ((Stop b) ∷ h) legal told q is agreed =
    subst (λ (books : Books). AreLinked books (λ a. is_accepted a h)) (sym (finished_books (after d h) b Stopped ((after d h).actors b)))
    (linked_told d events h legal.0 told.1) q is agreed
linked_told d (k ∷ events) ((Moment m) ∷ h) legal told q is agreed = linked_told d events h legal.0 told.1 q is agreed
linked_told d (k ∷ events) ((Halt how contents) ∷ h) legal told q is agreed = linked_told d events h legal.0 told.1 q is agreed

-- What was linked is accepted in the books: its injector has queued its message.

abbrev HasRow : Option Actor → Type 0
HasRow None = ⊥
HasRow (Some x) = (args : Arguments) × (x.program ≡ Injector args) × (inject_after args x.past ≡ at.Queued)

-- the call that accepts is the one after which it has

link_answer : (old new : List ℕ) (answer : Answer) → is_accepting (call.Link old new) answer ≡ true → (answer ≡ Done) × (is_to_todo old (parse new) ≡ true)
link_answer old new Done h = (refl, h)
link_answer old new (Created fd n) h = absurd cc
link_answer old new (Opened fd) h = absurd cc
link_answer old new (Count n) h = absurd cc
link_answer old new (Stated stat) h = absurd cc
link_answer old new (Named name) h = absurd cc
link_answer old new NoName h = absurd cc
link_answer old new (Refused why) h = absurd cc

-- a call that accepts is no other one
other_call : (own c : CallData) (answer : Answer) → ◌≡◌ {A = NeedData} (needs.File own) (needs.File c) → is_accepting own answer ≡ false → is_accepting c answer ≡ true → ⊥
other_call own c answer due never agreed =
    let same : own ≡ c = cc in
    let both : false ≡ true = sym never ∙ ap (λ (c : CallData). is_accepting c answer) same ∙ agreed in absurd (cc)

to_message : (old : List ℕ) (n : ℕ) (answer : Answer) → is_accepting (call.Link old (path (Of Mess n))) answer ≡ true → ⊥
to_message old n answer agreed =
    let w = link_answer old (path (Of Mess n)) answer agreed in
    let both : false ≡ true = sym (ap (is_to_todo old) (exact.parse_path (Of Mess n))) ∙ w.1 in absurd (cc)

row_queued : (args : Arguments) (row : Row) (c : CallData) (answer : Answer) → inject_due args row ≡ needs.File c → is_accepting c answer ≡ true → moved args row answer ≡ at.Queued
row_queued args (at.Create seq) c answer due agreed = absurd (other_call _ c answer due refl agreed)
row_queued args (at.LinkMess seq n fd) c answer due agreed =
    let own : CallData = call.Link (path (Pid args.pid args.start seq)) (path (Of Mess n)) in
    let same : own ≡ c = cc in
    absurd (to_message (path (Pid args.pid args.start seq)) n answer (ap (λ (c : CallData). is_accepting c answer) same ∙ agreed))
row_queued args (at.UnlinkPid seq n fd) c answer due agreed = absurd (other_call _ c answer due refl agreed)
row_queued args (at.AppendMess n fd done) c answer due agreed = absurd (other_call _ c answer due refl agreed)
row_queued args (at.SyncMess n fd) c answer due agreed = absurd (other_call _ c answer due refl agreed)
row_queued args (at.CreateIntd n) c answer due agreed = absurd (other_call _ c answer due refl agreed)
row_queued args (at.AppendTodo n fd done) c answer due agreed = absurd (other_call _ c answer due refl agreed)
row_queued args (at.SyncTodo n fd) c answer due agreed = absurd (other_call _ c answer due refl agreed)
row_queued args (at.LinkTodo n) c answer due agreed =
    let own : CallData = call.Link (path (Of Intd n)) (path (Of Todo n)) in
    let same : own ≡ c = cc in
    let w = link_answer (path (Of Intd n)) (path (Of Todo n)) answer (ap (λ (c : CallData). is_accepting c answer) same ∙ agreed) in
    ap (moved args (at.LinkTodo n)) w.0
row_queued args (at.CleanIntd n cause) c answer due agreed = absurd (other_call _ c answer due refl agreed)
row_queued args (at.CleanMess n cause) c answer due agreed = absurd (other_call _ c answer due refl agreed)
row_queued args at.Queued c answer due agreed = absurd (cc)
row_queued args (at.Failed cause) c answer due agreed = absurd (cc)

timely : (input late : Bool) (due : NeedData) (c : CallData) → in_time input late due ≡ needs.File c → due ≡ needs.File c
timely true true (needs.File own) c h = absurd (cc)
timely true false (needs.File own) c h = h
timely false late (needs.File own) c h = absurd (cc)
timely input late due c h = absurd (cc)

abbrev HasQueuedRow : Program → List Own → Type 0
HasQueuedRow program past = (args : Arguments) × (program ≡ Injector args) × (inject_after args past ≡ at.Queued)

-- an injector that has queued its message ends next
ends_next : (args other : Arguments) (past : List Own) (read : ℕ) (ready : Ready) (due : NeedData) → Injector args ≡ Injector other → inject_after other past ≡ at.Queued
    → next_of (Injector args) past read ready ≡ due → due ≡ needs.Ended DONE
ends_next args other past read ready due is row next =
    let same : args ≡ other = cc in
    let queued : inject_after args past ≡ at.Queued = ap (λ args. inject_after args past) same ∙ row in
    sym next ∙ ap (λ (row : Row). in_time (has_input ready) (is_late args read) (inject_due args row)) queued

call_row : (program : Program) (past : List Own) (read : ℕ) (ready : Ready) (c : CallData) (got : Told) (before : Bool) → MayRun program → next_of program past read ready ≡ needs.File c
    → (before ≡ true → HasQueuedRow program past) → (is_accepting c got.answer || before) ≡ true → HasQueuedRow program (own_call read ready c got ∷ past)
call_row (Injector args) past read ready c got true runs due old agreed =
    let w = old refl in
    let ends : needs.File c ≡ needs.Ended DONE = ends_next args w.0 past read ready (needs.File c) w.1 w.2 due in absurd (cc)
call_row (Injector args) past read ready c got false runs due old agreed =
    (args, refl, row_queued args (inject_after args past) c got.answer (timely _ _ _ c due) (sym (or-false (is_accepting c got.answer)) ∙ agreed))
call_row other past read ready c got before runs due old agreed = absurd runs

pass_accepts : (due : NeedData) (came : GotData) → IsPass due → is_accepting_by due came ≡ false
pass_accepts (needs.Take port) came pass = refl
pass_accepts (needs.Give port bytes) came pass = refl
pass_accepts (needs.Start asked) came pass = refl
pass_accepts (needs.Command bytes) came pass = refl
pass_accepts (needs.File c) came pass = absurd pass
pass_accepts needs.Wait came pass = absurd pass
pass_accepts (needs.Ended status) came pass = absurd pass

pass_row : (program : Program) (past : List Own) (read : ℕ) (ready : Ready) (due : NeedData) (came : GotData) (before : Bool) → MayRun program → next_of program past read ready ≡ due → IsPass due
    → (before ≡ true → HasQueuedRow program past) → (is_accepting_by due came || before) ≡ true → ⊥
pass_row (Injector args) past read ready due came before runs next pass old agreed =
    let w = old (ap (λ c. c || before) (sym (pass_accepts due came pass)) ∙ agreed) in
    subst IsPass (ends_next args w.0 past read ready due w.1 w.2 next) pass
pass_row other past read ready due came before runs next pass old agreed = runs

abbrev RowsOn : State → List ℕ → Own → Type 0
RowsOn s b own = (x : Actor) → s.actors b ≡ Some x → (before : Bool) → (before ≡ true → HasQueuedRow x.program x.past) → (is_accepting_by own.due own.came || before) ≡ true
    → HasQueuedRow x.program (own ∷ x.past)

start_row : (actors : List ℕ → Option Actor) (b : List ℕ) (x : Actor) (a : List ℕ) → actors b ≡ None → HasRow (actors a) → HasRow (put_at actors b (Some x) a)
start_row actors b x a new row = ⊎_elim
    (λ w. absurd (subst HasRow (ap actors w.0 ∙ new) row))
    (λ w. subst HasRow (sym w.1) row)
    (put_at_cases actors b (Some x) a)

finish_row : (s : State) (b : List ℕ) (life : Life) (o : Option Actor) (a : List ℕ) → s.actors b ≡ o → HasRow (s.actors a) → HasRow ((finished s b life o).actors a)
finish_row s b life None a is row = row
finish_row s b life (Some x) a is row = ⊎_elim
    (λ w. subst HasRow (sym w.1) (subst HasRow (ap s.actors w.0 ∙ is) row))
    (λ w. subst HasRow (sym w.1) row)
    (put_at_cases s.actors b (Some (record { program = x.program; past = x.past; life = life })) a)

stopped_row : (o : Option Actor) → HasRow o → HasRow (option_map stopped o)
stopped_row None row = row
stopped_row (Some x) row = row

act_row : (s : State) (b : List ℕ) (own : Own) (wrote : ℕ) (x : Actor) (t before : Bool) (a : List ℕ) → s.actors b ≡ Some x
    → ((before : Bool) → (before ≡ true → HasQueuedRow x.program x.past) → (t || before) ≡ true → HasQueuedRow x.program (own ∷ x.past))
    → (before ≡ true → HasRow (s.actors a)) → ((bytes_eq b a && t) || before) ≡ true → HasRow ((acted s b own wrote (Some x)).actors a)
act_row s b own wrote x t before a is on old agreed =
    let now : Actor = record { program = x.program; past = own ∷ x.past; life = x.life } in
    ⊎_elim
    (λ w. subst HasRow (sym (ap (put_at s.actors b (Some now)) (sym w.0) ∙ put_at_same s.actors b (Some now)))
    (on before (λ e. subst HasRow (ap s.actors (sym w.0) ∙ is) (old e)) (ap (λ c. (c && t) || before) (sym w.1) ∙ agreed)))
    (λ w. subst HasRow (sym (put_at_other s.actors b (Some now) a (λ e. w.0 (sym e)))) (old (ap (λ c. (c && t) || before) (sym w.1) ∙ agreed)))
    (text_cases b a)

row_told : (d : Disk) (events : List Kept) (h : List Event) → AreLone d h → AllZip Tells events h → (a : List ℕ) → is_accepted a h ≡ true → HasRow ((after d h).actors a)
row_told d [] [] legal told a agreed = absurd cc
row_told d [] (e ∷ h) legal told a agreed = absurd told
row_told d (k ∷ events) [] legal told a agreed = absurd told
row_told d (k ∷ events) ((Start b program) ∷ h) legal told a agreed = start_row (after d h).actors b _ a legal.1.new (row_told d events h legal.0 told.1 a agreed)
row_told d (k ∷ events) ((Act b own wrote) ∷ h) legal told a agreed =
    let s = after d h in
    let reads = may_read s b wrote own legal.1 in
    let on : RowsOn s b own =
    by_act s b wrote (RowsOn s b)
    (λ read ready c got may x is before old agreed.
    let same : may.actor ≡ x = (let both : ◌≡◌ {A = Option Actor} (Some may.actor) (Some x) = sym may.reads.is ∙ is in cc) in
    call_row x.program x.past read ready c got before (runs_always d h legal.0 b x is) (subst (λ (x : Actor). next_of x.program x.past read ready ≡ needs.File c) same may.due) old agreed)
    (λ y read ready due came reads next pass x is before old agreed.
    let same : y ≡ x = (let both : ◌≡◌ {A = Option Actor} (Some y) (Some x) = sym reads.is ∙ is in cc) in
    absurd (pass_row x.program x.past read ready due came before (runs_always d h legal.0 b x is) (subst (λ (x : Actor). next_of x.program x.past read ready ≡ due) same next) pass old agreed))
    own legal.1 in
    subst (λ (o : Option Actor). HasRow ((acted s b own wrote o).actors a)) (sym reads.1.is)
    (act_row s b own wrote reads.0 (is_accepting_by own.due own.came) (is_accepted a h) a reads.1.is (on reads.0 reads.1.is) (row_told d events h legal.0 told.1 a) agreed)
row_told d (k ∷ events) ((Child parent own b program) ∷ h) legal told a agreed = absurd (bears_none d h parent own b program legal)
row_told d (k ∷ events) ((Generation crew) ∷ h) legal told a agreed = absurd legal.1
row_told d (k ∷ events) ((Report slot output) ∷ h) legal told a agreed = row_told d events h legal.0 told.1 a agreed
row_told d (k ∷ events) ((End b read ready status) ∷ h) legal told a agreed =
    finish_row (after d h) b (Over status) ((after d h).actors b) a refl (row_told d events h legal.0 told.1 a agreed)
row_told d (k ∷ events) ((Stop b) ∷ h) legal told a agreed = finish_row (after d h) b Stopped ((after d h).actors b) a refl (row_told d events h legal.0 told.1 a agreed)
row_told d (k ∷ events) ((Moment m) ∷ h) legal told a agreed = row_told d events h legal.0 told.1 a agreed
row_told d (k ∷ events) ((Halt how contents) ∷ h) legal told a agreed = stopped_row ((after d h).actors a) (row_told d events h legal.0 told.1 a agreed)

-- of an actor that has queued its message
row_booked : (s : State) (a : List ℕ) (o : Option Actor) → ((x : Actor) → s.actors a ≡ Some x → IsBooked s.books a x.program x.past) → s.actors a ≡ o → HasRow o
    → (args : Arguments) × HasQueued s.books a args
row_booked s a None queued is row = absurd row
row_booked s a (Some x) queued is row =
    let booked = subst (λ (program : Program). IsBooked s.books a program x.past) row.1 (queued x is) in
    (row.0, booked row.2)

booked_row : (d : Disk) (events : List Kept) (h : List Event) → AreLone d h → AllZip Tells events h → (a : List ℕ) → (args : Arguments) × HasQueued (after d h).books a args → is_accepted a h ≡ true
booked_row d events h legal told a w =
    let q = w.1.0 in
    let is : IsIn (after d h).books q = ⊎_elim (λ l. inl (q.number, l)) (λ o. inr o) w.1.1 in
    sym (ap (λ a. is_accepted a h) w.1.2) ∙ linked_told d events h legal told q is w.1.4

pub accepted_booked : AcceptedAreBooked
accepted_booked d events h legal none told =
    let lone = covered d h legal none in (
      λ a. (
        λ agreed. row_booked (after d h) a ((after d h).actors a) (books_always d h lone a) refl (row_told d (with_inputs (reverse events)) h lone told a agreed),
        λ w. booked_row d (with_inputs (reverse events)) h lone told a w,
      ),
      λ q is. injections_told d (with_inputs (reverse events)) h lone told q (⊎_elim (λ l. inl (q.number, l)) (λ o. inr o) is),
    )
