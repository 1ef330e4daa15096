-- The books of a world are those of each legal history that its events tell.
use Rattle.std.proofs.Common.{◌≡◌, ◌⊎◌, inr, ℕ, List, [], ◌∷◌, ◌++◌, length, map, reverse, Bool, true, false, ◌&&◌, ◌||◌, is_some, Option, Some, None, refl, sym, ap, ◌∙◌, subst, ⊎_elim, bytes_eq, append-nil}
use Rattle.std.specs.Prelude.{if◌then◌else◌, IsSome}
use Rattle.std.specs.List.{AllZip}
use Rattle.std.specs.Option.{option_map}
use Rattle.std.proofs.lemmas.List.{map-append}
use Rattle.call_fs.specs.declared.calls.CallData.{CallData}
use Rattle.call_fs.specs.declared.calls.CallData.TheVariants.{Link}
use Rattle.call_fs.specs.declared.calls.Answer.{Answer}
use Rattle.call_fs.specs.declared.calls.Answer.TheVariants.{Created, Opened, Count, Done, Stat as Stated, Name as Named, NoName, Refused}
use Rattle.call_fs.specs.declared.calls.Told.{Told}
use Rattle.call_fs.specs.declared.program.Ready.{Ready}
use Rattle.call_fs.specs.Disk.{Disk}
use Rattle.call_fs.specs.Maps.{put_at}
use Rattle.call_fs.specs.declared.past.NeedData.{NeedData}
use Rattle.call_fs.specs.declared.past.NeedData.TheVariants as needs
use Rattle.call_fs.specs.declared.past.GotData.{GotData}
use Rattle.call_fs.specs.declared.past.Own.{Own}
use Rattle.queue_inject.specs.declared.injection.Arguments.{Arguments}
use Rattle.queue_inject.specs.declared.row.Row.{Row}
use Rattle.queue_inject.specs.declared.row.Row.TheVariants as at
use Rattle.queue_inject.specs.Table.{due_by as inject_due, in_time}
use Rattle.queue_inject.specs.Texts.{recipients_of}
use Rattle.queue_paths.specs.Names.{path, parse}
use Rattle.queue_paths.specs.Names.Name.{Pid, Of}
use Rattle.queue_paths.specs.Names.Part.{Mess, Intd, Todo}
use Rattle.queue_paths.proofs.Paths.{exact}
use Rattle.call_fs.proofs.Maps.{put_at_cases, put_at_same, put_at_other}
use Rattle.world_events.specs.declared.event.Event.{Event as Kept}
use Rattle.world_events.specs.declared.event.Event.TheVariants as kept
use Rattle.world_events.specs.declared.event.Program.{Program}
use Rattle.world_events.specs.declared.event.Program.TheVariants.{Injector}
use Rattle.world_events.specs.declared.books.Entry.{Entry}
use Rattle.world_events.specs.declared.books.Life.{Life as ToldLife}
use Rattle.world_events.specs.declared.books.Life.TheVariants as left
use Rattle.mail_world.specs.History.{Event, Actor, Life, State, MayRun, MayBegin, newborn, next_of, stopped, cut_off as ends_as, acted, finished, happens, after, Legal, with_crew}
use Rattle.mail_world.specs.History.Event.{Start, Act, Child, Generation, Report, End, Stop, Moment, Halt}
use Rattle.mail_world.specs.History.Life.{Alive, Over, Stopped}
use Rattle.mail_world.specs.Pipework.{is_member}
use Rattle.mail_world.specs.World.{Tells, with_inputs}
use Rattle.mail_world.specs.ByKind.{injection_of}
use Rattle.mail_world.specs.Books.{entry_by, entered_by, queues, queues_by, number_by, newer, acted_on, cut_off, noted, books_of, is_to_todo, is_accepting, is_accepting_by, is_accepted, number_of, mail_by, mails_of, told_life, life_in, entry_in, books_in, BooksAreTheModels}
use Rattle.mail_world.proofs.Members.{whether, member_contained, if_its, crew_other}
use Rattle.mail_world.proofs.Owns.{MayCall, IsPass, by_act, may_read}
use Rattle.mail_world.proofs.Tests.{text_cases, same_text, other_text}
use Rattle.actor_names.specs.MailNames.{members}

-- Which calls accept a mail: an injector's link to todo is one of its intd.

abbrev Agrees : CallData → Type 0
Agrees call = (answer : Answer) → is_accepting call answer ≡ queues call answer

link_agrees : (old new : List ℕ) → is_to_todo old (parse new) ≡ queues (Link old new) Done → Agrees (Link old new)
link_agrees old new h Done = h
link_agrees old new h (Created fd n) = refl
link_agrees old new h (Opened fd) = refl
link_agrees old new h (Count n) = refl
link_agrees old new h (Stated stat) = refl
link_agrees old new h (Named name) = refl
link_agrees old new h NoName = refl
link_agrees old new h (Refused why) = refl

to_mess : (old : List ℕ) (n : ℕ) → is_to_todo old (parse (path (Of Mess n))) ≡ queues (Link old (path (Of Mess n))) Done
unfolding path
to_mess old n = ap (is_to_todo old) (exact.parse_path (Of Mess n))

begins_todo : (n : ℕ) → queues (Link (path (Of Intd n)) (path (Of Todo n))) Done ≡ true
unfolding path
begins_todo n = refl

to_todo : (n : ℕ) → is_to_todo (path (Of Intd n)) (parse (path (Of Todo n))) ≡ queues (Link (path (Of Intd n)) (path (Of Todo n))) Done
to_todo n = ap (is_to_todo (path (Of Intd n))) (exact.parse_path (Of Todo n)) ∙ same_text (path (Of Intd n)) ∙ sym (begins_todo n)

due_agrees : (own call : CallData) → ◌≡◌ {A = NeedData} (needs.File own) (needs.File call) → Agrees own → Agrees call
due_agrees own call due h = let same : own ≡ call = cc in subst Agrees same h

row_agrees : (args : Arguments) (row : Row) (call : CallData) → inject_due args row ≡ needs.File call → Agrees call
row_agrees args (at.Create seq) call due = due_agrees _ call due (λ answer. refl)
row_agrees args (at.LinkMess seq n fd) call due = due_agrees _ call due (link_agrees (path (Pid args.pid args.start seq)) (path (Of Mess n)) (to_mess (path (Pid args.pid args.start seq)) n))
row_agrees args (at.UnlinkPid seq n fd) call due = due_agrees _ call due (λ answer. refl)
row_agrees args (at.AppendMess n fd done) call due = due_agrees _ call due (λ answer. refl)
row_agrees args (at.SyncMess n fd) call due = due_agrees _ call due (λ answer. refl)
row_agrees args (at.CreateIntd n) call due = due_agrees _ call due (λ answer. refl)
row_agrees args (at.AppendTodo n fd done) call due = due_agrees _ call due (λ answer. refl)
row_agrees args (at.SyncTodo n fd) call due = due_agrees _ call due (λ answer. refl)
row_agrees args (at.LinkTodo n) call due = due_agrees _ call due (link_agrees (path (Of Intd n)) (path (Of Todo n)) (to_todo n))
row_agrees args (at.CleanIntd n cause) call due = due_agrees _ call due (λ answer. refl)
row_agrees args (at.CleanMess n cause) call due = due_agrees _ call due (λ answer. refl)
row_agrees args at.Queued call due = absurd (cc)
row_agrees args (at.Failed cause) call due = absurd (cc)

timely : (input late : Bool) (due : NeedData) (call : CallData) → in_time input late due ≡ needs.File call → due ≡ needs.File call
timely true true (needs.File own) call h = absurd (cc)
timely true false (needs.File own) call h = h
timely false late (needs.File own) call h = absurd (cc)
timely input late due call h = absurd (cc)

next_agrees : (program : Program) (past : List Own) (read : ℕ) (ready : Ready) (call : CallData) → MayRun program → next_of program past read ready ≡ needs.File call → Agrees call
next_agrees (Injector args) past read ready call runs due = row_agrees args _ call (timely _ _ _ call due)
next_agrees other past read ready call runs due = absurd runs

call_agrees : (s : State) (a : List ℕ) (read : ℕ) (ready : Ready) (call : CallData) (got : Told) (wrote : ℕ)
    → ((x : Actor) → s.actors a ≡ Some x → MayRun x.program) → MayCall s a read ready call got wrote → is_accepting call got.answer ≡ queues call got.answer
call_agrees s a read ready call got wrote runs may =
    next_agrees may.actor.program may.actor.past read ready call (runs may.actor may.reads.is) may.due got.answer

-- and what passes between programs accepts none
pass_agrees : (due : NeedData) (came : GotData) → IsPass due → is_accepting_by due came ≡ queues_by due came
pass_agrees (needs.Take port) came pass = refl
pass_agrees (needs.Give port bytes) came pass = refl
pass_agrees (needs.Start asked) came pass = refl
pass_agrees (needs.Command bytes) came pass = refl
pass_agrees (needs.File call) came pass = absurd pass
pass_agrees needs.Wait came pass = refl
pass_agrees (needs.Ended status) came pass = refl

-- Who was started is there.

some_put : (actors : List ℕ → Option Actor) (b : List ℕ) (x : Actor) (a : List ℕ) → (b ≡ a) ⊎ IsSome (actors a) → IsSome (put_at actors b (Some x) a)
some_put actors b x a h = ⊎_elim
    (λ w. ap is_some w.1)
    (λ w. ap is_some w.1 ∙ ⊎_elim (λ e. absurd (w.0 (sym e))) (λ s. s) h)
    (put_at_cases actors b (Some x) a)

some_acted : (s : State) (b : List ℕ) (own : Own) (wrote : ℕ) (o : Option Actor) (a : List ℕ) → IsSome (s.actors a) → IsSome ((acted s b own wrote o).actors a)
some_acted s b own wrote None a h = h
some_acted s b own wrote (Some x) a h = some_put s.actors b _ a (inr h)

some_finished : (s : State) (b : List ℕ) (life : Life) (o : Option Actor) (a : List ℕ) → IsSome (s.actors a) → IsSome ((finished s b life o).actors a)
some_finished s b life None a h = h
some_finished s b life (Some x) a h = some_put s.actors b _ a (inr h)

some_stopped : (o : Option Actor) → IsSome o → IsSome (option_map stopped o)
some_stopped None h = h
some_stopped (Some x) h = refl

-- after the start of a generation
some_crew : (names : List (List ℕ)) (crew : List Program) (actors : List ℕ → Option Actor) (a : List ℕ) → IsSome (actors a) → IsSome (with_crew names crew actors a)
some_crew (b ∷ names) (program ∷ crew) actors a there = some_crew names crew (put_at actors b (Some (newborn program))) a (some_put actors b (newborn program) a (inr there))
some_crew names crew actors a there = there

-- an actor that is there, and was started alone
abbrev pub RunsAlone : Option Actor → Type 0
RunsAlone None = ⊥
RunsAlone (Some x) = MayRun x.program

pub alone_is : (o : Option Actor) → RunsAlone o → IsSome o
alone_is None alone = absurd alone
alone_is (Some x) alone = refl

alone_runs : (o : Option Actor) (x : Actor) → o ≡ Some x → RunsAlone o → MayRun x.program
alone_runs o x is alone = subst RunsAlone is alone

alone_put : (actors : List ℕ → Option Actor) (b : List ℕ) (x : Actor) (a : List ℕ) → (b ≡ a → MayRun x.program) → RunsAlone (actors a) → RunsAlone (put_at actors b (Some x) a)
alone_put actors b x a mine alone = ⊎_elim
    (λ w. subst RunsAlone (sym w.1) (mine (sym w.0)))
    (λ w. subst RunsAlone (sym w.1) alone)
    (put_at_cases actors b (Some x) a)

alone_acted : (s : State) (b : List ℕ) (own : Own) (wrote : ℕ) (o : Option Actor) (a : List ℕ) → s.actors b ≡ o → RunsAlone (s.actors a) → RunsAlone ((acted s b own wrote o).actors a)
alone_acted s b own wrote None a is alone = alone
alone_acted s b own wrote (Some x) a is alone =
    alone_put s.actors b (record { program = x.program; past = own ∷ x.past; life = x.life }) a (λ same. alone_runs (s.actors a) x (ap s.actors (sym same) ∙ is) alone) alone

alone_finished : (s : State) (b : List ℕ) (life : Life) (o : Option Actor) (a : List ℕ) → s.actors b ≡ o → RunsAlone (s.actors a) → RunsAlone ((finished s b life o).actors a)
alone_finished s b life None a is alone = alone
alone_finished s b life (Some x) a is alone =
    alone_put s.actors b (record { program = x.program; past = x.past; life = life }) a (λ same. alone_runs (s.actors a) x (ap s.actors (sym same) ∙ is) alone) alone

alone_stopped : (o : Option Actor) → RunsAlone o → RunsAlone (option_map stopped o)
alone_stopped None alone = alone
alone_stopped (Some x) alone = alone

-- so it is no member of a generation that may start
alone_other : (s : State) (crew : List Program) (a : List ℕ) (o : Option Actor) → s.actors a ≡ o → MayBegin s crew → RunsAlone o → is_member a ≡ false
alone_other s crew a None is may alone = absurd alone
alone_other s crew a (Some x) is may alone = ⊎_elim
    (λ member. absurd (may.apart a x (member_contained a member) is alone))
    (λ other. other)
    (whether (is_member a))

alone_crew : (s : State) (crew : List Program) (a : List ℕ) → MayBegin s crew → RunsAlone (s.actors a) → with_crew members crew s.actors a ≡ s.actors a
alone_crew s crew a may alone = crew_other s.actors crew a (alone_other s crew a (s.actors a) refl may alone)

-- the actor of a mail is there, and was started alone
abbrev pub IsThere : State → List ℕ × Arguments → Type 0
IsThere s mail = RunsAlone (s.actors mail.0)

-- those of some mails are
abbrev pub AreThere : State → List (List ℕ × Arguments) → Type 0
AreThere s [] = Unit {0}
AreThere s (mail ∷ mails) = IsThere s mail × AreThere s mails

both_there : (s : State) (first second : List (List ℕ × Arguments)) → AreThere s first → AreThere s second → AreThere s (first ++ second)
both_there s [] second h g = g
both_there s (mail ∷ mails) second h g = (h.0, both_there s mails second h.1 g)

all_there : (s t : State) (mails : List (List ℕ × Arguments)) → ((a : List ℕ) → RunsAlone (s.actors a) → RunsAlone (t.actors a)) → AreThere s mails → AreThere t mails
all_there s t [] keeps h = tt
all_there s t (mail ∷ mails) keeps h = (keeps mail.0 h.0, all_there s t mails keeps h.1)

new_there : (t : State) (a : List ℕ) (o : Option Arguments) → RunsAlone (t.actors a) → AreThere t (mail_by a o)
new_there t a None h = tt
new_there t a (Some args) h = (h, tt)

-- a child is a mail only if it is an injector
bred_there : (t : State) (a : List ℕ) (program : Program) → t.actors a ≡ Some (newborn program) → AreThere t (mail_by a (injection_of program))
bred_there t a (Injector args) is = new_there t a (Some args) (subst RunsAlone (sym is) tt)
bred_there t a other is = tt

-- a new name is none of theirs
none_alone : (o : Option Actor) → o ≡ None → RunsAlone o → ⊥
none_alone o none alone = subst RunsAlone none alone

pub mails_there : (d : Disk) (events : List Kept) (h : List Event) → Legal d h → AllZip Tells events h → AreThere (after d h) (mails_of h)
mails_there d [] [] legal told = tt
mails_there d [] (e ∷ h) legal told = absurd told
mails_there d (k ∷ events) [] legal told = absurd told
mails_there d (k ∷ events) ((Start b program) ∷ h) legal told =
    let s = after d h in
    let t = happens s (Start b program) in
    both_there t (mails_of h) (mail_by b (injection_of program))
    (all_there s t (mails_of h) (λ a there. alone_put s.actors b (newborn program) a (λ same. legal.1.runs) there) (mails_there d events h legal.0 told.1))
    (new_there t b (injection_of program) (subst RunsAlone (sym (put_at_same s.actors b (Some (newborn program)))) legal.1.runs))
mails_there d (k ∷ events) ((Act b own wrote) ∷ h) legal told =
    let s = after d h in
    all_there s (happens s (Act b own wrote)) (mails_of h) (λ a there. alone_acted s b own wrote (s.actors b) a refl there) (mails_there d events h legal.0 told.1)
mails_there d (k ∷ events) ((Child parent own b program) ∷ h) legal told =
    let s = after d h in
    let u = acted s parent own 0 (s.actors parent) in
    let t = happens s (Child parent own b program) in
    both_there t (mails_of h) (mail_by b (injection_of program))
    (all_there s t (mails_of h) (λ a there. alone_put u.actors b (newborn program) a
    (λ same. absurd (none_alone (s.actors b) legal.1.new (subst (λ (c : List ℕ). RunsAlone (s.actors c)) (sym same) there)))
    (alone_acted s parent own 0 (s.actors parent) a refl there)) (mails_there d events h legal.0 told.1))
    (bred_there t b program (put_at_same u.actors b (Some (newborn program))))
mails_there d (k ∷ events) ((Generation crew) ∷ h) legal told =
    let s = after d h in
    all_there s (happens s (Generation crew)) (mails_of h)
    (λ a there. subst RunsAlone (sym (alone_crew s crew a legal.1 there)) there) (mails_there d events h legal.0 told.1)
mails_there d (k ∷ events) ((Report slot output) ∷ h) legal told =
    all_there (after d h) (happens (after d h) (Report slot output)) (mails_of h) (λ a there. there) (mails_there d events h legal.0 told.1)
mails_there d (k ∷ events) ((End b read ready status) ∷ h) legal told =
    let s = after d h in
    all_there s (happens s (End b read ready status)) (mails_of h) (λ a there. alone_finished s b (Over status) (s.actors b) a refl there) (mails_there d events h legal.0 told.1)
mails_there d (k ∷ events) ((Stop b) ∷ h) legal told =
    let s = after d h in
    all_there s (happens s (Stop b)) (mails_of h) (λ a there. alone_finished s b Stopped (s.actors b) a refl there) (mails_there d events h legal.0 told.1)
mails_there d (k ∷ events) ((Moment m) ∷ h) legal told = all_there (after d h) (happens (after d h) (Moment m)) (mails_of h) (λ a there. there) (mails_there d events h legal.0 told.1)
mails_there d (k ∷ events) ((Halt how contents) ∷ h) legal told =
    let s = after d h in
    all_there s (happens s (Halt how contents)) (mails_of h) (λ a there. alone_stopped (s.actors a) there) (mails_there d events h legal.0 told.1)

-- Who isn't there has linked nothing.

none_before : (o p : Option Actor) → (IsSome o → IsSome p) → p ≡ None → o ≡ None
none_before None p keeps none = refl
none_before (Some x) p keeps none = let some : is_some p ≡ true = keeps refl in let both : false ≡ true = sym (ap is_some none) ∙ some in absurd (cc)

quiet : (d : Disk) (events : List Kept) (h : List Event) → Legal d h → AllZip Tells events h → (a : List ℕ) → (after d h).actors a ≡ None
    → (false ≡ is_accepted a h) × ◌≡◌ {A = Option ℕ} None (number_of a h)
quiet d [] [] legal told a none = (refl, refl)
quiet d [] (e ∷ h) legal told a none = absurd told
quiet d (k ∷ events) [] legal told a none = absurd told
quiet d (k ∷ events) ((Start b program) ∷ h) legal told a none =
    let s = after d h in
    quiet d events h legal.0 told.1 a (none_before (s.actors a) ((happens s (Start b program)).actors a) (λ there. some_put s.actors b _ a (inr there)) none)
quiet d (k ∷ events) ((Act b own wrote) ∷ h) legal told a none =
    let s = after d h in
    let reads = may_read s b wrote own legal.1 in
    let nobody = none_before (s.actors a) ((happens s (Act b own wrote)).actors a) (λ there. some_acted s b own wrote (s.actors b) a there) none in
    let before = quiet d events h legal.0 told.1 a nobody in
    let apart : bytes_eq b a ≡ false =
    other_text b a (λ same. let both : ◌≡◌ {A = Option Actor} None (Some reads.0) = sym nobody ∙ ap s.actors (sym same) ∙ reads.1.is in absurd (cc)) in (
      before.0 ∙ ap (λ c. (c && is_accepting_by own.due own.came) || is_accepted a h) (sym apart),
      before.1 ∙ ap (λ c. newer (if c then number_by own.due own.came else None) (number_of a h)) (sym apart),
    )
quiet d (k ∷ events) ((Child parent own b program) ∷ h) legal told a none =
    let s = after d h in
    let u = acted s parent own 0 (s.actors parent) in
    quiet d events h legal.0 told.1 a
    (none_before (s.actors a) ((happens s (Child parent own b program)).actors a) (λ there. some_put u.actors b _ a (inr (some_acted s parent own 0 (s.actors parent) a there))) none)
quiet d (k ∷ events) ((Generation crew) ∷ h) legal told a none =
    let s = after d h in
    quiet d events h legal.0 told.1 a
    (none_before (s.actors a) ((happens s (Generation crew)).actors a) (λ there. some_crew members crew s.actors a there) none)
quiet d (k ∷ events) ((Report slot output) ∷ h) legal told a none = quiet d events h legal.0 told.1 a none
quiet d (k ∷ events) ((End b read ready status) ∷ h) legal told a none =
    let s = after d h in
    quiet d events h legal.0 told.1 a
    (none_before (s.actors a) ((happens s (End b read ready status)).actors a) (λ there. some_finished s b (Over status) (s.actors b) a there) none)
quiet d (k ∷ events) ((Stop b) ∷ h) legal told a none =
    let s = after d h in
    quiet d events h legal.0 told.1 a (none_before (s.actors a) ((happens s (Stop b)).actors a) (λ there. some_finished s b Stopped (s.actors b) a there) none)
quiet d (k ∷ events) ((Moment m) ∷ h) legal told a none = quiet d events h legal.0 told.1 a none
quiet d (k ∷ events) ((Halt how contents) ∷ h) legal told a none =
    let s = after d h in
    quiet d events h legal.0 told.1 a (none_before (s.actors a) ((happens s (Halt how contents)).actors a) (λ there. some_stopped (s.actors a) there) none)

-- The entry of a mail, by its number, by whether it was accepted and by its actor's life.

abbrev made : List ℕ × Arguments → Option ℕ → Bool → ToldLife → Entry
made mail n t life = record { actor = mail.0; pid = mail.1.pid; number = n; recipients = length (recipients_of mail.1); accepted = t; life = life }

act_or : (mail : List ℕ × Arguments) (n : Option ℕ) (t before : Bool) (life : ToldLife) (due : NeedData) (came : GotData)
    → (if t then acted_on due came (made mail n before life) else made mail n before life)
    ≡ made mail (newer (if t then number_by due came else None) n) ((t && queues_by due came) || before) life
act_or mail n true before life due came = refl
act_or mail n false before life due came = refl

left_or : (mail : List ℕ × Arguments) (n : Option ℕ) (t before : Bool) (life last : ToldLife)
    → (if t then made mail n before last else made mail n before life) ≡ made mail n before (if t then last else life)
left_or mail n true before life last = refl
left_or mail n false before life last = refl

-- the life of an actor after each event

start_life : (actors : List ℕ → Option Actor) (b : List ℕ) (x : Actor) (a : List ℕ) → actors b ≡ None → IsSome (actors a) → life_in (actors a) ≡ life_in (put_at actors b (Some x) a)
start_life actors b x a new there = ⊎_elim
    (λ w. let both : false ≡ true = sym (ap is_some (ap actors w.0 ∙ new)) ∙ there in absurd (cc))
    (λ w. ap life_in (sym w.1))
    (put_at_cases actors b (Some x) a)

act_life : (s : State) (b : List ℕ) (own : Own) (wrote : ℕ) (o : Option Actor) (a : List ℕ) → s.actors b ≡ o → life_in (s.actors a) ≡ life_in ((acted s b own wrote o).actors a)
act_life s b own wrote None a is = refl
act_life s b own wrote (Some x) a is = ⊎_elim
    (λ w. ap life_in (ap s.actors w.0 ∙ is) ∙ ap life_in (sym w.1))
    (λ w. ap life_in (sym w.1))
    (put_at_cases s.actors b (Some (record { program = x.program; past = own ∷ x.past; life = x.life })) a)

-- who isn't there isn't after the event of another one
acted_new : (s : State) (b : List ℕ) (own : Own) (wrote : ℕ) (o : Option Actor) (a : List ℕ) → s.actors b ≡ o → s.actors a ≡ None → (acted s b own wrote o).actors a ≡ None
acted_new s b own wrote None a is none = none
acted_new s b own wrote (Some x) a is none = ⊎_elim
    (λ w. let both : ◌≡◌ {A = Option Actor} None (Some x) = sym none ∙ ap s.actors w.0 ∙ is in absurd (cc))
    (λ w. w.1 ∙ none)
    (put_at_cases s.actors b (Some (record { program = x.program; past = own ∷ x.past; life = x.life })) a)

over_life : (s : State) (b : List ℕ) (life : Life) (o : Option Actor) (a : List ℕ) → IsSome o
    → (if bytes_eq b a then told_life life else life_in (s.actors a)) ≡ life_in ((finished s b life o).actors a)
over_life s b life None a there = absurd cc
over_life s b life (Some x) a there =
    let last : Actor = record { program = x.program; past = x.past; life = life } in
    ⊎_elim
    (λ w. ap (λ c. if c then told_life life else life_in (s.actors a)) w.1
    ∙ sym (ap life_in (ap (put_at s.actors b (Some last)) (sym w.0) ∙ put_at_same s.actors b (Some last))))
    (λ w. ap (λ c. if c then told_life life else life_in (s.actors a)) w.1
    ∙ sym (ap life_in (put_at_other s.actors b (Some last) a (λ e. w.0 (sym e)))))
    (text_cases b a)

halt_life : (o : Option Actor) → IsSome o → cut_off (life_in o) ≡ life_in (option_map stopped o)
halt_life None there = absurd cc
halt_life (Some x) there = by_life x.life where
  by_life : (life : Life) → cut_off (told_life life) ≡ told_life (ends_as life)
  by_life Alive = refl
  by_life (Over status) = refl
  by_life Stopped = refl

-- one event more

turned : (f : Entry → Entry) (g u : List ℕ × Arguments → Entry) (s : State) (mails : List (List ℕ × Arguments)) → AreThere s mails
    → ((mail : List ℕ × Arguments) → IsThere s mail → f (g mail) ≡ u mail) → map f (map g mails) ≡ map u mails
turned f g u s [] there each = refl
turned f g u s (mail ∷ mails) there each =
    ap (λ e. e ∷ map f (map g mails)) (each mail there.0) ∙ ap (λ l. u mail ∷ l) (turned f g u s mails there.1 each)

-- the entries after an event that begins none
more_books : (k own : Kept) (books : List Entry) (g u : List ℕ × Arguments → Entry) (s : State) (mails : List (List ℕ × Arguments)) → k ≡ own → entered_by own ≡ []
    → books ≡ map g mails → AreThere s mails → ((mail : List ℕ × Arguments) → IsThere s mail → noted own (g mail) ≡ u mail)
    → map (noted k) books ++ entered_by k ≡ map u mails
more_books k own books g u s mails is none before there each =
    ap (λ (k : Kept). map (noted k) books ++ entered_by k) is
    ∙ ap (λ (l : List Entry). map (noted own) books ++ l) none ∙ append-nil (map (noted own) books)
    ∙ ap (map (noted own)) before ∙ turned (noted own) g u s mails there each

-- the entry of the mail that started
begun_entry : (t : State) (h : List Event) (a : List ℕ) (o : Option Arguments) → (false ≡ is_accepted a h) × ◌≡◌ {A = Option ℕ} None (number_of a h) → left.Alive ≡ life_in (t.actors a)
    → entry_by a o ≡ map (entry_in t h) (mail_by a o)
begun_entry t h a None quiet_so alive = refl
begun_entry t h a (Some args) quiet_so alive =
    ap (λ (e : Entry). e ∷ [])
    (ap (λ n. made (a, args) n false left.Alive) quiet_so.1 ∙ ap (λ c. made (a, args) (number_of a h) c left.Alive) quiet_so.0
    ∙ ap (λ life. made (a, args) (number_of a h) (is_accepted a h) life) alive)

start_books : (k own : Kept) (b : List ℕ) (program : Program) (books : List Entry) (s t : State) (h now : List Event) → k ≡ own → entered_by own ≡ entry_by b (injection_of program)
    → ((mail : List ℕ × Arguments) → IsThere s mail → noted own (entry_in s h mail) ≡ entry_in t now mail)
    → (false ≡ is_accepted b now) × ◌≡◌ {A = Option ℕ} None (number_of b now) → left.Alive ≡ life_in (t.actors b)
    → books ≡ map (entry_in s h) (mails_of h) → AreThere s (mails_of h)
    → map (noted k) books ++ entered_by k ≡ map (entry_in t now) (mails_of h ++ mail_by b (injection_of program))
start_books k own b program books s t h now is enters still accepts alive before there =
    let u = entry_in t now in
    let old : map (noted own) books ≡ map u (mails_of h) = ap (map (noted own)) before ∙ turned (noted own) (entry_in s h) u s (mails_of h) there still in
    ap (λ (k : Kept). map (noted k) books ++ entered_by k) is
    ∙ ap (λ (l : List Entry). map (noted own) books ++ l) enters
    ∙ ap (λ (l : List Entry). l ++ entry_by b (injection_of program)) old
    ∙ ap (λ (l : List Entry). map u (mails_of h) ++ l) (begun_entry t now b (injection_of program) accepts alive)
    ∙ sym (map-append u (mails_of h) (mail_by b (injection_of program)))

told_so : (d : Disk) (events : List Kept) (h : List Event) → Legal d h → AllZip Tells events h → books_of events ≡ books_in d h
told_so d [] [] legal told = refl
told_so d [] (e ∷ h) legal told = absurd told
told_so d (k ∷ events) [] legal told = absurd told
told_so d (k ∷ events) ((Start b program) ∷ h) legal told =
    let s = after d h in
    start_books k (kept.Start b program) b program (books_of events) s (happens s (Start b program)) h (Start b program ∷ h) told.0 refl
    (λ mail there. ap (λ life. made mail (number_of mail.0 h) (is_accepted mail.0 h) life) (start_life s.actors b _ mail.0 legal.1.new (alone_is (s.actors mail.0) there)))
    (quiet d events h legal.0 told.1 b legal.1.new) (ap life_in (sym (put_at_same s.actors b _)))
    (told_so d events h legal.0 told.1) (mails_there d events h legal.0 told.1)
told_so d (k ∷ events) ((Act b own wrote) ∷ h) legal told =
    let s = after d h in
    let agrees : RunsAlone (s.actors b) → is_accepting_by own.due own.came ≡ queues_by own.due own.came =
    λ alone. by_act s b wrote (λ own. is_accepting_by own.due own.came ≡ queues_by own.due own.came)
    (λ read ready call got may. call_agrees s b read ready call got wrote (λ x is. alone_runs (s.actors b) x is alone) may)
    (λ x read ready due came reads next pass. pass_agrees due came pass) own legal.1 in
    more_books k (kept.Act b own) (books_of events) (entry_in s h) (entry_in (happens s (Act b own wrote)) (Act b own wrote ∷ h)) s (mails_of h)
    told.0 refl (told_so d events h legal.0 told.1) (mails_there d events h legal.0 told.1)
    (λ mail there.
    let number : Option ℕ = newer (if bytes_eq b mail.0 then number_by own.due own.came else None) (number_of mail.0 h) in
    act_or mail (number_of mail.0 h) (bytes_eq b mail.0) (is_accepted mail.0 h) (life_in (s.actors mail.0)) own.due own.came
    ∙ ap (λ t. made mail number (t || is_accepted mail.0 h) (life_in (s.actors mail.0)))
    (sym (if_its b mail.0 (is_accepting_by own.due own.came) (queues_by own.due own.came) (λ same. agrees (subst (λ a. RunsAlone (s.actors a)) (sym same) there))))
    ∙ ap (λ life. made mail number ((bytes_eq b mail.0 && is_accepting_by own.due own.came) || is_accepted mail.0 h) life) (act_life s b own wrote (s.actors b) mail.0 refl))
told_so d (k ∷ events) ((Child parent own b program) ∷ h) legal told =
    let s = after d h in
    let u = acted s parent own 0 (s.actors parent) in
    start_books k (kept.Child parent own b program) b program (books_of events) s (happens s (Child parent own b program)) h (Child parent own b program ∷ h) told.0 refl
    (λ mail there. ap (λ life. made mail (number_of mail.0 h) (is_accepted mail.0 h) life)
    (act_life s parent own 0 (s.actors parent) mail.0 refl
    ∙ start_life u.actors b _ mail.0 (acted_new s parent own 0 (s.actors parent) b refl legal.1.new) (some_acted s parent own 0 (s.actors parent) mail.0 (alone_is (s.actors mail.0) there))))
    (quiet d events h legal.0 told.1 b legal.1.new) (ap life_in (sym (put_at_same u.actors b _)))
    (told_so d events h legal.0 told.1) (mails_there d events h legal.0 told.1)
told_so d (k ∷ events) ((Generation crew) ∷ h) legal told =
    let s = after d h in
    let e : Event = Generation crew in
    more_books k (kept.Generation told.0.0) (books_of events) (entry_in s h) (entry_in (happens s e) (e ∷ h)) s (mails_of h)
    told.0.1 refl (told_so d events h legal.0 told.1) (mails_there d events h legal.0 told.1)
    (λ mail there. ap (λ life. made mail (number_of mail.0 h) (is_accepted mail.0 h) life) (ap life_in (sym (alone_crew s crew mail.0 legal.1 there))))
told_so d (k ∷ events) ((Report slot output) ∷ h) legal told =
    let s = after d h in
    more_books k (kept.Report slot told.0.0 told.0.1) (books_of events) (entry_in s h) (entry_in (happens s (Report slot output)) (Report slot output ∷ h)) s (mails_of h)
    told.0.2 refl (told_so d events h legal.0 told.1) (mails_there d events h legal.0 told.1) (λ mail there. refl)
told_so d (k ∷ events) ((End b read ready status) ∷ h) legal told =
    let s = after d h in
    more_books k (kept.End b read ready status) (books_of events) (entry_in s h) (entry_in (happens s (End b read ready status)) (End b read ready status ∷ h)) s (mails_of h)
    told.0 refl (told_so d events h legal.0 told.1) (mails_there d events h legal.0 told.1)
    (λ mail there.
    left_or mail (number_of mail.0 h) (bytes_eq b mail.0) (is_accepted mail.0 h) (life_in (s.actors mail.0)) (left.Ended status)
    ∙ ap (λ life. made mail (number_of mail.0 h) (is_accepted mail.0 h) life) (over_life s b (Over status) (s.actors b) mail.0 (ap is_some legal.1.reads.is)))
told_so d (k ∷ events) ((Stop b) ∷ h) legal told =
    let s = after d h in
    more_books k (kept.Stop b) (books_of events) (entry_in s h) (entry_in (happens s (Stop b)) (Stop b ∷ h)) s (mails_of h)
    told.0 refl (told_so d events h legal.0 told.1) (mails_there d events h legal.0 told.1)
    (λ mail there.
    left_or mail (number_of mail.0 h) (bytes_eq b mail.0) (is_accepted mail.0 h) (life_in (s.actors mail.0)) left.Stopped
    ∙ ap (λ life. made mail (number_of mail.0 h) (is_accepted mail.0 h) life) (over_life s b Stopped (s.actors b) mail.0 (ap is_some legal.1.is)))
told_so d (k ∷ events) ((Moment m) ∷ h) legal told =
    let s = after d h in
    more_books k (kept.Moment m) (books_of events) (entry_in s h) (entry_in (happens s (Moment m)) (Moment m ∷ h)) s (mails_of h)
    told.0 refl (told_so d events h legal.0 told.1) (mails_there d events h legal.0 told.1) (λ mail there. refl)
told_so d (k ∷ events) ((Halt how contents) ∷ h) legal told =
    let s = after d h in
    more_books k (kept.Halt how) (books_of events) (entry_in s h) (entry_in (happens s (Halt how contents)) (Halt how contents ∷ h)) s (mails_of h)
    told.0 refl (told_so d events h legal.0 told.1) (mails_there d events h legal.0 told.1)
    (λ mail there. ap (λ life. made mail (number_of mail.0 h) (is_accepted mail.0 h) life) (halt_life (s.actors mail.0) (alone_is (s.actors mail.0) there)))

pub books_told : BooksAreTheModels
books_told d events h legal told = told_so d (with_inputs (reverse events)) h legal told
