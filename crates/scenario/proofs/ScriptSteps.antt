-- A step of a world is a step of the script's history.
use Rattle.std.proofs.Common.{◌≡◌, ◌≢◌, ⊎_elim, ℕ, ◌+◌, List, [], ◌∷◌, ◌++◌, reverse, Bool, true, false, is_some, Contains, Option, Some, None, refl, sym, ap, ◌∙◌, subst, Result, Err}
use Rattle.std.proofs.lemmas.Bool.{false≢true}
use Rattle.std.specs.List.{AllZip}
use Rattle.actor_names.specs.ChildNames.{bounce_name, delivery_name, forward_of}
use Rattle.actor_names.specs.MailNames.{members}
use Rattle.call_fs.specs.declared.calls.CallData.{CallData}
use Rattle.call_fs.specs.declared.calls.Answer.{Answer}
use Rattle.call_fs.specs.declared.calls.Answer.TheVariants.{Refused}
use Rattle.call_fs.specs.declared.calls.FsError.TheVariants.{Memory}
use Rattle.call_fs.specs.declared.calls.Told.{Told}
use Rattle.call_fs.specs.declared.program.Ready.{Ready}
use Rattle.call_fs.specs.Disk.{Disk}
use Rattle.call_fs.specs.declared.past.GotData.{GotData}
use Rattle.call_fs.specs.declared.past.GotData.TheVariants.{Answered}
use Rattle.call_fs.specs.declared.past.GotData.TheVariants as got
use Rattle.call_fs.specs.declared.past.ChildData.{ChildData}
use Rattle.call_fs.specs.declared.past.ChildData.TheVariants as child
use Rattle.call_fs.specs.declared.program.Port.{Port}
use Rattle.call_fs.specs.declared.program.Port.TheVariants as port
use Rattle.call_fs.specs.declared.past.NeedData.{NeedData}
use Rattle.call_fs.specs.declared.past.NeedData.TheVariants as needs
use Rattle.call_fs.specs.declared.past.Own.{Own}
use Rattle.call_fs.specs.Plan.{Plan, Takes, CallKeepsPlan}
use Rattle.call_fs.specs.Apply.{effect}
use Rattle.crash_fs.specs.Crash.{Crash, crash_disk, crash_plan}
use Rattle.call_fs.proofs.Maps.{put_at_same, put_at_other}
use Rattle.local_parts.specs.Arguments.{local_args}
use Rattle.queue_inject.specs.declared.injection.Arguments.{Arguments}
use Rattle.world_events.specs.Children.{Counts, child_of, counts_in as kept_counts}
use Rattle.world_events.specs.Inputs.{bounce, forward, with_inputs}
use Rattle.world_events.specs.declared.event.Program.{Program}
use Rattle.world_events.specs.declared.event.Program.TheVariants.{Injector, Delivery}
use Rattle.world_events.specs.declared.event.Event.{Event as Kept}
use Rattle.world_events.specs.declared.event.Event.TheVariants as kept
use Rattle.mail_world.specs.Generations.{Waits, CanNot, has_idled, idled_by}
use Rattle.mail_world.specs.History.{Event, call_act, Actor, Life, State, Allowed, MayDo, MayRun, ComesOf, netstring, next_of, program_of, IsLiving, acted, called, finished, happens, own_call}
use Rattle.mail_world.specs.History.{after as after_events}
use Rattle.mail_world.specs.Known.{known}
use Rattle.mail_world.specs.Pipework.{Pipe, Pipework, Tenant, is_member, pipes_after, pipework_after}
use Rattle.mail_world.specs.Pipework.Tenant.{Runs, Remote}
use Rattle.mail_world.specs.Wired.{GivesWhole}
use Rattle.mail_world.specs.History.Event.{Act, Child, End}
use Rattle.mail_world.specs.History.Life.{Alive, Over}
use Rattle.mail_world.specs.Readiness.{found_in}
use Rattle.mail_world.specs.World.{next_pid as kept_pid, begun_with, Seen, Tells, IsHistory, GoesOn, GoesByPlan, IsStep, IsOwnOf, IsKeptBy, IsKeptGiving, IsKeptStart, IsKeptTo, ComesWhole, IsPlannedOwn, EndsAt, was_started}
use Rattle.mail_world.proofs.Histories.{kept_call}
use Rattle.mail_world.proofs.Lives.{started_is, ended_is, lives_or_ended}
use Rattle.mail_world.proofs.Members.{contained_member, member_contained, whether}
use Rattle.mail_world.proofs.Spans.{span_stays}
use Rattle.crash_fs.proofs.CountedCalls.{done_by}
use Rattle.scenario.proofs.HalfWritten.{call_wrote_none}
use Rattle.scenario.specs.Deeds.{Deed, event_in, history_of, after, counts_in}
use Rattle.scenario.specs.Deeds.Deed.{Came, Fed}
use Rattle.scenario.specs.Steps.{plan_by, plan_left_of, DoesNext, DoesStep, StepsTo, Outcome, next_pid, comes, idles, own_by}
use Rattle.scenario.specs.Steps.Outcome.{Happens, Is}
use Rattle.scenario.specs.Steps.Refusal.{Gone, Unknown, NotWaiting}
use Rattle.scenario.specs.Fates.{IsNamedSo, is_delivery_name}
use Rattle.scenario.specs.inside.Fates.{AreNamed}
use Rattle.scenario.specs.Playing.{HasStepped, IsLeftBy, IsPlaying, IsRefusedAs}
use Rattle.scenario.specs.inside.Playing.{is_memory, lacked_memory, stepped_by}
use Rattle.scenario.proofs.Carried.{no_file_disk}
use Rattle.scenario.proofs.StepKinds.{IsNoFile}
use Rattle.scenario.proofs.Deeds.{tells, plain_on, fed_on, playing_push, pid_told, counts_told}
use Rattle.scenario.proofs.Followed.{orderly}
use Rattle.scenario.proofs.ReadEvents.{inputs_read}
use Rattle.scenario.proofs.KeptEvents.{act_told, child_told, end_told}
use Rattle.scenario.proofs.Knowing.{actors_told, pipework_told, found_same, comes_same, kept_same, idled_same, waits_same}
use Rattle.scenario.proofs.Outcomes.{does_next, over_gone}
use Rattle.scenario.proofs.Waiting.{all_comes, acts_next, bears_next, feeds_next, waits_steps}
use Rattle.world_events.specs.declared.answers.WorldError.{WorldError}
use Rattle.world_events.specs.declared.answers.WorldError.TheVariants as error

-- Refusals

none_of : (m : Option Actor) → is_some m ≡ false → m ≡ None
none_of None e = refl
none_of (Some x) e = let h = e in absurd (cc)

pub never_started : (o d : Disk) (events : List Kept) (p : ℕ) (h : List Deed) (a : List ℕ) → IsHistory o d events p (history_of h) → was_started events a ≡ false → (after o h).actors a ≡ None
never_started o d events p h a was new = none_of ((after o h).actors a) (sym (started_is o (history_of h) events a was.told) ∙ new)

unknown_steps : (plan : Plan) (o d : Disk) (events : List Kept) (p : ℕ) (h : List Deed) (a : List ℕ) → IsHistory o d events p (history_of h) → was_started events a ≡ false → StepsTo o h plan a (Is Unknown)
unknown_steps plan o d events p h a was new = subst (λ (m : Option Actor). DoesStep plan (after o h) (next_pid h) (counts_in h) a m (Is Unknown)) (sym (never_started o d events p h a was new)) refl

gone_steps : (plan : Plan) (o d : Disk) (events : List Kept) (p : ℕ) (h : List Deed) (a : List ℕ) (at : ℕ) → IsHistory o d events p (history_of h) → EndsAt events a at → StepsTo o h plan a (Is Gone)
gone_steps plan o d events p h a at was ends =
    let x = ended_is o (history_of h) events a at was.legal was.told ends in
    over_gone o h plan a x.0 x.1 x.2

-- a world's own refusal of a step is the script's; it waits as the history tells
pub refused_as : {T : Type 0} (r : Result T WorldError) (why : WorldError) (o : Disk) (old : Seen Crash) (plan : Plan) (a : List ℕ) (h : List Deed)
    → IsPlaying o old plan h → r ≡ Err why → (r ≡ Err error.Unknown → was_started old.events a ≡ false)
    → ((name : List ℕ) (at : ℕ) → r ≡ Err (error.Gone name at) → (name ≡ a) × EndsAt old.events a at)
    → ((name : List ℕ) → r ≡ Err (error.NotWaiting name) → (name ≡ a) × Waits (known old.events) old.present a)
    → r ≢ Err error.Taken → ((now : ℕ) → r ≢ Err (error.Past now)) → ((name : List ℕ) → r ≢ Err (error.Alive name)) → IsRefusedAs why o plan a h
refused_as r (error.Gone name at) o old plan a h playing is unknown gone waits taken past alive =
    (Gone, refl, gone_steps plan o (crash_disk old.disk) old.events old.present h a at playing.is (gone name at is).1)
refused_as r (error.NotWaiting name) o old plan a h playing is unknown gone waits taken past alive =
    let w = waits_same (after o h) (known old.events) (actors_told o old.events (history_of h) playing.is.told) (pipework_told o old.events (history_of h) playing.is.told playing.whole) old.present a (waits name is).1 in
    let due = subst (λ (q : ℕ). CanNot (after o h) a (next_of w.actor.program w.actor.past q (found_in (after o h) a))) (sym playing.is.moment) w.due in
    (NotWaiting, refl, waits_steps o h plan a w.actor w.is w.alive due)
refused_as r error.Unknown o old plan a h playing is unknown gone waits taken past alive =
    (Unknown, refl, unknown_steps plan o (crash_disk old.disk) old.events old.present h a playing.is (unknown is))
refused_as r error.Taken o old plan a h playing is unknown gone waits taken past alive = absurd (taken is)
refused_as r (error.Past now) o old plan a h playing is unknown gone waits taken past alive = absurd (past now is)
refused_as r (error.Alive name) o old plan a h playing is unknown gone waits taken past alive = absurd (alive name is)
refused_as r error.Memory o old plan a h playing is unknown gone waits taken past alive = tt

-- What a step of the world comes to

pub moved : (o d : Disk) (events kept_now : List Kept) (p q : ℕ) (h : List Event) → events ≡ kept_now → p ≡ q → IsHistory o d events p h → IsHistory o d kept_now q h
moved o d events kept_now p q h same now is = subst (λ (q : ℕ). IsHistory o d kept_now q h) now (subst (λ (l : List Kept). IsHistory o d l p h) same is)

pub not_memory : (answer : Answer) → is_memory answer ≡ false → answer ≢ Refused Memory
not_memory answer is e = let both : true ≡ false = sym (ap is_memory e) ∙ is in absurd (cc)

-- Takings, givings and starts

abbrev own_at : ℕ → Ready → NeedData → GotData → Own
own_at read ready due came = record { read = read; ready = ready; due = due; came = came }

-- how much a failed giving had given is nothing to what went well
came_zero : (s : State) (a : List ℕ) (due : NeedData) (came : GotData) (w : ℕ) → IsNoFile due → GivesWhole due came → ComesOf s a due came w → ComesOf s a due came 0
came_zero s a (needs.File call) came w unfiled whole of = absurd unfiled
came_zero s a (needs.Take (port.Status d)) came w unfiled whole of = of
came_zero s a (needs.Take port.Input) came w unfiled whole of = of
came_zero s a (needs.Take port.Output) came w unfiled whole of = of
came_zero s a (needs.Take port.Clean) came w unfiled whole of = of
came_zero s a (needs.Take port.Lspawn) came w unfiled whole of = of
came_zero s a (needs.Take port.Rspawn) came w unfiled whole of = of
came_zero s a (needs.Take port.Todo) came w unfiled whole of = of
came_zero s a (needs.Take (port.Program d)) came w unfiled whole of = of
came_zero s a (needs.Give (port.Status d) bytes) (got.Answered told) w unfiled whole of = of
came_zero s a (needs.Give (port.Status d) bytes) (got.Took more) w unfiled whole of = of
came_zero s a (needs.Give (port.Status d) bytes) got.End w unfiled whole of = of
came_zero s a (needs.Give (port.Status d) bytes) (got.Ended status) w unfiled whole of = of
came_zero s a (needs.Give (port.Status d) bytes) got.Crashed w unfiled whole of = of
came_zero s a (needs.Give (port.Status d) bytes) got.Gave w unfiled whole of = of
came_zero s a (needs.Give (port.Status d) bytes) (got.Started pid) w unfiled whole of = of
came_zero s a (needs.Give (port.Status d) bytes) got.Failed w unfiled whole of = absurd whole
came_zero s a (needs.Give (port.Status d) bytes) got.Memory w unfiled whole of = of
came_zero s a (needs.Give port.Input bytes) (got.Answered told) w unfiled whole of = of
came_zero s a (needs.Give port.Input bytes) (got.Took more) w unfiled whole of = of
came_zero s a (needs.Give port.Input bytes) got.End w unfiled whole of = of
came_zero s a (needs.Give port.Input bytes) (got.Ended status) w unfiled whole of = of
came_zero s a (needs.Give port.Input bytes) got.Crashed w unfiled whole of = of
came_zero s a (needs.Give port.Input bytes) got.Gave w unfiled whole of = of
came_zero s a (needs.Give port.Input bytes) (got.Started pid) w unfiled whole of = of
came_zero s a (needs.Give port.Input bytes) got.Failed w unfiled whole of = absurd whole
came_zero s a (needs.Give port.Input bytes) got.Memory w unfiled whole of = of
came_zero s a (needs.Give port.Output bytes) (got.Answered told) w unfiled whole of = of
came_zero s a (needs.Give port.Output bytes) (got.Took more) w unfiled whole of = of
came_zero s a (needs.Give port.Output bytes) got.End w unfiled whole of = of
came_zero s a (needs.Give port.Output bytes) (got.Ended status) w unfiled whole of = of
came_zero s a (needs.Give port.Output bytes) got.Crashed w unfiled whole of = of
came_zero s a (needs.Give port.Output bytes) got.Gave w unfiled whole of = of
came_zero s a (needs.Give port.Output bytes) (got.Started pid) w unfiled whole of = of
came_zero s a (needs.Give port.Output bytes) got.Failed w unfiled whole of = absurd whole
came_zero s a (needs.Give port.Output bytes) got.Memory w unfiled whole of = of
came_zero s a (needs.Give port.Clean bytes) (got.Answered told) w unfiled whole of = of
came_zero s a (needs.Give port.Clean bytes) (got.Took more) w unfiled whole of = of
came_zero s a (needs.Give port.Clean bytes) got.End w unfiled whole of = of
came_zero s a (needs.Give port.Clean bytes) (got.Ended status) w unfiled whole of = of
came_zero s a (needs.Give port.Clean bytes) got.Crashed w unfiled whole of = of
came_zero s a (needs.Give port.Clean bytes) got.Gave w unfiled whole of = of
came_zero s a (needs.Give port.Clean bytes) (got.Started pid) w unfiled whole of = of
came_zero s a (needs.Give port.Clean bytes) got.Failed w unfiled whole of = absurd whole
came_zero s a (needs.Give port.Clean bytes) got.Memory w unfiled whole of = of
came_zero s a (needs.Give port.Lspawn bytes) (got.Answered told) w unfiled whole of = of
came_zero s a (needs.Give port.Lspawn bytes) (got.Took more) w unfiled whole of = of
came_zero s a (needs.Give port.Lspawn bytes) got.End w unfiled whole of = of
came_zero s a (needs.Give port.Lspawn bytes) (got.Ended status) w unfiled whole of = of
came_zero s a (needs.Give port.Lspawn bytes) got.Crashed w unfiled whole of = of
came_zero s a (needs.Give port.Lspawn bytes) got.Gave w unfiled whole of = of
came_zero s a (needs.Give port.Lspawn bytes) (got.Started pid) w unfiled whole of = of
came_zero s a (needs.Give port.Lspawn bytes) got.Failed w unfiled whole of = absurd whole
came_zero s a (needs.Give port.Lspawn bytes) got.Memory w unfiled whole of = of
came_zero s a (needs.Give port.Rspawn bytes) (got.Answered told) w unfiled whole of = of
came_zero s a (needs.Give port.Rspawn bytes) (got.Took more) w unfiled whole of = of
came_zero s a (needs.Give port.Rspawn bytes) got.End w unfiled whole of = of
came_zero s a (needs.Give port.Rspawn bytes) (got.Ended status) w unfiled whole of = of
came_zero s a (needs.Give port.Rspawn bytes) got.Crashed w unfiled whole of = of
came_zero s a (needs.Give port.Rspawn bytes) got.Gave w unfiled whole of = of
came_zero s a (needs.Give port.Rspawn bytes) (got.Started pid) w unfiled whole of = of
came_zero s a (needs.Give port.Rspawn bytes) got.Failed w unfiled whole of = absurd whole
came_zero s a (needs.Give port.Rspawn bytes) got.Memory w unfiled whole of = of
came_zero s a (needs.Give port.Todo bytes) (got.Answered told) w unfiled whole of = of
came_zero s a (needs.Give port.Todo bytes) (got.Took more) w unfiled whole of = of
came_zero s a (needs.Give port.Todo bytes) got.End w unfiled whole of = of
came_zero s a (needs.Give port.Todo bytes) (got.Ended status) w unfiled whole of = of
came_zero s a (needs.Give port.Todo bytes) got.Crashed w unfiled whole of = of
came_zero s a (needs.Give port.Todo bytes) got.Gave w unfiled whole of = of
came_zero s a (needs.Give port.Todo bytes) (got.Started pid) w unfiled whole of = of
came_zero s a (needs.Give port.Todo bytes) got.Failed w unfiled whole of = absurd whole
came_zero s a (needs.Give port.Todo bytes) got.Memory w unfiled whole of = of
came_zero s a (needs.Give (port.Program d) bytes) (got.Answered told) w unfiled whole of = of
came_zero s a (needs.Give (port.Program d) bytes) (got.Took more) w unfiled whole of = of
came_zero s a (needs.Give (port.Program d) bytes) got.End w unfiled whole of = of
came_zero s a (needs.Give (port.Program d) bytes) (got.Ended status) w unfiled whole of = of
came_zero s a (needs.Give (port.Program d) bytes) got.Crashed w unfiled whole of = of
came_zero s a (needs.Give (port.Program d) bytes) got.Gave w unfiled whole of = of
came_zero s a (needs.Give (port.Program d) bytes) (got.Started pid) w unfiled whole of = of
came_zero s a (needs.Give (port.Program d) bytes) got.Failed w unfiled whole of = absurd whole
came_zero s a (needs.Give (port.Program d) bytes) got.Memory w unfiled whole of = of
came_zero s a (needs.Start (child.Remote slot domain sender recipient)) (got.Answered told) w unfiled whole of = of
came_zero s a (needs.Start (child.Remote slot domain sender recipient)) (got.Took more) w unfiled whole of = of
came_zero s a (needs.Start (child.Remote slot domain sender recipient)) got.End w unfiled whole of = of
came_zero s a (needs.Start (child.Remote slot domain sender recipient)) (got.Ended status) w unfiled whole of = of
came_zero s a (needs.Start (child.Remote slot domain sender recipient)) got.Crashed w unfiled whole of = of
came_zero s a (needs.Start (child.Remote slot domain sender recipient)) got.Gave w unfiled whole of = of
came_zero s a (needs.Start (child.Remote slot domain sender recipient)) (got.Started pid) w unfiled whole of = of
came_zero s a (needs.Start (child.Remote slot domain sender recipient)) got.Failed w unfiled whole of = of
came_zero s a (needs.Start (child.Remote slot domain sender recipient)) got.Memory w unfiled whole of = of
came_zero s a (needs.Start (child.Bounce room)) (got.Answered told) w unfiled whole of = of
came_zero s a (needs.Start (child.Bounce room)) (got.Took more) w unfiled whole of = of
came_zero s a (needs.Start (child.Bounce room)) got.End w unfiled whole of = of
came_zero s a (needs.Start (child.Bounce room)) (got.Ended status) w unfiled whole of = of
came_zero s a (needs.Start (child.Bounce room)) got.Crashed w unfiled whole of = of
came_zero s a (needs.Start (child.Bounce room)) got.Gave w unfiled whole of = of
came_zero s a (needs.Start (child.Bounce room)) (got.Started pid) w unfiled whole of = of
came_zero s a (needs.Start (child.Bounce room)) got.Failed w unfiled whole of = of
came_zero s a (needs.Start (child.Bounce room)) got.Memory w unfiled whole of = of
came_zero s a (needs.Start (child.Forward uid room)) (got.Answered told) w unfiled whole of = of
came_zero s a (needs.Start (child.Forward uid room)) (got.Took more) w unfiled whole of = of
came_zero s a (needs.Start (child.Forward uid room)) got.End w unfiled whole of = of
came_zero s a (needs.Start (child.Forward uid room)) (got.Ended status) w unfiled whole of = of
came_zero s a (needs.Start (child.Forward uid room)) got.Crashed w unfiled whole of = of
came_zero s a (needs.Start (child.Forward uid room)) got.Gave w unfiled whole of = of
came_zero s a (needs.Start (child.Forward uid room)) (got.Started pid) w unfiled whole of = of
came_zero s a (needs.Start (child.Forward uid room)) got.Failed w unfiled whole of = of
came_zero s a (needs.Start (child.Forward uid room)) got.Memory w unfiled whole of = of
came_zero s a (needs.Start (child.Local slot words uid)) (got.Answered told) w unfiled whole of = of
came_zero s a (needs.Start (child.Local slot words uid)) (got.Took more) w unfiled whole of = of
came_zero s a (needs.Start (child.Local slot words uid)) got.End w unfiled whole of = of
came_zero s a (needs.Start (child.Local slot words uid)) (got.Ended status) w unfiled whole of = of
came_zero s a (needs.Start (child.Local slot words uid)) got.Crashed w unfiled whole of = of
came_zero s a (needs.Start (child.Local slot words uid)) got.Gave w unfiled whole of = of
came_zero s a (needs.Start (child.Local slot words uid)) (got.Started pid) w unfiled whole of = of
came_zero s a (needs.Start (child.Local slot words uid)) got.Failed w unfiled whole of = of
came_zero s a (needs.Start (child.Local slot words uid)) got.Memory w unfiled whole of = of
came_zero s a (needs.Command bytes) came w unfiled whole of = of
came_zero s a needs.Wait came w unfiled whole of = of
came_zero s a (needs.Ended status) came w unfiled whole of = of

same_pipes : (pipework : Pipework) (a : List ℕ) (due : NeedData) (came : GotData) (w : ℕ) → GivesWhole due came → pipes_after pipework a due came w ≡ pipes_after pipework a due came 0
same_pipes pipework a (needs.Give port bytes) (got.Answered told) w whole = refl
same_pipes pipework a (needs.Give port bytes) (got.Took more) w whole = refl
same_pipes pipework a (needs.Give port bytes) got.End w whole = refl
same_pipes pipework a (needs.Give port bytes) (got.Ended status) w whole = refl
same_pipes pipework a (needs.Give port bytes) got.Crashed w whole = refl
same_pipes pipework a (needs.Give port bytes) got.Gave w whole = refl
same_pipes pipework a (needs.Give port bytes) (got.Started pid) w whole = refl
same_pipes pipework a (needs.Give port bytes) got.Failed w whole = absurd whole
same_pipes pipework a (needs.Give port bytes) got.Memory w whole = refl
same_pipes pipework a (needs.Take port) (got.Answered told) w whole = refl
same_pipes pipework a (needs.Take port) (got.Took more) w whole = refl
same_pipes pipework a (needs.Take port) got.End w whole = refl
same_pipes pipework a (needs.Take port) (got.Ended status) w whole = refl
same_pipes pipework a (needs.Take port) got.Crashed w whole = refl
same_pipes pipework a (needs.Take port) got.Gave w whole = refl
same_pipes pipework a (needs.Take port) (got.Started pid) w whole = refl
same_pipes pipework a (needs.Take port) got.Failed w whole = refl
same_pipes pipework a (needs.Take port) got.Memory w whole = refl
same_pipes pipework a (needs.Start (child.Remote slot domain sender recipient)) (got.Answered told) w whole = refl
same_pipes pipework a (needs.Start (child.Remote slot domain sender recipient)) (got.Took more) w whole = refl
same_pipes pipework a (needs.Start (child.Remote slot domain sender recipient)) got.End w whole = refl
same_pipes pipework a (needs.Start (child.Remote slot domain sender recipient)) (got.Ended status) w whole = refl
same_pipes pipework a (needs.Start (child.Remote slot domain sender recipient)) got.Crashed w whole = refl
same_pipes pipework a (needs.Start (child.Remote slot domain sender recipient)) got.Gave w whole = refl
same_pipes pipework a (needs.Start (child.Remote slot domain sender recipient)) (got.Started pid) w whole = refl
same_pipes pipework a (needs.Start (child.Remote slot domain sender recipient)) got.Failed w whole = refl
same_pipes pipework a (needs.Start (child.Remote slot domain sender recipient)) got.Memory w whole = refl
same_pipes pipework a (needs.Start (child.Bounce room)) came w whole = refl
same_pipes pipework a (needs.Start (child.Forward uid room)) came w whole = refl
same_pipes pipework a (needs.Start (child.Local slot words uid)) came w whole = refl
same_pipes pipework a (needs.File call) came w whole = refl
same_pipes pipework a (needs.Command bytes) came w whole = refl
same_pipes pipework a needs.Wait came w whole = refl
same_pipes pipework a (needs.Ended status) came w whole = refl

same_pipework : (pipework : Pipework) (a : List ℕ) (due : NeedData) (came : GotData) (w : ℕ) → GivesWhole due came → pipework_after pipework a due came w ≡ pipework_after pipework a due came 0
same_pipework pipework a due came w whole =
    ap (λ (pipes : List ℕ → Port → Pipe). with_pipes pipes) (same_pipes pipework a due came w whole)
  where
    with_pipes : (List ℕ → Port → Pipe) → Pipework
    with_pipes pipes = record { pipes = pipes; programs = (pipework_after pipework a due came 0).programs; slots = pipework.slots }

same_left : (s : State) (a : List ℕ) (own : Own) (w : ℕ) (o : Option Actor) → IsNoFile own.due → GivesWhole own.due own.came → acted s a own w o ≡ acted s a own 0 o
same_left s a own w None unfiled whole = refl
same_left s a own w (Some x) unfiled whole =
    let t = acted s a own 0 (Some x) in
    let disk : Disk → State = λ d. record { disk = d; holder = t.holder; now = t.now; actors = t.actors; books = t.books; pipework = pipework_after s.pipework a own.due own.came w } in
    let pipework : Pipework → State = λ p. record { disk = t.disk; holder = t.holder; now = t.now; actors = t.actors; books = t.books; pipework = p } in
    ap disk (no_file_disk s.disk own.read own.due own.came w unfiled ∙ sym (no_file_disk s.disk own.read own.due own.came 0 unfiled))
    ∙ ap pipework (same_pipework s.pipework a own.due own.came w whole)

planned_so : (due : NeedData) (came : GotData) (o n : Option Plan) (d e : Option Disk) → IsNoFile due → IsPlannedOwn due came o n d e → n ≡ o
planned_so (needs.File call) came o n d e unfiled planned = absurd unfiled
planned_so due came o n d e unfiled planned = planned

left_so : (due : NeedData) (came : GotData) (plan : Plan) → IsNoFile due → plan_left_of due came plan ≡ plan
left_so (needs.File call) came plan unfiled = absurd unfiled
left_so due came plan unfiled = refl

acted_actor : (s : State) (a : List ℕ) (own : Own) (w : ℕ) (x : Actor) → s.actors a ≡ Some x
    → (y : Actor) × ((acted s a own w (s.actors a)).actors a ≡ Some y) × (y.life ≡ x.life)
acted_actor s a own w x is =
    subst (λ (o : Option Actor). (y : Actor) × ((acted s a own w o).actors a ≡ Some y) × (y.life ≡ x.life)) (sym is)
    (_, put_at_same s.actors a _, refl)

-- A step of a world

no_file : (due : NeedData) → ((call : CallData) → due ≢ needs.File call) → IsNoFile due
no_file (needs.File call) other = absurd (other call refl)
no_file (needs.Take port) other = tt
no_file (needs.Give port bytes) other = tt
no_file (needs.Start child) other = tt
no_file (needs.Command bytes) other = tt
no_file needs.Wait other = tt
no_file (needs.Ended status) other = tt

gives_whole : (s : State) (pid : ℕ) (a : List ℕ) (program : Program) (due : NeedData) (came : GotData) → ComesWhole s pid a program due came → GivesWhole due came
gives_whole s pid a program (needs.Give port bytes) came h = subst (GivesWhole (needs.Give port bytes)) (sym h) tt
gives_whole s pid a program due came h = tt

-- an event of an actor that hid how much it wrote, as one that wrote nothing
zero_told : (ks : List Kept) (a : List ℕ) (own : Own) (w : ℕ) (h : List Event) → AllZip Tells ks (Act a own w ∷ h) → AllZip Tells ks (Act a own 0 ∷ h)
zero_told [] a own w h told = absurd told
zero_told (k ∷ ks) a own w h told = told

zero_wrote : (o d : Disk) (events : List Kept) (p : ℕ) (a : List ℕ) (own : Own) (w : ℕ) (h : List Event) → IsHistory o d events p (Act a own w ∷ h)
    → Allowed (after_events o h) (Act a own 0) → happens (after_events o h) (Act a own w) ≡ happens (after_events o h) (Act a own 0) → IsHistory o d events p (Act a own 0 ∷ h)
zero_wrote o d events p a own w h is may same = record {
  legal = (is.legal.0, may);
  told = zero_told (with_inputs (reverse events)) a own w h is.told;
  named = (is.named.0, tt);
  disk = ap (λ (t : State). t.disk) (sym same) ∙ is.disk;
  moment = ap (λ (t : State). t.now) (sym same) ∙ is.moment;
}

-- so it is with one that is no file call
zero_passed : (o d : Disk) (events : List Kept) (p : ℕ) (a : List ℕ) (own : Own) (w : ℕ) (h : List Event) → IsNoFile own.due → GivesWhole own.due own.came → IsHistory o d events p (Act a own w ∷ h)
    → IsHistory o d events p (Act a own 0 ∷ h)
zero_passed o d events p a own w h unfiled whole is =
    let s = after_events o h in
    let made : MayDo s a own w = is.legal.1 in
    zero_wrote o d events p a own w h is
    (record { actor = made.actor; reads = made.reads; finds = made.finds; due = made.due; came = came_zero s a own.due own.came w unfiled whole made.came })
    (same_left s a own w (s.actors a) unfiled whole)

-- the actor lives on
lives_on : (o d : Disk) (events : List Kept) (p : ℕ) (a : List ℕ) (own : Own) (h : List Event) → IsHistory o d events p (Act a own 0 ∷ h) → IsLiving (after_events o (Act a own 0 ∷ h)) a
lives_on o d events p a own h is =
    let s = after_events o h in
    let made : MayDo s a own 0 = is.legal.1 in
    let living = acted_actor s a own 0 made.actor made.reads.is in
    record { actor = living.0; is = living.1; alive = living.2 ∙ made.reads.alive }

-- what a file call comes to
call_steps : (o : Disk) (old new : Seen Crash) (plan : Plan) (h : List Deed) (a : List ℕ) (call : CallData) (got : Told) (w : ℕ) → IsPlaying o old plan h
    → IsHistory o (crash_disk new.disk) new.events new.present (call_act a old.present (found_in (after o h) a) call got w ∷ history_of h)
    → got.answer ≢ Refused Memory → CallKeepsPlan call (Some plan) (crash_plan new.disk) (Some (crash_disk old.disk)) (Some (crash_disk new.disk)) got.answer
    → StepsTo o h plan a (Happens (Came (call_act a old.present (found_in (after o h) a) call got 0)))
    × (crash_plan new.disk ≡ Some (plan_by (call_act a old.present (found_in (after o h) a) call got 0) plan))
    × IsHistory o (crash_disk new.disk) new.events new.present (call_act a old.present (found_in (after o h) a) call got 0 ∷ history_of h)
call_steps o old new plan h a call got w playing at_w memory keeps =
    let s = after o h in
    let p = old.present in
    let found = found_in s a in
    let was = playing.is in
    let made = at_w.legal.1 in
    let by = done_by call s.disk plan (crash_plan new.disk) (crash_disk old.disk) (crash_disk new.disk) got.answer w made.came.0 keeps in
    let left_disk : effect s.disk p call got.answer w ≡ crash_disk new.disk =
    subst (λ (m : Option Actor). effect s.disk p call got.answer w ≡ (called s a p found call got w m).disk) (sym made.reads.is) refl ∙ at_w.disk in
    let zero = call_wrote_none s a p found call got w (λ fault. left_disk ∙ by.nothing_done fault ∙ sym was.disk) made in
    let may = zero.0 in
    let f : Event = call_act a p found call got 0 in (
      does_next o h plan a p may.actor (needs.File call) (Happens (Came f)) may.reads.is may.reads.alive was.moment may.due (
        got,
        record {
          fits = may.came.0;
          bytes = may.came.1;
          fails = by.fails;
          takes = subst (λ (d : Disk). Takes d plan.pick got.answer) (sym was.disk) by.takes;
          no_memory = memory;
        },
        ap (λ q. Happens (Came (call_act a q found call got 0))) (sym was.moment),
      ),
      by.planned,
      zero_wrote o (crash_disk new.disk) new.events new.present a (own_call p found call got) w (history_of h) at_w may zero.1,
    )

-- so it does if it started a child
bears_on : (s : State) (a : List ℕ) (own : Own) (c : List ℕ) (program : Program) (x : Actor) → s.actors a ≡ Some x → a ≢ c
    → (y : Actor) × ((happens s (Child a own c program)).actors a ≡ Some y) × (y.life ≡ x.life)
bears_on s a own c program x is apart =
    let lives = acted_actor s a own 0 x is in
    (lives.0, put_at_other (acted s a own 0 (s.actors a)).actors c _ a apart ∙ lives.1, lives.2)

-- A child has no member's name, and an injector none of a delivery.
unlike_members : (b : List ℕ) → is_member b ≡ false → ¬ (Contains members b)
unlike_members b named inside = false≢true (sym named ∙ contained_member b inside)

forward_named : (a : List ℕ) → (is_member (forward_of a) ≡ false) × (is_delivery_name (forward_of a) ≡ false)
forward_named [] = (refl, refl)
forward_named (letter ∷ rest) = (refl, refl)

same_born : (x y : List ℕ × Program) → ◌≡◌ {A = Option (List ℕ × Program)} (Some x) (Some y) → x ≡ y
same_born x y e = cc

abbrev IsNamedBirth : List ℕ × Program → Type 0
IsNamedBirth born = (¬ (Contains members born.0)) × IsNamedSo born.0 born.1

born_named : (n : Counts) (a : List ℕ) (asked : ChildData) (pid now : ℕ) (born : List ℕ × Program) → child_of n a asked pid now ≡ Some born → IsNamedBirth born
born_named n a (child.Bounce room) pid now born of =
    subst IsNamedBirth (same_born (bounce_name (n.bounces + 1), Injector (bounce pid now)) born of) (unlike_members (bounce_name (n.bounces + 1)) refl, refl)
born_named n a (child.Forward uid room) pid now born of =
    let named = forward_named a in
    subst IsNamedBirth (same_born (forward_of a, Injector (forward uid pid now)) born of) (unlike_members (forward_of a) named.0, named.1)
born_named n a (child.Local slot words uid) pid now born of =
    subst IsNamedBirth (same_born (delivery_name (n.deliveries + 1), Delivery now (local_args words uid pid)) born of) (unlike_members (delivery_name (n.deliveries + 1)) refl, refl)
born_named n a (child.Remote slot domain sender recipient) pid now born of = absurd (cc)

-- What an event of an actor is kept as
data IsKeptAs (s : State) (n : Counts) (a : List ℕ) (own : Own) (due : NeedData) (came : GotData) (k : Kept) : Type 0 where
  Acts : IsKeptBy s n a own due came (kept.Act a own) → k ≡ kept.Act a own → IsKeptAs s n a own due came k
  Bears : (asked : ChildData) (pid : ℕ) (born : List ℕ × Program) → due ≡ needs.Start asked → came ≡ got.Started pid → child_of n a asked pid own.read ≡ Some born → k ≡ kept.Child a own born.0 born.1
      → IsKeptAs s n a own due came k
  Feeds : (slot : ℕ) (c message envelope : List ℕ) (args : Arguments) → due ≡ needs.Give (port.Program slot) (netstring message ++ netstring envelope) → came ≡ got.Gave → s.pipework.programs a slot ≡ Some (Runs c)
      → program_of (s.actors c) ≡ Some (Injector args) → k ≡ kept.Feed a own c message envelope → IsKeptAs s n a own due came k

acts_so : (s : State) (a : List ℕ) (own : Own) (slot : ℕ) (bytes c : List ℕ) (o : Option Program) → s.pipework.programs a slot ≡ Some (Runs c) → program_of (s.actors c) ≡ o
    → IsKeptTo o c a own bytes (kept.Act a own) → IsKeptGiving s (s.pipework.programs a slot) a own bytes (kept.Act a own)
acts_so s a own slot bytes c o is of acts =
    subst (λ (o : Option Tenant). IsKeptGiving s o a own bytes (kept.Act a own)) (sym is) (subst (λ (o : Option Program). IsKeptTo o c a own bytes (kept.Act a own)) (sym of) acts)

-- in that slot runs who has this program
to_as : (s : State) (n : Counts) (a : List ℕ) (own : Own) (slot : ℕ) (bytes c : List ℕ) (k : Kept) (o : Option Program) → s.pipework.programs a slot ≡ Some (Runs c) → program_of (s.actors c) ≡ o
    → (k ≡ kept.Act a own → IsKeptTo o c a own bytes (kept.Act a own)) → IsKeptTo o c a own bytes k → IsKeptAs s n a own (needs.Give (port.Program slot) bytes) got.Gave k
to_as s n a own slot bytes c k (Some (Injector args)) is of acts kept_as =
    Feeds slot c kept_as.0 kept_as.1 args (ap (λ (b : List ℕ). needs.Give (port.Program slot) b) kept_as.2) refl is of kept_as.3
to_as s n a own slot bytes c k None is of acts kept_as = Acts (acts_so s a own slot bytes c None is of (acts kept_as)) kept_as
to_as s n a own slot bytes c k (Some other) is of acts kept_as = Acts (acts_so s a own slot bytes c (Some other) is of (acts kept_as)) kept_as

given_as : (s : State) (n : Counts) (a : List ℕ) (own : Own) (slot : ℕ) (bytes : List ℕ) (k : Kept) (o : Option Tenant) → s.pipework.programs a slot ≡ o → IsKeptGiving s o a own bytes k
    → IsKeptAs s n a own (needs.Give (port.Program slot) bytes) got.Gave k
given_as s n a own slot bytes k None is kept_as = Acts (subst (λ (o : Option Tenant). IsKeptGiving s o a own bytes (kept.Act a own)) (sym is) refl) kept_as
given_as s n a own slot bytes k (Some (Runs c)) is kept_as =
    to_as s n a own slot bytes c k (program_of (s.actors c)) is refl (λ e. subst (IsKeptTo (program_of (s.actors c)) c a own bytes) e kept_as) kept_as
given_as s n a own slot bytes k (Some (Remote reported)) is kept_as = Acts (subst (λ (o : Option Tenant). IsKeptGiving s o a own bytes (kept.Act a own)) (sym is) refl) kept_as

start_as : (s : State) (n : Counts) (a : List ℕ) (own : Own) (asked : ChildData) (pid : ℕ) (k : Kept) (o : Option (List ℕ × Program)) → child_of n a asked pid own.read ≡ o → IsKeptStart o a own k
    → IsKeptAs s n a own (needs.Start asked) (got.Started pid) k
start_as s n a own asked pid k None of is = Acts (subst (λ (o : Option (List ℕ × Program)). IsKeptStart o a own (kept.Act a own)) (sym of) refl) is
start_as s n a own asked pid k (Some born) of is = Bears asked pid born refl refl of is

kept_so : (s : State) (n : Counts) (a : List ℕ) (own : Own) (due : NeedData) (came : GotData) (k : Kept) → IsKeptBy s n a own due came k → IsKeptAs s n a own due came k
kept_so s n a own (needs.Start asked) (got.Started pid) k is = start_as s n a own asked pid k (child_of n a asked pid own.read) refl is
kept_so s n a own (needs.Give (port.Program slot) bytes) got.Gave k is = given_as s n a own slot bytes k (s.pipework.programs a slot) refl is
kept_so s n a own due came k is = Acts refl is

kept_idled : (s : State) (n : Counts) (a : List ℕ) (own : Own) (due : NeedData) (came : GotData) (k : Kept) → IsKeptAs s n a own due came k → has_idled s k ≡ idled_by (s.actors a) own
kept_idled s n a own due came k (Acts plain is) = ap (has_idled s) is
kept_idled s n a own due came k (Bears asked pid born starts started of is) = ap (has_idled s) is
kept_idled s n a own due came k (Feeds slot c message envelope args gives gave runs mail is) = ap (has_idled s) is

-- what a step of the world that is no end leaves
pub record GoesBy (o : Disk) (new : Seen Crash) (plan : Plan) (a : List ℕ) (own : Own) (h : List Deed) : Type 0 where
  pub deed : Deed
  pub steps : StepsTo o h plan a (Happens deed)
  pub playing : IsPlaying o new (plan_by (event_in deed) plan) (deed ∷ h)
  pub living : IsLiving (after o (deed ∷ h)) a
  pub idle : idles (after o h) (event_in deed) ≡ idled_by ((after o h).actors a) own

module _ (o : Disk) (old new : Seen Crash) (plan : Plan) (a : List ℕ) (own : Own) (h : List Deed) (playing : IsPlaying o old plan h)
    (did : IsOwnOf (known old.events) (kept_pid old.events) old.present a own) (k : Kept) (event : new.events ≡ old.events ++ k ∷ []) (same : new.present ≡ old.present)
    (goes : GoesOn tells old new) (by : GoesByPlan crash_plan tells old.disk new.disk old.events new.events)
    (memory : (before : List Kept) (newest : Kept) → new.events ≡ before ++ newest ∷ [] → false ≡ lacked_memory newest) where
  abbrev IsNow : List Event → Type 0
  IsNow g = IsHistory o (crash_disk new.disk) new.events new.present g

  actors : (after o h).actors ≡ (known old.events).actors
  actors = actors_told o old.events (history_of h) playing.is.told

  pipework : (after o h).pipework ≡ (known old.events).pipework
  pipework = pipework_told o old.events (history_of h) playing.is.told playing.whole

  ready : own.ready ≡ found_in (after o h) a
  ready = did.ready ∙ sym (found_same (after o h) (known old.events) actors pipework a)

  whole : GivesWhole own.due own.came
  whole = gives_whole (known old.events) (kept_pid old.events) a did.actor.program own.due own.came did.came

  mine : own ≡ own_by (after o h) a own.due own.came
  mine = ap (λ (q : ℕ). own_at q own.ready own.due own.came) (did.read ∙ sym playing.is.moment) ∙ ap (λ (q : Ready). own_at (after o h).now q own.due own.came) ready

  actor_is : (after o h).actors a ≡ Some did.actor
  actor_is = ap (λ (m : List ℕ → Option Actor). m a) actors ∙ did.is

  due_is : next_of did.actor.program did.actor.past old.present (found_in (after o h) a) ≡ own.due
  due_is = ap (next_of did.actor.program did.actor.past old.present) (found_same (after o h) (known old.events) actors pipework a) ∙ did.due

  -- what is due now and comes
  comes_now : IsNoFile own.due → comes (after o h) (next_pid h) a did.actor.program own.due ≡ Some own.came
  comes_now unfiled = all_comes (after o h) (next_pid h) a did.actor.program own.due own.came unfiled
      (subst (λ (pid : ℕ). ComesWhole (after o h) pid a did.actor.program own.due own.came) (pid_told old.events h playing.told)
      (comes_same (after o h) (known old.events) actors pipework (kept_pid old.events) a did.actor.program own.due own.came did.came))

  steps_by : (outcome : Outcome) → did.actor.life ≡ Alive → DoesNext plan (after o h) (next_pid h) (counts_in h) a did.actor.program own.due outcome → StepsTo o h plan a outcome
  steps_by outcome alive does = does_next o h plan a old.present did.actor own.due outcome actor_is alive playing.is.moment due_is does

  -- the actor that may do it now is that one
  same_actor : (x : Actor) → (after o h).actors a ≡ Some x → x ≡ did.actor
  same_actor x is = let both : ◌≡◌ {A = Option Actor} (Some x) (Some did.actor) = sym is ∙ actor_is in cc

  unplanned : IsNoFile own.due → crash_plan new.disk ≡ crash_plan old.disk → crash_plan new.disk ≡ Some (plan_left_of own.due own.came plan)
  unplanned unfiled left = left ∙ playing.planned ∙ ap (λ (q : Plan). Some q) (sym (left_so own.due own.came plan unfiled))

  -- an event that is kept as it is
  acted_so : (own_now : Own) → own ≡ own_now → k ≡ kept.Act a own → StepsTo o h plan a (Happens (Came (Act a own_now 0))) → crash_plan new.disk ≡ Some (plan_by (Act a own_now 0) plan)
      → IsNow (Act a own_now 0 ∷ history_of h) → GoesBy o new plan a own h
  acted_so own_now is kept_is steps planned now = record {
    deed = Came (Act a own_now 0);
    steps = steps;
    playing = playing_push o old new plan (plan_by (Act a own_now 0) plan) (kept.Act a own_now) (Came (Act a own_now 0)) h playing
        (event ∙ ap (λ (k : Kept). old.events ++ k ∷ []) (kept_is ∙ ap (kept.Act a) is)) now refl planned (subst (λ (own : Own). GivesWhole own.due own.came) is whole) tt tt;
    living = lives_on o (crash_disk new.disk) new.events new.present a own_now (history_of h) now;
    idle = ap (idled_by ((after o h).actors a)) (sym is);
  }

  -- the history then
  acted_now : k ≡ kept.Act a own → (w : ℕ) × IsNow (Act a own w ∷ history_of h)
  acted_now kept_is =
      let on = plain_on o old new plan (kept.Act a own) h playing goes tt (event ∙ ap (λ (k : Kept). old.events ++ k ∷ []) kept_is) in
      let told = act_told a own on.0 on.2 in
      (told.0, subst (λ (e : Event). IsNow (e ∷ history_of h)) told.1 on.1)

  passes : k ≡ kept.Act a own → IsKeptBy (after o h) (counts_in h) a own own.due own.came (kept.Act a own) → IsNoFile own.due → GoesBy o new plan a own h
  passes kept_is plain unfiled =
      let at_w = acted_now kept_is in
      let now = zero_passed o (crash_disk new.disk) new.events new.present a own at_w.0 (history_of h) unfiled whole at_w.1 in
      let left = planned_so own.due own.came (crash_plan old.disk) (crash_plan new.disk) (tells old.disk) (tells new.disk) unfiled (by (kept.Act a own) (event ∙ ap (λ (k : Kept). old.events ++ k ∷ []) kept_is)) in
      let made : MayDo (after o h) a own 0 = now.legal.1 in
      let alive : did.actor.life ≡ Alive = subst (λ (x : Actor). x.life ≡ Alive) (same_actor made.actor made.reads.is) made.reads.alive in
      acted_so own refl kept_is
      (steps_by (Happens (Came (Act a own 0))) alive
      (acts_next plan (after o h) (next_pid h) (counts_in h) a did.actor.program own own.due own.came unfiled (comes_now unfiled) plain mine))
      (unplanned unfiled left)
      now

  calls : (call : CallData) → own.due ≡ needs.File call → k ≡ kept.Act a own → GoesBy o new plan a own h
  calls call due kept_is =
      let came : (got : Told) × (own.came ≡ Answered got) = subst (λ (d : NeedData). ComesWhole (known old.events) (kept_pid old.events) a did.actor.program d own.came) due did.came in
      let got = came.0 in
      let found = found_in (after o h) a in
      let own_now : Own = own_call old.present found call got in
      let is : own ≡ own_now =
      ap (λ (q : ℕ). own_at q own.ready own.due own.came) did.read
      ∙ ap (λ (q : Ready). own_at old.present q own.due own.came) ready
      ∙ ap (λ (q : NeedData). own_at old.present found q own.came) due
      ∙ ap (λ (q : GotData). own_at old.present found (needs.File call) q) came.1 in
      let k_now : Kept = kept_call a old.present found call got in
      let events : new.events ≡ old.events ++ k_now ∷ [] = event ∙ ap (λ (k : Kept). old.events ++ k ∷ []) (kept_is ∙ ap (kept.Act a) is) in
      let keeps = subst (λ (was : Option Plan). CallKeepsPlan call was (crash_plan new.disk) (Some (crash_disk old.disk)) (Some (crash_disk new.disk)) got.answer) playing.planned (by k_now events) in
      let at_w = acted_now kept_is in
      let done = call_steps o old new plan h a call got at_w.0 playing (subst (λ (own : Own). IsNow (Act a own at_w.0 ∷ history_of h)) is at_w.1) (not_memory got.answer (sym (memory old.events k_now events))) keeps in
      acted_so own_now is kept_is done.0 done.1 done.2

  acts : k ≡ kept.Act a own → IsKeptBy (after o h) (counts_in h) a own own.due own.came (kept.Act a own) → GoesBy o new plan a own h
  acts kept_is plain = by_due own.due refl
    where
      by_due : (due : NeedData) → own.due ≡ due → GoesBy o new plan a own h
      by_due (needs.File call) due = calls call due kept_is
      by_due (needs.Take port) due = passes kept_is plain (no_file own.due (λ call e. let both = sym due ∙ e in absurd (cc)))
      by_due (needs.Give port bytes) due = passes kept_is plain (no_file own.due (λ call e. let both = sym due ∙ e in absurd (cc)))
      by_due (needs.Start child) due = passes kept_is plain (no_file own.due (λ call e. let both = sym due ∙ e in absurd (cc)))
      by_due (needs.Command bytes) due = passes kept_is plain (no_file own.due (λ call e. let both = sym due ∙ e in absurd (cc)))
      by_due needs.Wait due = passes kept_is plain (no_file own.due (λ call e. let both = sym due ∙ e in absurd (cc)))
      by_due (needs.Ended status) due = passes kept_is plain (no_file own.due (λ call e. let both = sym due ∙ e in absurd (cc)))

  -- the start of a child
  bears : (asked : ChildData) (pid : ℕ) (born : List ℕ × Program) → own.due ≡ needs.Start asked → own.came ≡ got.Started pid → child_of (counts_in h) a asked pid own.read ≡ Some born
      → k ≡ kept.Child a own born.0 born.1 → GoesBy o new plan a own h
  bears asked pid born due came of kept_is =
      let s = after o h in
      let c = born.0 in
      let program = born.1 in
      let e : Event = Child a own c program in
      let events : new.events ≡ old.events ++ kept.Child a own c program ∷ [] = event ∙ ap (λ (k : Kept). old.events ++ k ∷ []) kept_is in
      let on = plain_on o old new plan (kept.Child a own c program) h playing goes tt events in
      let now : IsNow (e ∷ history_of h) = subst (λ (e : Event). IsNow (e ∷ history_of h)) (child_told a own c program on.0 on.2) on.1 in
      let made = now.legal.1 in
      let alive : did.actor.life ≡ Alive = subst (λ (x : Actor). x.life ≡ Alive) (same_actor made.actor made.reads.is) made.reads.alive in
      let unfiled : IsNoFile own.due = subst IsNoFile (sym due) tt in
      let comes_so : comes s (next_pid h) a did.actor.program (needs.Start asked) ≡ Some (got.Started pid) =
      subst (λ (d : NeedData). comes s (next_pid h) a did.actor.program d ≡ Some (got.Started pid)) due (comes_now unfiled ∙ ap (λ (g : GotData). Some g) came) in
      let own_so : own ≡ own_by s a (needs.Start asked) (got.Started pid) = mine ∙ ap (λ (d : NeedData). own_by s a d own.came) due ∙ ap (own_by s a (needs.Start asked)) came in
      let does = bears_next plan s (next_pid h) (counts_in h) a did.actor.program own asked pid born comes_so of own_so in
      let apart : a ≢ c = λ same_name. let both : Some made.actor ≡ None = sym (ap s.actors (sym same_name) ∙ made.reads.is) ∙ made.new in absurd (cc) in
      let lives = bears_on s a own c program made.actor made.reads.is apart in
      record {
        deed = Came e;
        steps = steps_by (Happens (Came e)) alive (subst (λ (d : NeedData). DoesNext plan s (next_pid h) (counts_in h) a did.actor.program d (Happens (Came e))) (sym due) does);
        playing = playing_push o old new plan plan (kept.Child a own c program) (Came e) h playing events now refl (by (kept.Child a own c program) events ∙ playing.planned) whole
            (born_named (counts_in h) a asked pid own.read born of) tt;
        living = record { actor = lives.0; is = lives.1; alive = lives.2 ∙ made.reads.alive };
        idle = refl;
      }

  -- a giving of its whole input
  lived : (x : Actor) → (e : Event) (g : List Event) → IsNow (e ∷ g) → (after_events o (e ∷ g)).actors a ≡ Some x → x.life ≡ Alive
      → (c message envelope : List ℕ) → new.events ≡ old.events ++ kept.Feed a own c message envelope ∷ [] → did.actor.life ≡ Alive
  lived x e g now is alive c message envelope events =
      ⊎_elim (λ lives. lives)
      (λ over.
      let stays = span_stays old.events (kept.Feed a own c message envelope) a refl refl ∙ over.1 in
      let ended : EndsAt new.events a over.0 = subst (λ (l : List Kept). EndsAt l a over.0) (sym events) stays in
      let dead = ended_is o (e ∷ g) new.events a over.0 now.legal now.told ended in
      let one : x ≡ dead.0 = let both : ◌≡◌ {A = Option Actor} (Some x) (Some dead.0) = sym is ∙ dead.1 in cc in
      absurd (dead.2 (ap (λ (y : Actor). y.life) (sym one) ∙ alive)))
      (lives_or_ended o (history_of h) old.events a did.actor playing.is.legal playing.is.told actor_is)

  -- who is given it is no delivery
  fed_so : (c : List ℕ) (args : Arguments) → program_of ((after o h).actors c) ≡ Some (Injector args) → is_delivery_name c ≡ false
  fed_so c args mail = by_actor ((after o h).actors c) refl mail
    where
      named : AreNamed (after o h)
      named = (orderly o (reverse old.events) (history_of h) playing.is.legal (inputs_read (reverse old.events) (history_of h) playing.is.told) playing.starts).named

      by_actor : (m : Option Actor) → (after o h).actors c ≡ m → program_of m ≡ Some (Injector args) → is_delivery_name c ≡ false
      by_actor None is mail = absurd (cc)
      by_actor (Some x) is mail =
          let one : x.program ≡ Injector args = cc in
          ⊎_elim
          (λ member. absurd (subst (λ (p : Program). MayRun p → ⊥) one (named.member c x is (member_contained c member)) tt))
          (λ alone. subst (IsNamedSo c) one (named.alone c x is (λ inside. false≢true (sym alone ∙ contained_member c inside))))
          (whether (is_member c))

  feeds : (slot : ℕ) (c message envelope : List ℕ) (args : Arguments) → own.due ≡ needs.Give (port.Program slot) (netstring message ++ netstring envelope) → own.came ≡ got.Gave
      → (after o h).pipework.programs a slot ≡ Some (Runs c) → program_of ((after o h).actors c) ≡ Some (Injector args) → k ≡ kept.Feed a own c message envelope → GoesBy o new plan a own h
  feeds slot c message envelope args due came runs mail kept_is =
      let s = after o h in
      let bytes = netstring message ++ netstring envelope in
      let x : Deed = Fed a own c message envelope in
      let g = begun_with c message envelope (history_of h) in
      let kf : Kept = kept.Feed a own c message envelope in
      let events : new.events ≡ old.events ++ kf ∷ [] = event ∙ ap (λ (k : Kept). old.events ++ k ∷ []) kept_is in
      let on = fed_on o old new plan a own c message envelope h playing goes events in
      let told = act_told a own on.0 on.2 in
      let unfiled : IsNoFile own.due = subst IsNoFile (sym due) tt in
      let at_w : IsNow (Act a own told.0 ∷ g) = subst (λ (e : Event). IsNow (e ∷ g)) told.1 on.1 in
      let now : IsNow (Act a own 0 ∷ g) = zero_passed o (crash_disk new.disk) new.events new.present a own told.0 g unfiled whole at_w in
      let living = lives_on o (crash_disk new.disk) new.events new.present a own g now in
      let alive = lived living.actor (Act a own 0) g now living.is living.alive c message envelope events in
      let own_so : own ≡ own_by s a (needs.Give (port.Program slot) bytes) got.Gave =
      mine ∙ ap (λ (d : NeedData). own_by s a d own.came) due ∙ ap (own_by s a (needs.Give (port.Program slot) bytes)) came in
      let does = feeds_next plan s (next_pid h) (counts_in h) a did.actor.program own slot c message envelope args runs mail own_so in
      record {
        deed = x;
        steps = steps_by (Happens x) alive (subst (λ (d : NeedData). DoesNext plan s (next_pid h) (counts_in h) a did.actor.program d (Happens x)) (sym due) does);
        playing = playing_push o old new plan (plan_left_of own.due own.came plan) kf x h playing events now refl (unplanned unfiled (by kf events)) whole tt (fed_so c args mail);
        living = living;
        idle = refl;
      }

  pub goes_by : IsKeptBy (known old.events) (kept_counts old.events) a own own.due own.came k → GoesBy o new plan a own h
  goes_by kept_as =
      by_case (kept_so (after o h) (counts_in h) a own own.due own.came k
      (subst (λ (n : Counts). IsKeptBy (after o h) n a own own.due own.came k) (counts_told old.events h playing.told)
      (kept_same (after o h) (known old.events) actors pipework (kept_counts old.events) a own own.due own.came k kept_as)))
    where
      by_case : IsKeptAs (after o h) (counts_in h) a own own.due own.came k → GoesBy o new plan a own h
      by_case (Acts plain is) = acts is plain
      by_case (Bears asked pid born starts started of is) = bears asked pid born starts started of is
      by_case (Feeds slot c message envelope args gives gave runs mail is) = feeds slot c message envelope args gives gave runs mail is

left_as : (d : Disk) (plan : Plan) (a : List ℕ) (x : Deed) (h : List Deed) (idle : Bool) → idle ≡ idles (after d h) (event_in x) → IsLiving (after d (x ∷ h)) a → IsLeftBy (stepped_by None idle) d plan a x h
left_as d plan a x h true is living = sym is
left_as d plan a x h false is living = (living, sym is)

-- Ends

end_actor : (s : State) (a : List ℕ) (life : Life) (x : Actor) → s.actors a ≡ Some x
    → (y : Actor) × ((finished s a life (s.actors a)).actors a ≡ Some y) × (y.life ≡ life)
end_actor s a life x is =
    subst (λ (o : Option Actor). (y : Actor) × ((finished s a life o).actors a ≡ Some y) × (y.life ≡ life)) (sym is)
    (_, put_at_same s.actors a _, refl)

pub stepped : (o : Disk) (old new : Seen Crash) (plan : Plan) (a : List ℕ) (ended : Option ℕ) (idle : Bool) (h : List Deed) → IsPlaying o old plan h
    → IsStep a ended old new → new.present ≡ old.present
    → ((event : Kept) → new.events ≡ old.events ++ event ∷ [] → idle ≡ has_idled (known old.events) event)
    → GoesOn tells old new → GoesByPlan crash_plan tells old.disk new.disk old.events new.events
    → ((before : List Kept) (newest : Kept) → new.events ≡ before ++ newest ∷ [] → false ≡ lacked_memory newest)
    → HasStepped o new a (stepped_by ended idle) plan h
stepped o old new plan a None idle h playing step same turn goes by memory =
    let own = step.0 in
    let k = step.1 in
    let before = known old.events in
    let done = goes_by o old new plan a own h playing step.2 k step.4 same goes by memory step.3 in
    let kept_as = kept_so before (kept_counts old.events) a own own.due own.came k step.3 in
    let idled = idled_same (after o h) before (actors_told o old.events (history_of h) playing.is.told) (pipework_told o old.events (history_of h) playing.is.told playing.whole) a own in
    record {
      deed = done.deed;
      steps = done.steps;
      playing = done.playing;
      over = left_as o (plan_by (event_in done.deed) plan) a done.deed h idle
          (turn k step.4 ∙ kept_idled before (kept_counts old.events) a own own.due own.came k kept_as ∙ sym idled ∙ sym done.idle)
          done.living;
    }
stepped o old new plan a (Some status) idle h playing step same turn goes by memory =
    let s = after o h in
    let p = old.present in
    let k : Kept = kept.End a p (found_in s a) status in
    let f : Event = End a p (found_in s a) status in
    let found = found_same s (known old.events) (actors_told o old.events (history_of h) playing.is.told) (pipework_told o old.events (history_of h) playing.is.told playing.whole) a in
    let event : new.events ≡ old.events ++ k ∷ [] = step.1 ∙ ap (λ ready. old.events ++ kept.End a p ready status ∷ []) (sym found) in
    let on = plain_on o old new plan k h playing goes tt event in
    let now : IsHistory o (crash_disk new.disk) new.events new.present (f ∷ history_of h) =
    subst (λ (e : Event). IsHistory o (crash_disk new.disk) new.events new.present (e ∷ history_of h)) (end_told a p (found_in s a) status on.0 on.2) on.1 in
    let may = now.legal.1 in
    let over = end_actor s a (Over status) may.actor may.reads.is in
    record {
      deed = Came f;
      steps = does_next o h plan a p may.actor (needs.Ended status) (Happens (Came f)) may.reads.is may.reads.alive playing.is.moment may.due
          (ap (λ q. Happens (Came (End a q (found_in s a) status))) (sym playing.is.moment));
      playing = playing_push o old new plan plan k (Came f) h playing event now refl (by k event ∙ playing.planned) tt tt tt;
      over = (over_gone o (Came f ∷ h) plan a over.0 over.1 (λ e. let both = sym over.2 ∙ e in absurd (cc)), refl);
    }
