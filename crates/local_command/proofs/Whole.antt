-- A whole delivery: the failures of its children were counted, and it ended so.
use Rattle.std.proofs.Common.{◌≡◌, ℕ, List, [], ◌∷◌, ◌++◌, Option, Some, None, Result, Ok, Err, refl, sym, ◌∙◌, subst, inl, inr, ⊎_elim, arith}
use Rattle.std.specs.declared.alloc.AllocError.{AllocError}
use Rattle.call_fs.specs.declared.past.ChildData.{ChildData}
use Rattle.call_fs.specs.declared.past.GotData.{GotData}
use Rattle.call_fs.specs.declared.past.GotData.TheVariants as got
use Rattle.call_fs.specs.declared.past.NeedData.{NeedData}
use Rattle.call_fs.specs.declared.past.NeedData.TheVariants as needs
use Rattle.call_fs.specs.declared.past.Own.{Own}
use Rattle.call_fs.specs.declared.program.Port.TheVariants as port
use Rattle.call_fs.specs.declared.program.Ready.{Ready}
use Rattle.call_fs.specs.declared.program.TheConstants.{INPUT_READY}
use Rattle.call_fs.specs.Past.{IsRunBy, taken}
use Rattle.local_parts.specs.declared.arguments.LocalArgs.{LocalArgs}
use Rattle.local_parts.specs.Inputs.{message_in}
use Rattle.local_deliver.specs.declared.machine.Local.{Local}
use Rattle.local_deliver.specs.Causes.{IsCausedBy}
use Rattle.local_deliver.specs.Stands.{Stands}
use Rattle.local_deliver.specs.Table.{Next}
use Rattle.mail_bytes.specs.Told.{Rose}
use Rattle.outside.specs.declared.sink.Gave.{Gave}
use Rattle.outside.specs.declared.sink.Gave.TheVariants as gave
use Rattle.outside.specs.declared.spawner.Started.{Started}
use Rattle.outside.specs.declared.spawner.Started.TheVariants as started
use Rattle.outside.specs.declared.spawner.Status.{Status}
use Rattle.outside.specs.declared.spawner.Status.TheVariants as status
use Rattle.outside.specs.Children.{Posted, SpawnCall}
use Rattle.outside.specs.Children.SpawnCall.{Start, Feed, Finish, AskStatus}
use Rattle.program_runner.specs.ChildWords.{words_of}
use Rattle.program_runner.specs.Lines.{HasOne, IsFailedCall, StartsBy, came_of_giving, came_of_start, came_of_status}
use Rattle.program_runner.specs.Outside.{Outside}
use Rattle.program_runner.specs.Runs.{HasEvent}
use Rattle.local_command.specs.Commands.{RunsCommand, shell}
use Rattle.local_command.specs.Commands.RunsCommand.{HasRun, NoMemory, Unstarted}
use Rattle.local_command.specs.Delivered.{FailsOverChild, IsOfChild, WasDelivered}
use Rattle.local_command.specs.Done.{AreServed, AsksInjector, Children, Deed, FeedsInjector, Serves, all_calls, events_of, injector_of}
use Rattle.local_command.specs.Running.{HasEnded, RanTo, status_of}
use Rattle.local_command.proofs.Complete.{goes_well}
use Rattle.local_command.proofs.Hindering.{hindered}
use Rattle.local_command.proofs.Runs.{nothing_done}

-- Failures of children were counted

failed_giving : (told : Gave) → came_of_giving told ≡ got.Failed → told ≡ gave.Failed
failed_giving gave.Failed is = refl
failed_giving gave.Done is = absurd (cc)

failed_start : (told : Started) → came_of_start told ≡ got.Failed → told ≡ started.Failed
failed_start started.Failed is = refl
failed_start started.Memory is = absurd (cc)
failed_start (started.Chan chan pid) is = absurd (cc)

failed_status : (told : Status) → came_of_status told ≡ got.Failed → told ≡ status.Failed
failed_status status.Failed is = refl
failed_status status.Crashed is = absurd (cc)
failed_status (status.Ended code) is = absurd (cc)

one_later : {X : Type 0} (P : X → Type 0) (a b : List X) → HasOne P b → HasOne P (a ++ b)
one_later P [] b h = h
one_later P (x ∷ a) b h = inr (one_later P a b h)

one_sooner : {X : Type 0} (P : X → Type 0) (a b : List X) → HasOne P a → HasOne P (a ++ b)
one_sooner P [] b h = absurd h
one_sooner P (x ∷ a) b (inl h) = inl h
one_sooner P (x ∷ a) b (inr h) = inr (one_sooner P a b h)

one_by : (calls given : List SpawnCall) → calls ≡ given → HasOne IsFailedCall given → HasOne IsFailedCall calls
one_by calls given is h = subst (HasOne IsFailedCall) (sym is) h

command_failed : (text body : List ℕ) (came : GotData) (asked : List Posted) (calls : List SpawnCall) → RunsCommand text body came asked calls → came ≡ got.Failed → HasOne IsFailedCall calls
command_failed text body came asked calls (Unstarted c a k) is = one_by calls (Start (shell text) started.Failed ∷ []) k (inl refl)
command_failed text body came asked calls (NoMemory c a k) is = absurd (cc)
command_failed text body came asked calls (HasRun r) is =
    one_by calls (Start (shell text) (started.Chan r.chan r.pid) ∷ (r.fed ++ (Finish r.chan ∷ (AskStatus r.chan r.ended ∷ [])))) r.calls_are
    (inr (one_later IsFailedCall r.fed (Finish r.chan ∷ (AskStatus r.chan r.ended ∷ [])) (inr (inl (failed_status r.ended (sym r.came_is ∙ is))))))

start_failed : (words : List (List ℕ)) (told : Started) (calls : List SpawnCall) → told ≡ started.Failed → StartsBy words told calls → HasOne IsFailedCall calls
start_failed words told calls is = ⊎_elim (λ e. one_by calls (Start words told ∷ []) e (inl is)) (λ m. let none = m.0 in absurd (cc))

feeding_failed : (chan : Option ℕ) (bytes : List ℕ) (came : GotData) (calls : List SpawnCall) → FeedsInjector chan bytes came calls → came ≡ got.Failed → HasOne IsFailedCall calls
feeding_failed None bytes came calls h is = absurd h
feeding_failed (Some chan) bytes came calls (told, c, k) is = one_by calls (Feed chan bytes told ∷ (Finish chan ∷ [])) k (inl (failed_giving told (sym c ∙ is)))

asking_failed : (chan : Option ℕ) (came : GotData) (asked : List Posted) (calls : List SpawnCall) → AsksInjector chan came asked calls → came ≡ got.Failed → HasOne IsFailedCall calls
asking_failed None came asked calls h is = absurd h
asking_failed (Some chan) came asked calls (awaits, (told, c, k)) is = one_by calls (AskStatus chan told ∷ []) k (inl (failed_status told (sym c ∙ is)))

served_failed : (words : ChildData → List (List ℕ)) (message : Option (List ℕ)) (chan : Option ℕ) (due : NeedData) (came : GotData) (asked : List Posted) (calls : List SpawnCall)
    → Serves words message chan due came asked calls → IsOfChild due → came ≡ got.Failed → HasOne IsFailedCall calls
served_failed words message chan (needs.Command text) came asked calls s of is = command_failed text s.body came asked calls s.runs is
served_failed words message chan (needs.Start child) came asked calls (a, (told, c, k)) of is = start_failed (words child) told calls (failed_start told (sym c ∙ is)) k
served_failed words message chan (needs.Give (port.Program slot) bytes) came asked calls (a, s) of is = feeding_failed chan bytes came calls s is
served_failed words message chan (needs.Take (port.Status slot)) came asked calls s of is = asking_failed chan came asked calls s is
served_failed words message chan due came asked calls s of is = absurd of

all_failed : (words : ChildData → List (List ℕ)) (deeds : List Deed) → AreServed words deeds → HasEvent (events_of deeds) FailsOverChild → HasOne IsFailedCall (all_calls deeds)
all_failed words [] served h = absurd h
all_failed words (deed ∷ before) served (inl h) =
    one_later IsFailedCall (all_calls before) deed.calls
    (served_failed words (message_in (taken (events_of before))) (injector_of before) deed.event.due deed.event.came deed.asked deed.calls served.1 h.due h.came)
all_failed words (deed ∷ before) served (inr h) = one_sooner IsFailedCall (all_calls before) deed.calls (all_failed words before served.0 h)

-- The whole command

abbrev pub HaveCauses : Type 0
HaveCauses = (args : LocalArgs) (past : List Own) (now : ℕ) (ready : Ready) (status : ℕ) → IsRunBy (Next args) past → Next args past now ready ≡ needs.Ended status → IsCausedBy args past status

module _ (words : ChildData → List (List ℕ)) (args : LocalArgs) (old new : Outside) (s w : Children) where
  delivered : (status : ℕ) → HasEnded words args old.last status old new s w → HaveCauses → WasDelivered words args old new s w status
  delivered status e causes =
      inl (record {
        ended = e;
        why = causes args (events_of e.deeds) e.read INPUT_READY status e.done.run e.ends;
        counted = λ h. e.done.spawner.cause (all_failed words e.deeds e.done.served h);
        complete = λ u calm. goes_well args (events_of e.deeds) u
            (λ h. calm.disk (subst (λ (o : Outside). Rose old.disk_faults o.disk_faults) (sym e.looks.rest) (e.done.did.disk_cause h)))
            (λ h. calm.input (subst (λ (o : Outside). Rose old.input_faults o.input_faults) (sym e.looks.rest) (e.done.did.input_cause h)))
            (λ h. calm.output (subst (λ (o : Outside). Rose old.output_faults o.output_faults) (sym e.looks.rest) (e.done.did.output_cause h)))
            (λ h. calm.spawner (e.done.spawner.cause (all_failed words e.deeds e.done.served h)))
            status (hindered args (events_of e.deeds) e.read INPUT_READY status e.done.run e.ends);
      })

  by_result : HaveCauses → (result : Result (Option ℕ) AllocError) → RanTo result words args old.last old new s w → WasDelivered words args old new s w (status_of result)
  by_result causes (Ok (Some status)) r = delivered status r causes
  by_result causes (Ok None) r = inr (refl, inr r)
  by_result causes (Err why) r = inr (refl, inl r)

-- a run whose forwards go into the queue in this directory
pub ran_so : (d e : List ℕ) → d ≡ e → (args : LocalArgs) (old new : Outside) (s w : Children) → HaveCauses
    → (result : Result (Option ℕ) AllocError) → RanTo result (words_of d []) args old.last old new s w
    → (status : ℕ) → status ≡ status_of result → WasDelivered (words_of e []) args old new s w status
ran_so d e dir args old new s w causes result r status is =
    subst (λ (x : List ℕ). WasDelivered (words_of x []) args old new s w status) dir
    (subst (λ (x : ℕ). WasDelivered (words_of d []) args old new s w x) (sym is) (by_result (words_of d []) args old new s w causes result r))

-- there was no memory to begin with
pub cut_at_once : (words : ChildData → List (List ℕ)) (args : LocalArgs) (o : Outside) (s : Children) → WasDelivered words args o o s s 51
cut_at_once words args o s = inr (refl, inl (record { deeds = []; done = nothing_done words args o.last o s (omega arith) }))

-- its arguments are these
pub stands_for : (m : Local) (a b : LocalArgs) → a ≡ b → Stands m a [] → Stands m b []
stands_for m a b is h = subst (λ (x : LocalArgs). Stands m x []) is h
