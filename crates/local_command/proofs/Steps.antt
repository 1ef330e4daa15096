-- One event.
use Rattle.std.proofs.Common.{◌≡◌, ◌≢◌, ℕ, ◌≤◌, List, [], ◌∷◌, Option, Some, None, Result, Ok, Err, IsErr, refl, sym, ap, ◌∙◌, subst}
use Rattle.std.specs.declared.alloc.AllocError.{AllocError}
use Rattle.call_fs.specs.declared.calls.Call.{Call}
use Rattle.call_fs.specs.declared.calls.CallData.{CallData}
use Rattle.call_fs.specs.declared.past.ChildData.{ChildData}
use Rattle.call_fs.specs.declared.past.GotData.{GotData}
use Rattle.call_fs.specs.declared.past.NeedData.{NeedData}
use Rattle.call_fs.specs.declared.past.NeedData.TheVariants as needs
use Rattle.call_fs.specs.declared.past.Own.{Own}
use Rattle.call_fs.specs.declared.program.Need.{Need}
use Rattle.call_fs.specs.declared.program.Need.TheVariants as lent
use Rattle.call_fs.specs.declared.program.Port.TheVariants as port
use Rattle.call_fs.specs.declared.program.Ready.{Ready}
use Rattle.call_fs.specs.declared.program.TheConstants.{INPUT_READY}
use Rattle.call_fs.specs.Disk.{Disk}
use Rattle.call_fs.specs.Past.{IsRunBy, Makes, UsesHeld, held, kept_as, taken}
use Rattle.call_fs.specs.Program.{IsKind, MayCome, due_of}
use Rattle.local_parts.specs.declared.arguments.LocalArgs.{LocalArgs}
use Rattle.local_parts.specs.Inputs.{message_in}
use Rattle.local_deliver.specs.declared.machine.Local.{Local}
use Rattle.local_deliver.specs.Asked.{IsAsked}
use Rattle.local_deliver.specs.Stands.{Stands}
use Rattle.local_deliver.specs.Table.{Next, place_after}
use Rattle.mail_bytes.specs.Moments.{IsMoment}
use Rattle.mail_bytes.specs.Told.{Records}
use Rattle.outside.specs.Children.{Posted, SpawnCall}
use Rattle.program_runner.specs.Outside.{Does, Outside}
use Rattle.program_runner.specs.Runs.{GoesOn}
use Rattle.program_runner.proofs.Members.{answered_nothing}
use Rattle.program_runner.proofs.Serves.{asked_nothing}
use Rattle.program_runner.proofs.Turns.{does_beside, due_at, stands_at}
use Rattle.local_command.specs.Done.{Children, Serves}
use Rattle.local_command.specs.Serving.{Goes, HasInjector, HasServed, IsStep, MayGoOn, MayServe, Moves}

-- What is due

module _ (before looked : LocalArgs → List Own → Type 0) (chan : Option ℕ) (disk : Option Disk) (present : ℕ) (found : Ready) (t : MayGoOn before chan disk)
    (looks : (args : LocalArgs) (past : List Own) → before args past → looked args past) where
  -- it uses what is held
  pub uses_now : (asked : NeedData) → ((args : LocalArgs) (past : List Own) → looked args past → asked ≡ Next args past present found)
      → ((args : LocalArgs) (past : List Own) (now : ℕ) (r : Ready) → IsRunBy (Next args) past → UsesHeld (held past) (Next args past now r)) → UsesHeld (held t.past) asked
  uses_now asked says uses = subst (UsesHeld (held t.past)) (sym (says t.args t.past (looks t.args t.past t.is))) (uses t.args t.past present found t.run)

  -- it may be served, if it is no file call and no end
  pub may_serve_now : (n : Need) → ((args : LocalArgs) (past : List Own) → looked args past → due_of n ≡ Next args past present found)
      → ((args : LocalArgs) (past : List Own) (now : ℕ) (r : Ready) → IsRunBy (Next args) past → IsAsked (Next args past now r))
      → ((c : Call) → n ≢ lent.File c) → ((s : ℕ) → n ≢ lent.Ended s) → MayServe chan (due_of n)
  may_serve_now n says asks no_file no_end =
      let is = says t.args t.past (looks t.args t.past t.is) in
      by n (subst IsAsked (sym is) (asks t.args t.past present found t.run)) (subst (HasInjector chan) (sym is) (t.injector present found)) no_file no_end where
        by : (n : Need) → IsAsked (due_of n) → HasInjector chan (due_of n) → ((c : Call) → n ≢ lent.File c) → ((s : ℕ) → n ≢ lent.Ended s) → MayServe chan (due_of n)
        by (lent.File c) a h no_file no_end = absurd (no_file c refl)
        by (lent.Take port.Input) a h no_file no_end = tt
        by (lent.Take (port.Status slot)) a h no_file no_end = h
        by (lent.Take other) a h no_file no_end = absurd a
        by (lent.Give port.Output bytes) a h no_file no_end = tt
        by (lent.Give (port.Program slot) bytes) a h no_file no_end = h
        by (lent.Give other bytes) a h no_file no_end = absurd a
        by (lent.Start child) a h no_file no_end = tt
        by (lent.Command text) a h no_file no_end = tt
        by lent.Wait a h no_file no_end = absurd a
        by (lent.Ended status) a h no_file no_end = absurd (no_end status refl)

pub kind_of : (chan : Option ℕ) (due : NeedData) (came : GotData) → MayServe chan due → MayCome due came → IsKind due came
kind_of chan (needs.Take p) came may h = h
kind_of chan (needs.Give p bytes) came may h = h
kind_of chan (needs.Start child) came may h = h
kind_of chan (needs.Command text) came may h = h
kind_of chan (needs.File call) came may h = absurd may
kind_of chan needs.Wait came may h = absurd may
kind_of chan (needs.Ended status) came may h = absurd may

-- What an event did outside that was served

rests : (chan : Option ℕ) (due : NeedData) (came : GotData) → MayServe chan due → (read : ℕ) → ((d : Disk) → Makes d read due came d) × (kept_as due came ≡ []) × ((c : CallData) → due ≢ needs.File c)
rests chan (needs.Take p) came may read = (λ d. refl, refl, λ c is. cc)
rests chan (needs.Give p bytes) came may read = (λ d. refl, refl, λ c is. cc)
rests chan (needs.Start child) came may read = (λ d. refl, refl, λ c is. cc)
rests chan (needs.Command text) came may read = (λ d. refl, refl, λ c is. cc)
rests chan (needs.File call) came may read = absurd may
rests chan needs.Wait came may read = absurd may
rests chan (needs.Ended status) came may read = absurd may

pub does_served : (old new : Outside) (read : ℕ) (ready : Ready) → IsMoment read → old.last ≤ read → new.last ≡ read → Records old.moments new.moments read
    → (chan : Option ℕ) (due : NeedData) (came : GotData) → MayServe chan due → new.disk ≡ old.disk → new.calls ≡ old.calls → new.disk_faults ≡ old.disk_faults
    → Moves due came (record { left = old.left; input_faults = old.input_faults; taken = old.taken; output_faults = old.output_faults })
    (record { left = new.left; input_faults = new.input_faults; taken = new.taken; output_faults = new.output_faults })
    → Does (record { read = read; ready = ready; due = due; came = came }) old new
does_served old new read ready moment later last moments chan due came may disk calls faults m =
    does_beside old new read ready moment later last moments due came (rests chan due came may read) disk calls faults
    (record { read = read; ready = ready; due = due; came = came }) refl
    (m.left read ready) m.input_counts (λ h. m.input_cause h.due h.came) (m.taken read ready) m.output_counts (λ h. m.output_cause h.bytes h.due h.came)

-- The message that a command gets

serves_for : (words : ChildData → List (List ℕ)) (m : Option (List ℕ)) (body : List ℕ) (chan : Option ℕ) (due : NeedData) (came : GotData) (asked : List Posted) (calls : List SpawnCall)
    → ((text : List ℕ) → due ≡ needs.Command text → m ≡ Some body) → Serves words (Some body) chan due came asked calls → Serves words m chan due came asked calls
serves_for words m body chan (needs.Command text) came asked calls is h = record { body = h.body; message_is = is text refl ∙ h.message_is; runs = h.runs }
serves_for words m body chan (needs.Start child) came asked calls is h = h
serves_for words m body chan (needs.Give port.Input bytes) came asked calls is h = h
serves_for words m body chan (needs.Give port.Output bytes) came asked calls is h = h
serves_for words m body chan (needs.Give port.Clean bytes) came asked calls is h = h
serves_for words m body chan (needs.Give port.Lspawn bytes) came asked calls is h = h
serves_for words m body chan (needs.Give port.Rspawn bytes) came asked calls is h = h
serves_for words m body chan (needs.Give port.Todo bytes) came asked calls is h = h
serves_for words m body chan (needs.Give (port.Program slot) bytes) came asked calls is h = h
serves_for words m body chan (needs.Give (port.Status slot) bytes) came asked calls is h = h
serves_for words m body chan (needs.Take port.Input) came asked calls is h = h
serves_for words m body chan (needs.Take port.Output) came asked calls is h = h
serves_for words m body chan (needs.Take port.Clean) came asked calls is h = h
serves_for words m body chan (needs.Take port.Lspawn) came asked calls is h = h
serves_for words m body chan (needs.Take port.Rspawn) came asked calls is h = h
serves_for words m body chan (needs.Take port.Todo) came asked calls is h = h
serves_for words m body chan (needs.Take (port.Program slot)) came asked calls is h = h
serves_for words m body chan (needs.Take (port.Status slot)) came asked calls is h = h
serves_for words m body chan (needs.File call) came asked calls is h = h
serves_for words m body chan needs.Wait came asked calls is h = h
serves_for words m body chan (needs.Ended status) came asked calls is h = h

-- One event

-- a delivery that looked, and then was told what came of its need
module _ (words : ChildData → List (List ℕ)) (was looked : Local) (now : ℕ) (asked held : NeedData)
    (looks : (args : LocalArgs) (past : List Own) → Stands was args past → Stands looked args past) (is_looked : looked ≡ record was { present = now; ready = INPUT_READY }) (asked_is : asked ≡ held)
    (says : (args : LocalArgs) (past : List Own) → Stands looked args past → asked ≡ Next args past looked.present looked.ready)
    (message_law : (args : LocalArgs) (past : List Own) (now : ℕ) (ready : Ready) (text : List ℕ) → IsRunBy (Next args) past → Next args past now ready ≡ needs.Command text
    → message_in (taken past) ≡ Some (place_after args past).message) where
  present_is : looked.present ≡ now
  present_is = ap (λ (m : Local). m.present) is_looked

  found_is : looked.ready ≡ INPUT_READY
  found_is = ap (λ (m : Local). m.ready) is_looked

  module _ (after : LocalArgs → List Own → Type 0) (came : GotData)
      (done : (args : LocalArgs) (past : List Own) → Stands looked args past → after args (record { read = looked.present; ready = looked.ready; due = held; came = came } ∷ past)) where
    abbrev on_by : (due : NeedData) (old new : Outside) → asked ≡ due → MayCome due came → Does (record { read = now; ready = INPUT_READY; due = due; came = came }) old new
        → GoesOn Next (Stands was) after (λ read ready came. Unit {0}) INPUT_READY old new
    on_by due old new is may does = record {
      event = record { read = now; ready = INPUT_READY; due = due; came = came };
      found = refl;
      due = λ args past b.
          due_at Next (Stands was) (Stands looked) after looked.present now looked.ready INPUT_READY held asked came looks present_is found_is asked_is says done args past b ∙ is;
      stands = λ args past b. subst (λ (d : NeedData). after args (record { read = now; ready = INPUT_READY; due = d; came = came } ∷ past)) is
          (stands_at Next (Stands was) (Stands looked) after looked.present now looked.ready INPUT_READY held asked came looks present_is found_is asked_is says done args past b);
      came = may;
      changed = tt;
      does = does;
    }

    -- a file call
    pub calls_file : (c : CallData) (chan : Option ℕ) (old new : Outside) (s : Children) → asked ≡ needs.File c → MayCome (needs.File c) came
        → Does (record { read = now; ready = INPUT_READY; due = needs.File c; came = came }) old new → Goes words (Stands was) after chan chan old new s s
    calls_file c chan old new s is may does = record {
      on = on_by (needs.File c) old new is may does;
      asked = [];
      calls = [];
      serves = λ args past b run. (refl, refl);
      channel = refl;
      posts = answered_nothing s.posts;
      spawner = asked_nothing s.spawner;
    }

    -- anything else
    pub serves_need : (chan next : Option ℕ) (old new : Outside) (s t : Children) (message : List ℕ) → message ≡ looked.place.message → HasServed words message chan next asked came s t
        → Does (record { read = now; ready = INPUT_READY; due = asked; came = came }) old new → Goes words (Stands was) after chan next old new s t
    serves_need chan next old new s t message is h does = record {
      on = on_by asked old new refl h.may does;
      asked = h.asked;
      calls = h.calls;
      serves = λ args past b run. serves_for words (message_in (taken past)) message chan asked came h.asked h.calls
          (λ text e. message_law args past looked.present looked.ready text run (sym (says args past (looks args past b)) ∙ e)
          ∙ ap Some (sym (is ∙ ap (λ p. p.message) (looks args past b).place_is))) h.serves;
      channel = h.channel;
      posts = h.posts;
      spawner = h.spawner;
    }

-- out of memory
pub step_cut : (words : ChildData → List (List ℕ)) (before after : LocalArgs → List Own → Type 0) (chan next : Option ℕ) (result : Result (Option ℕ) AllocError) (old new : Outside) (s t : Children)
    → IsErr result → Goes words before (λ args past. Unit {0}) chan next old new s t → IsStep words before after chan next result old new s t
step_cut words before after chan next (Err why) old new s t e h = h
step_cut words before after chan next (Ok None) old new s t e h = absurd (cc)
step_cut words before after chan next (Ok (Some status)) old new s t e h = absurd (cc)
