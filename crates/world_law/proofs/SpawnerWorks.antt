-- An event of the local spawner: it takes up a request, opens the file of its message, reads it and closes it, and is to start its delivery. So
-- it holds the message that was entered.
use Rattle.std.proofs.Common.{◌≡◌, ℕ, min, List, [], length, take, drop, true, false, Option, Some, refl, sym, ap, ◌∙◌, subst, codes}
use Rattle.call_fs.specs.Apply.{Fits, IsReadBy, from_place, read_by as read_there}
use Rattle.call_fs.specs.Disk.{Open}
use Rattle.call_fs.specs.declared.calls.Answer.{Answer}
use Rattle.call_fs.specs.declared.calls.Answer.TheVariants as answer
use Rattle.call_fs.specs.declared.calls.CallData.{CallData}
use Rattle.call_fs.specs.declared.calls.CallData.TheVariants as call
use Rattle.call_fs.specs.declared.calls.Fd.{Fd}
use Rattle.call_fs.specs.declared.calls.How.TheVariants as how
use Rattle.call_fs.specs.declared.calls.Told.{Told}
use Rattle.call_fs.specs.declared.file_system.TheConstants.{PIECE}
use Rattle.call_fs.specs.declared.past.GotData.{GotData}
use Rattle.call_fs.specs.declared.past.GotData.TheVariants as got
use Rattle.call_fs.specs.declared.past.NeedData.{NeedData}
use Rattle.call_fs.specs.declared.past.NeedData.TheVariants as needs
use Rattle.call_fs.specs.declared.past.Own.{Own}
use Rattle.call_fs.specs.declared.program.Port.TheVariants as port
use Rattle.local_spawn.specs.declared.place.Place.{Place as LocalPlace}
use Rattle.local_spawn.specs.declared.row.Row.{Row as LocalRow}
use Rattle.local_spawn.specs.declared.row.Row.TheVariants as local
use Rattle.local_spawn.specs.Deliveries.{crashed, delivery_for, local_report, refusal}
use Rattle.local_spawn.specs.Table.{act as local_act, due_at as local_due_at, due_by, due_from, local_kind, moved, place_after, program_of, readied_by, users_closed, users_opened, users_read}
use Rattle.program_law.specs.Post.Posts.{Task, goes_at, tasks_by}
use Rattle.queue_inject.specs.Texts.{entered}
use Rattle.queue_law.specs.Books.{Books, Injection}
use Rattle.queue_law.specs.Injectors.{IsHeld}
use Rattle.queue_law.specs.Numbers.{Queue}
use Rattle.queue_law.specs.Senders.{called_queue}
use Rattle.queue_law.proofs.Opens.{held_on, opened_held}
use Rattle.queue_paths.specs.Names.{path, split_text}
use Rattle.queue_paths.specs.Names.Name.{Of}
use Rattle.queue_paths.specs.Names.Part.{Mess}
use Rattle.queue_states.specs.declared.state.State.TheVariants.{S5}
use Rattle.queue_states.specs.States.{state_of}
use Rattle.spawner_parts.specs.declared.place.Place.{Place}
use Rattle.spawner_parts.specs.declared.row.Row.{Row}
use Rattle.spawner_parts.specs.declared.row.Row.TheVariants as at
use Rattle.spawner_parts.specs.Asked.{name_of_mess}
use Rattle.spawner_parts.specs.Table.{act, answers, arrive, exited, fed, gave, greeting, launched, opened_by, printed, read_by, row_now, status_of, took, unable}
use Rattle.world_events.specs.declared.event.Program.TheVariants.{LocalSpawner}
use Rattle.mail_world.specs.History.{ComesOf, State, acted, bouncer_of}
use Rattle.mail_world.specs.Untouched.{queue}
use Rattle.world_law.specs.Entered.{IsEntered}
use Rattle.world_law.specs.Fares.{HoldsUsers, LspawnHolds}
use Rattle.world_law.specs.Inv.{Inv}
use Rattle.world_law.proofs.EnteredFlights.{one_number}
use Rattle.world_law.proofs.EnteredStands.{Begins, HoldsMessage, has_message, reads}
use Rattle.world_law.proofs.MessageSteps.{HasFile, IsReadOn, has_file, read_on_so}
use Rattle.world_law.proofs.PostServes.{spawner, starts_none}
use Rattle.world_law.proofs.Received.{books_same}
use Rattle.world_law.proofs.SpawnedRuns.{closed_work, opened_work, read_work}
use Rattle.world_law.proofs.Spawners.{answered}
use Rattle.world_law.proofs.SpawnerLeads.{IsAsked, Leads, at_none, at_row, exited_leads, fed_leads, gave_leads, launched_leads}
use Rattle.world_law.proofs.SpawnerLeads.{opened_leads, printed_leads, read_leads, readied_leads, text_at, took_leads}

-- Its file calls

-- the name of the file
mess_name : (n : ℕ) → name_of_mess (split_text n) ≡ path (Of Mess n)
unfolding path
mess_name n = refl

same_number : (n m : ℕ) → ◌≡◌ {A = Option ℕ} (Some n) (Some m) → n ≡ m
same_number n m e = cc

-- an opened file is read by the new descriptor
module _ (q : Queue) (a : List ℕ) (read wrote : ℕ) (text : List ℕ) (n : ℕ) (there : q.disk.names text ≡ Some n) where
  abbrev Reads : Answer → Fd → ℕ → Type 0
  Reads told fd k =
      IsHeld (called_queue q a read (call.Open text how.Read) told wrote q.role).disk.opens (called_queue q a read (call.Open text how.Read) told wrote q.role).holder a fd.0 (reads k)

  opened_reads : (told : Answer) → Fits q.disk (call.Open text how.Read) told wrote → (fd : Fd) → told ≡ answer.Opened fd → Reads told fd n
  opened_reads told fits fd is =
      let w = opened_held q a read text how.Read fd wrote (subst (λ (z : Answer). Fits q.disk (call.Open text how.Read) z wrote) is fits) in
      subst (λ (z : Answer). Reads z fd n) (sym is) (subst (λ (k : ℕ). Reads (answer.Opened fd) fd k) (same_number w.0 n (sym w.1 ∙ there)) w.2)

same_injection : (i j : Injection) → ◌≡◌ {A = Option Injection} (Some i) (Some j) → i ≡ j
same_injection i j e = cc

-- one message was entered of a number
same_entered : (s : State) (n : ℕ) (one two : List ℕ) → IsEntered s n one → IsEntered s n two → one ≡ two
same_entered s n one two h k = h.text ∙ ap (λ (i : Injection). entered i.args) (same_injection h.injection k.injection (sym h.lives ∙ k.lives)) ∙ sym k.text

-- The state after an event, by what was due and what came

module _ (s : State) (own : Own) (wrote began : ℕ) (past : List Own) where
  abbrev pub doing : NeedData → GotData → Own
  doing due came = record { read = own.read; ready = own.ready; due = due; came = came }

  abbrev pub then_of : NeedData → GotData → State
  then_of due came = acted s (codes "lspawn") (doing due came) wrote (Some (spawner began past))

  pub entered_then : (due : NeedData) (came : GotData) (n : ℕ) (message : List ℕ) → IsEntered s n message → IsEntered (then_of due came) n message
  entered_then due came n message h = record {
    injection = h.injection;
    lives = ap (λ (b : Books). b.living n) (books_same (bouncer_of s (codes "lspawn")) (codes "lspawn") s.books (LocalSpawner began) tt past own.read own.ready due came) ∙ h.lives;
    accepted = h.accepted;
    text = h.text;
  }

module _ (s : State) (I : Inv s) (own : Own) (wrote began : ℕ) (past : List Own) (is : s.actors (codes "lspawn") ≡ Some (spawner began past)) where
  abbrev name : List ℕ
  name = codes "lspawn"

  abbrev here : LocalPlace
  here = place_after past

  abbrev p : Place
  p = here.work

  abbrev q : Queue
  q = queue s I.role

  fares : LspawnHolds q name here
  fares = I.fares name (spawner began past) is

  abbrev Comes : NeedData → Type 0
  Comes due = ComesOf s name due own.came wrote

  -- one with an event goes on

  row_goes : (row : Row) → Comes (due_from (arrive row p own.ready) here) → goes_at true row ≡ true
  row_goes (at.Ended status) c = absurd c
  row_goes row c = refl

  local_goes : (row : LocalRow) → HoldsUsers q name row p.row → Comes (local_due_at row own.ready here) → goes_at true p.row ≡ true
  local_goes local.OpenUsers h c = ap (goes_at true) h
  local_goes (local.ReadUsers fd) h c = ap (goes_at true) h.1
  local_goes (local.CloseUsers fd whole) h c = ap (goes_at true) h.1
  local_goes local.Serves h c = row_goes p.row c
  local_goes local.OutOfMemory h c = absurd c

  pub goes_before : due_by here own.ready ≡ own.due → Comes own.due → goes_at true p.row ≡ true
  goes_before due comes = local_goes here.row fares (subst Comes (sym due) comes)

  -- Where it leads, with what is held of the request at work

  module _ (tasks : ℕ → Option Task) (work : has_message p.row ≡ true → HoldsMessage s tasks p) (asked : has_message p.row ≡ true → IsAsked s p.request) where
    abbrev then_by : NeedData → GotData → State
    then_by due came = then_of s own wrote began past due came

    abbrev tasks_of : NeedData → GotData → ℕ → Option Task
    tasks_of due came = tasks_by due came [] tasks

    abbrev LeadsBy : NeedData → GotData → Place → Type 0
    LeadsBy due came to = Leads (then_by due came) (tasks_of due came) p.running to

    entered_by : (due : NeedData) (came : GotData) (n : ℕ) (message : List ℕ) → IsEntered s n message → IsEntered (then_by due came) n message
    entered_by due came n message h = entered_then s own wrote began past due came n message h

    -- it opens the file
    abbrev open_call : CallData
    open_call = call.Open p.name how.Read

    opening : (told : Told) → p.row ≡ at.OpenMess → Fits s.disk open_call told.answer wrote → LeadsBy (needs.File open_call) (got.Answered told) (opened_by told.answer p)
    opening told e fits =
        let a = asked (ap has_message e) in
        let h = text_at s tasks p at.OpenMess e (work (ap has_message e)) in
        let file = has_file s I a.n a.stays in
        let found : s.disk.names p.name ≡ Some a.n = ap s.disk.names (h.0 ∙ ap name_of_mess a.mess ∙ mess_name a.n) ∙ file.there in
        opened_leads (then_by (needs.File open_call) (got.Answered told)) (tasks_of (needs.File open_call) (got.Answered told)) a.n file.message
        (entered_by (needs.File open_call) (got.Answered told) a.n file.message file.is) told.answer p a.mess (opened_reads q name own.read wrote p.name a.n found told.answer fits) h.1

    -- reads a piece of it
    module _ (fd : Fd) where
      abbrev read_call : CallData
      read_call = call.ReadAt fd (length p.message) PIECE

      rest_is : has_message p.row ≡ true → (h : HoldsMessage s tasks p) → IsHeld s.disk.opens s.holder name fd.0 (reads h.n)
          → from_place s.disk (s.disk.opens fd.0) (length p.message) ≡ drop (length p.message) h.message
      rest_is has h held =
          let a = asked has in
          let stays : state_of s.disk h.n ≡ S5 = subst (λ (k : ℕ). state_of s.disk k ≡ S5) (one_number a.n h.n (sym a.mess ∙ h.mess)) a.stays in
          let file = has_file s I h.n stays in
          ap (λ (o : Option Open). from_place s.disk o (length p.message)) held.opened ∙ ap (drop (length p.message)) (file.reads ∙ same_entered s h.n file.message h.message file.is h.is)

      pieces : (told : Told) (text : List ℕ) → from_place s.disk (s.disk.opens fd.0) (length p.message) ≡ drop (length p.message) text → Begins p.message text
          → Fits s.disk read_call told.answer wrote → IsReadBy s.disk read_call told → (count : ℕ) → told.answer ≡ answer.Count count → IsReadOn p.message told.bytes text PIECE
      pieces told text rest begins fits bytes count counted =
          let size = (subst (λ (z : Answer). Fits s.disk read_call z wrote) counted fits).1 in
          let are : told.bytes ≡ take count (from_place s.disk (s.disk.opens fd.0) (length p.message)) = bytes ∙ ap (read_there s.disk (s.disk.opens fd.0) (length p.message)) counted in
          read_on_so p.message told.bytes text PIECE count begins (size ∙ ap (λ (z : List ℕ). min PIECE (length z)) rest) (are ∙ ap (take count) rest)

      reading : (told : Told) → p.row ≡ at.ReadMess fd → Fits s.disk read_call told.answer wrote → IsReadBy s.disk read_call told
          → LeadsBy (needs.File read_call) (got.Answered told) (read_by fd told.answer told.bytes p)
      reading told e fits bytes =
          let h = work (ap has_message e) in
          let text = text_at s tasks p (at.ReadMess fd) e h in
          read_leads (then_by (needs.File read_call) (got.Answered told)) (tasks_of (needs.File read_call) (got.Answered told)) h.n h.message
          (entered_by (needs.File read_call) (got.Answered told) h.n h.message h.is) fd told.answer told.bytes p h.mess
          (held_on q name own.read read_call told.answer wrote tt fits fd.0 (reads h.n) text.0 (λ f shut. absurd (cc)))
          (pieces told h.message (rest_is (ap has_message e) h text.0) text.1 fits bytes)

    -- has read all of it
    closing : (fd : Fd) → p.row ≡ at.CloseMess fd true → LeadsBy (needs.File (call.Close fd)) own.came (readied_by (delivery_for here.users p.request) (refusal here.users) p)
    closing fd e =
        let h = work (ap has_message e) in
        readied_leads (then_by (needs.File (call.Close fd)) own.came) (tasks_of (needs.File (call.Close fd)) own.came) h.n h.message
        (entered_by (needs.File (call.Close fd)) own.came h.n h.message h.is) (delivery_for here.users p.request) (refusal here.users) p h.mess (text_at s tasks p (at.CloseMess fd true) e h)

    -- By its row

    abbrev Goes : NeedData → Place → Type 0
    Goes z to = Inv (then_by z own.came) → LeadsBy z own.came to

    -- whatever was due
    leads_so : (z : NeedData) (to : Place) → ((t : State) (k : ℕ → Option Task) → ((n : ℕ) → state_of t.disk n ≡ S5 → HasFile t n) → Leads t k p.running to) → Goes z to
    leads_so z to go = λ J. go (then_by z own.came) (tasks_of z own.came) (has_file (then_by z own.came) J)

    by_row : (row : Row) → row_now p own.ready ≡ row → Comes (due_from row here) → Goes (due_from row here) (act (local_kind here.users) row own.came p)
    by_row at.Greet e c = leads_so (needs.Give port.Output greeting) (gave own.came p) (λ t k files. gave_leads t k files own.came p)
    by_row at.Idle e c = absurd c
    by_row at.TakeInput e c = leads_so (needs.Take port.Input) (took own.came p) (λ t k files. took_leads t k files own.came p)
    by_row at.OpenMess e c = λ J. answered s name wrote (λ (g : GotData). LeadsBy (needs.File open_call) g (act (local_kind here.users) at.OpenMess g p)) open_call own.came c
        (λ told fits. opening told (at_row at.OpenMess p own.ready e refl) fits.0)
    by_row (at.ReadMess fd) e c = λ J. answered s name wrote (λ (g : GotData). LeadsBy (needs.File (read_call fd)) g (act (local_kind here.users) (at.ReadMess fd) g p)) (read_call fd) own.came c
        (λ told fits. reading fd told (at_row (at.ReadMess fd) p own.ready e refl) fits.0 fits.1)
    by_row (at.CloseMess fd true) e c = λ J. closing fd (at_row (at.CloseMess fd true) p own.ready e refl)
    by_row (at.CloseMess fd false) e c = leads_so (needs.File (call.Close fd)) (answers unable p) (λ t k files. at_none t k p.running (answers unable p) (λ slot run. run) refl)
    by_row at.Start e c = leads_so (needs.Start (program_of here)) (launched crashed own.came p)
        (λ t k files. launched_leads t k (program_of here) crashed own.came p (starts_none s name (needs.Start (program_of here)) own.came wrote tt c))
    by_row at.Feed e c = leads_so (needs.Give (port.Program p.request.slot) p.message) (fed p) (λ t k files. fed_leads t k files p)
    by_row (at.TakeOutput slot) e c = leads_so (needs.Take (port.Program slot)) (printed slot own.came p) (λ t k files. printed_leads t k slot own.came p)
    by_row (at.TakeStatus slot) e c = leads_so (needs.Take (port.Status slot)) (exited slot (local_report (status_of own.came) p.output) p)
        (λ t k files. exited_leads t k slot (local_report (status_of own.came) p.output) p)
    by_row at.Report e c = leads_so (needs.Give port.Output p.report) (gave own.came p) (λ t k files. gave_leads t k files own.came p)
    by_row (at.Ended status) e c = absurd c

    -- in its start
    greets : (z : NeedData) (to : Place) → to ≡ p → p.row ≡ at.Greet → Goes z to
    greets z to same greet = λ J. subst (LeadsBy z own.came) (sym same) (at_none (then_by z own.came) (tasks_of z own.came) p.running p (λ slot run. run) (ap has_message greet))

    by_local : (row : LocalRow) → HoldsUsers q name row p.row → Comes (local_due_at row own.ready here)
        → Goes (local_due_at row own.ready here) (local_act row own.ready own.came here).work
    by_local local.OpenUsers h c = greets (local_due_at local.OpenUsers own.ready here) (users_opened own.came here).work (opened_work own.came here) h
    by_local (local.ReadUsers fd) h c = greets (local_due_at (local.ReadUsers fd) own.ready here) (users_read fd own.came here).work (read_work fd own.came here) h.1
    by_local (local.CloseUsers fd whole) h c = greets (local_due_at (local.CloseUsers fd whole) own.ready here) (users_closed whole here).work (closed_work whole here) h.1
    by_local local.Serves h c = by_row (row_now p own.ready) refl c
    by_local local.OutOfMemory h c = absurd c

    pub leads : due_by here own.ready ≡ own.due → Comes own.due → Inv (then_by own.due own.came) → LeadsBy own.due own.came (moved here own).work
    leads due comes = subst (λ (z : NeedData). Goes z (moved here own).work) due (by_local here.row fares (subst Comes (sym due) comes))
