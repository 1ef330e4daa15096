-- The events of the local spawner: it reads users/assign, and then serves requests as any spawner.
use Rattle.std.proofs.Common.{◌≡◌, ℕ, List, [], length, Bool, true, false, Option, Some, None, refl, sym, subst, codes, if◌then◌else◌}
use Rattle.std.specs.Prelude.{nat_lt}
use Rattle.call_fs.specs.Apply.{Fits}
use Rattle.call_fs.specs.declared.calls.Answer.{Answer}
use Rattle.call_fs.specs.declared.calls.Answer.TheVariants as answer
use Rattle.call_fs.specs.declared.calls.CallData.{CallData}
use Rattle.call_fs.specs.declared.calls.CallData.TheVariants as call
use Rattle.call_fs.specs.declared.calls.Fd.{Fd}
use Rattle.call_fs.specs.declared.calls.FsError.TheVariants as why
use Rattle.call_fs.specs.declared.calls.How.TheVariants as how
use Rattle.call_fs.specs.declared.calls.Told.{Told}
use Rattle.call_fs.specs.declared.file_system.TheConstants.{PIECE}
use Rattle.call_fs.specs.declared.past.ChildData.{ChildData}
use Rattle.call_fs.specs.declared.past.GotData.{GotData}
use Rattle.call_fs.specs.declared.past.GotData.TheVariants as got
use Rattle.call_fs.specs.declared.past.NeedData.{NeedData}
use Rattle.call_fs.specs.declared.past.NeedData.TheVariants as needs
use Rattle.call_fs.specs.declared.past.Own.{Own}
use Rattle.call_fs.specs.declared.program.Ready.{Ready}
use Rattle.local_spawn.specs.declared.assign.Assignment.{Assignment}
use Rattle.local_spawn.specs.declared.place.Place.{Place}
use Rattle.local_spawn.specs.declared.row.Row.{Row}
use Rattle.local_spawn.specs.declared.row.Row.TheVariants as at
use Rattle.local_spawn.specs.Table.{act, due_at, local_kind, place_after, program_of, serves as knows, users_closed, users_name, users_opened_by, users_read_by}
use Rattle.local_spawn.specs.Users.{users_in}
use Rattle.local_spawn.proofs.Tells.{is_kind}
use Rattle.queue_law.specs.Numbers.{Queue}
use Rattle.queue_law.specs.Passes.{HasOpen}
use Rattle.queue_law.specs.Senders.{OnlyReads, called_queue}
use Rattle.queue_law.proofs.Opens.{opened_held}
use Rattle.send_known.specs.declared.channel.Channel.TheVariants.{Local}
use Rattle.spawner_parts.specs.declared.row.Row.TheVariants as work_at
use Rattle.spawner_parts.specs.Table.{act as work_act, row_now}
use Rattle.world_events.specs.declared.event.Program.{Program}
use Rattle.world_events.specs.declared.event.Program.TheVariants.{LocalSpawner}
use Rattle.mail_world.specs.History.{Actor, Life, State, ComesOf, IsLocalSpawner, acted, next_of}
use Rattle.mail_world.specs.History.Life.{Alive}
use Rattle.mail_world.specs.Untouched.{queue}
use Rattle.world_law.specs.Crew.{IsNamed}
use Rattle.world_law.specs.Fares.{HoldsUsers, LspawnHolds, SpawnerHolds}
use Rattle.world_law.specs.Inv.{Inv}
use Rattle.world_law.specs.Laws.{LocalsKeep}
use Rattle.world_law.proofs.Spawners.{OnlyReadsOf, arrive_holds, only_reads, reads, serves, start_row, starting, then_state}

-- Its file calls only read

module _ (q : Queue) (a : List ℕ) (p : Place) (ready : Ready) (c : CallData) where
  reads_at : (row : Row) → HoldsUsers q a row p.work.row → due_at row ready p ≡ needs.File c → OnlyReads q a c
  reads_at at.OpenUsers h due = subst (OnlyReadsOf q a) due tt
  reads_at (at.ReadUsers fd) h due = subst (OnlyReadsOf q a) due tt
  reads_at (at.CloseUsers fd whole) h due = subst (OnlyReadsOf q a) due h.0.1.held
  reads_at at.Serves h due = only_reads q a (program_of p) (row_now p.work ready) p.work c (arrive_holds q a p.work.row p.work ready h) due
  reads_at at.OutOfMemory h due = absurd (cc)

  pub local_reads : LspawnHolds q a p → due_at p.row ready p ≡ needs.File c → OnlyReads q a c
  local_reads h due = reads_at p.row h due

-- What it holds open after a call of its start

module _ (q : Queue) (a : List ℕ) (read wrote : ℕ) (p : Place) (greets : p.work.row ≡ work_at.Greet) where
  abbrev q_after : CallData → Answer → Queue
  q_after c told = called_queue q a read c told wrote q.role

  -- its users are known, or can't be
  knows_holds : (r : Queue) (users : Option (List Assignment)) → LspawnHolds r a (knows users p)
  knows_holds r users = subst (SpawnerHolds r a) (sym greets) tt

  opened_holds : (told : Answer) → Fits q.disk (call.Open users_name how.Read) told wrote → LspawnHolds (q_after (call.Open users_name how.Read) told) a (users_opened_by told p)
  opened_holds (answer.Opened fd) fits = let w = opened_held q a read users_name how.Read fd wrote fits in ((_, w.2), greets)
  opened_holds (answer.Refused why.Memory) fits = tt
  opened_holds (answer.Refused why.NotThere) fits = knows_holds (q_after (call.Open users_name how.Read) (answer.Refused why.NotThere)) (Some [])
  opened_holds (answer.Refused why.Fault) fits = knows_holds (q_after (call.Open users_name how.Read) (answer.Refused why.Fault)) None
  opened_holds (answer.Refused why.Exists) fits = absurd fits
  opened_holds told fits = absurd fits

  piece_holds : (r : Queue) (fd : Fd) (b : Bool) → HasOpen r a fd.0 → HoldsUsers r a (if b then at.CloseUsers fd true else at.ReadUsers fd) p.work.row
  piece_holds r fd true h = (h, greets)
  piece_holds r fd false h = (h, greets)

  read_holds : (fd : Fd) (len : ℕ) (told : Answer) (bytes : List ℕ) → Fits q.disk (call.ReadAt fd len PIECE) told wrote → HasOpen q a fd.0
      → LspawnHolds (q_after (call.ReadAt fd len PIECE) told) a (users_read_by fd told bytes p)
  read_holds fd len (answer.Count k) bytes fits h = piece_holds (q_after (call.ReadAt fd len PIECE) (answer.Count k)) fd (nat_lt (length bytes) PIECE) (h.0, h.1)
  read_holds fd len (answer.Refused why.Fault) bytes fits h = ((h.0, h.1), greets)
  read_holds fd len told bytes fits h = absurd fits

  closed_holds : (r : Queue) (whole : Bool) → LspawnHolds r a (users_closed whole p)
  closed_holds r true = knows_holds r (users_in p.text)
  closed_holds r false = knows_holds r None

-- An event

module _ (s : State) (I : Inv s) (wrote : ℕ) (began : ℕ) (past : List Own) (own : Own) where
  abbrev name : List ℕ
  name = codes "lspawn"

  abbrev spawner : Actor
  spawner = record { program = LocalSpawner began; past = past; life = Alive }

  abbrev here : Place
  here = place_after past

  abbrev q : Queue
  q = queue s I.role

  abbrev Keeps : NeedData → Type 0
  Keeps due = Inv (then_state s wrote began past own Local due own.came)

  -- as it is due
  by_due : (due : NeedData) → due ≡ own.due → (ComesOf s name due own.came wrote → Keeps due) → ComesOf s name own.due own.came wrote → Keeps own.due
  by_due due is go comes = subst Keeps is (go (subst (λ (z : NeedData). ComesOf s name z own.came wrote) (sym is) comes))

  module _ (is : s.actors name ≡ Some spawner) where
    -- a call of its start
    called : (row : Row) (c : CallData) → here.row ≡ row → OnlyReads q name c
        → ((told : Told) → Fits s.disk c told.answer wrote → LspawnHolds (called_queue q name own.read c told.answer wrote I.role) name (act row own.ready (got.Answered told) here))
        → ComesOf s name (needs.File c) own.came wrote → Keeps (needs.File c)
    called row c e only holds comes = reads s wrote began past own I Local is c only
        (λ told fits. subst (λ (x : Row). LspawnHolds (called_queue q name own.read c told.answer wrote I.role) name (act x own.ready (got.Answered told) here)) (sym e) (holds told fits))
        own.came comes

    -- as it serves requests, its row stays the same
    works : here.row ≡ at.Serves → (r : Queue) (came : GotData) → SpawnerHolds r name (work_act (local_kind here.users) (row_now here.work own.ready) came here.work).row
        → LspawnHolds r name (act here.row own.ready came here)
    works e r came h =
        subst (λ (x : Row). LspawnHolds r name (act x own.ready came here)) (sym e)
        (subst (λ (x : Row). HoldsUsers r name x (work_act (local_kind here.users) (row_now here.work own.ready) came here.work).row) (sym e) h)

    by_row : (row : Row) → here.row ≡ row → HoldsUsers q name row here.work.row → due_at row own.ready here ≡ own.due → ComesOf s name own.due own.came wrote → Keeps own.due
    by_row at.OpenUsers e h due comes =
        by_due (needs.File (call.Open users_name how.Read)) due
        (called at.OpenUsers (call.Open users_name how.Read) e tt (λ told fits. opened_holds q name own.read wrote here h told.answer fits)) comes
    by_row (at.ReadUsers fd) e h due comes =
        by_due (needs.File (call.ReadAt fd (length here.text) PIECE)) due
        (called (at.ReadUsers fd) (call.ReadAt fd (length here.text) PIECE) e tt
        (λ told fits. read_holds q name own.read wrote here h.1 fd (length here.text) told.answer told.bytes fits h.0)) comes
    by_row (at.CloseUsers fd whole) e h due comes =
        by_due (needs.File (call.Close fd)) due
        (called (at.CloseUsers fd whole) (call.Close fd) e h.0.1.held
        (λ told fits. closed_holds q name own.read wrote here h.1 (called_queue q name own.read (call.Close fd) told.answer wrote I.role) whole)) comes
    by_row at.Serves e h due comes =
        serves s wrote began past own I Local is (local_kind here.users) (is_kind here.users) (program_of here) tt here.work (λ r due came. works e r came) h due comes
    by_row at.OutOfMemory e h due comes = absurd (subst (λ (z : NeedData). ComesOf s name z own.came wrote) (sym due) comes)

    -- it starts a delivery as it serves requests
    starts_at : (row : Row) → here.row ≡ row → (asked : ChildData) (came : GotData) → due_at row own.ready here ≡ needs.Start asked
        → (program_of here ≡ asked) × Inv (then_state s wrote began past own Local (needs.Start (program_of here)) came)
    starts_at at.Serves e asked came due =
        let w = start_row (program_of here) (row_now here.work own.ready) here.work asked due in
        (w.1, starting s wrote began past own I Local is (local_kind here.users) (is_kind here.users) (program_of here) tt here.work (λ r due came. works e r came) came w.0)
    starts_at row e asked came due = absurd (cc)

    pub local_starts : (asked : ChildData) (came : GotData) → next_of (LocalSpawner began) past own.read own.ready ≡ needs.Start asked
        → (program_of here ≡ asked) × Inv (then_state s wrote began past own Local (needs.Start (program_of here)) came)
    local_starts asked came due = starts_at here.row refl asked came due

    local_event : next_of (LocalSpawner began) past own.read own.ready ≡ own.due → ComesOf s name own.due own.came wrote → LspawnHolds q name here → Inv (acted s name own wrote (Some spawner))
    local_event due comes h = by_row here.row refl h due comes

by_program : (s : State) (I : Inv s) (a : List ℕ) (wrote : ℕ) (program : Program) (past : List Own) (life : Life) (own : Own) → IsLocalSpawner program
    → IsNamed a program → life ≡ Alive → s.actors a ≡ Some (record { program = program; past = past; life = life }) → next_of program past own.read own.ready ≡ own.due
    → ComesOf s a own.due own.came wrote → Inv (acted s a own wrote (Some (record { program = program; past = past; life = life })))
by_program s I a wrote (LocalSpawner began) past Alive own it named alive is due comes =
    let there = subst (λ (b : List ℕ). s.actors b ≡ Some (spawner s I wrote began past own)) named is in
    subst (λ (b : List ℕ). Inv (acted s b own wrote (Some (spawner s I wrote began past own)))) (sym named)
    (local_event s I wrote began past own there due (subst (λ (b : List ℕ). ComesOf s b own.due own.came wrote) named comes)
    (I.fares (codes "lspawn") (spawner s I wrote began past own) there))
by_program s I a wrote (LocalSpawner began) past life own it named alive is due comes = absurd (cc)
by_program s I a wrote other past life own it named alive is due comes = absurd it

pub locals_keep : LocalsKeep
locals_keep a own wrote s I may it =
    let x = may.actor in
    subst (λ (o : Option Actor). Inv (acted s a own wrote o)) (sym may.reads.is)
    (by_program s I a wrote x.program x.past x.life own it (I.crew a x may.reads.is) may.reads.alive may.reads.is may.due may.came)
