-- The work of a spawner, whatever comes of what is due.
use Rattle.std.proofs.Common.{◌≡◌, ℕ, List, Bool, true, false, if◌then◌else◌, Option, Some, None, refl, sym, ap, ◌∙◌, subst}
use Rattle.std.specs.Prelude.{unwrap_or}
use Rattle.call_fs.specs.Maps.{put}
use Rattle.call_fs.specs.declared.calls.Answer.{Answer}
use Rattle.call_fs.specs.declared.calls.Answer.TheVariants as answer
use Rattle.call_fs.specs.declared.calls.CallData.TheVariants as call
use Rattle.call_fs.specs.declared.calls.Fd.{Fd}
use Rattle.call_fs.specs.declared.calls.FsError.TheVariants as why
use Rattle.call_fs.specs.declared.past.ChildData.{ChildData}
use Rattle.call_fs.specs.declared.past.GotData.{GotData}
use Rattle.call_fs.specs.declared.past.GotData.TheVariants as came
use Rattle.call_fs.specs.declared.past.NeedData.{NeedData}
use Rattle.call_fs.specs.declared.past.NeedData.TheVariants as needs
use Rattle.call_fs.specs.declared.past.Own.{Own}
use Rattle.call_fs.specs.declared.program.Ready.{Ready}
use Rattle.local_spawn.specs.declared.assign.Assignment.{Assignment}
use Rattle.local_spawn.specs.declared.delivery.Delivery.{Delivery}
use Rattle.local_spawn.specs.declared.place.Place.{Place as LocalPlace}
use Rattle.local_spawn.specs.declared.row.Row.{Row as LocalRow}
use Rattle.local_spawn.specs.declared.row.Row.TheVariants as start
use Rattle.local_spawn.specs.Deliveries.{crashed, delivery_for, refusal}
use Rattle.mail_bytes.specs.Netstring.{netstring}
use Rattle.local_spawn.specs.Table.{due_from, local_kind, program_of, readied_by, served, users_closed, users_opened, users_opened_by, users_read, users_read_by}
use Rattle.remote_spawn.specs.Reports.{crashed as remote_crashed}
use Rattle.remote_spawn.specs.Table.{due_from as remote_due, program_of as remote_program, remote}
use Rattle.send_known.specs.declared.channel.Channel.{Channel}
use Rattle.send_known.specs.declared.channel.Channel.TheVariants as channel
use Rattle.spawn_protocol.specs.declared.inbox.Intake.{Intake}
use Rattle.spawn_protocol.specs.declared.inbox.Intake.TheVariants as intake
use Rattle.spawner_parts.specs.declared.place.Place.{Place}
use Rattle.spawner_parts.specs.declared.row.Row.{Row}
use Rattle.spawner_parts.specs.declared.row.Row.TheVariants as at
use Rattle.spawner_parts.specs.Asked.{runs_in}
use Rattle.spawner_parts.specs.Table.{Kind, act, arrive, due_at, ended_by, is_asked, no_memory, none_runs, resting, turning}
use Rattle.program_law.specs.Post.Laws.{IsWork, WorksKeep}
use Rattle.program_law.specs.Post.Posts.{Fares, IsFor, Post, Posted, Spawner, due_of, task_of, works}
use Rattle.program_law.specs.Post.Posts.Spawner.{Local, Remote}
use Rattle.program_law.proofs.Post.Frames.{after, serving}
use Rattle.program_law.proofs.Post.Rows.{respawned}
use Rattle.program_law.proofs.Post.Steps.{Went, closes_ill, closes_refused, closes_well, exit_crashed, exit_ended, exit_failed, feeds, opens, prints, reads, starts, starts_none, starts_run}
use Rattle.program_law.proofs.Post.Told.{Speaks, delivery_is_for, local_speaks, memory_is, refusal_is, remote_speaks}

-- Where a step comes from: between two steps, from what is ready
module _ (P : Row → Type 0) (p : Place) (idle : P at.Idle) (takes : P at.TakeInput) (over : (code : ℕ) → P (at.Ended code)) (output : (slot : ℕ) → runs_in p.running slot ≡ true → P (at.TakeOutput slot)) where
  ends_by : (i : Intake) → P (ended_by i)
  ends_by intake.Open = idle
  ends_by intake.Ended = over 0
  ends_by intake.TooLong = over 91

  rests : P (resting p)
  rests = by (none_runs p.running)
    where
      by : (b : Bool) → P (if b then ended_by p.inbox.intake else at.Idle)
      by true = ends_by p.inbox.intake
      by false = idle

  turns : (child : Option ℕ) → P (turning p child)
  turns None = rests
  turns (Some slot) = by (runs_in p.running slot) refl
    where
      by : (b : Bool) → runs_in p.running slot ≡ b → P (if b then at.TakeOutput slot else resting p)
      by true is = output slot is
      by false is = rests

  pub arrives : (ready : Ready) → P (arrive at.Idle p ready)
  arrives ready = by (is_asked p ready)
    where
      by : (b : Bool) → P (if b then at.TakeInput else turning p ready.child)
      by true = takes
      by false = turns ready.child

-- The rows at which both spawners do the same

abbrev IsSame : Row → Type 0
IsSame at.OpenMess = Unit {0}
IsSame (at.ReadMess fd) = Unit {0}
IsSame (at.CloseMess fd false) = Unit {0}
IsSame at.Feed = Unit {0}
IsSame (at.TakeOutput slot) = Unit {0}
IsSame (at.TakeStatus slot) = Unit {0}
IsSame row = ⊥

module _ (c : Channel) (kind : Kind) (speaks : Speaks c kind) (x : Post) (base : Place) (wrote : ℕ) (name : List ℕ) (program : ChildData) where
  abbrev here : Row → Place
  here r = record base { row = r }

  -- from a row, by what comes at another
  abbrev Comes : Row → Row → GotData → Type 0
  Comes r row got = Went c (act kind row got (here r)) (after x.spawner (due_at program row (here r)) got wrote name (serving x))

  exits_by : (slot : ℕ) (got : GotData) → Fares c (here (at.TakeStatus slot)) (serving x) → Comes (at.TakeStatus slot) (at.TakeStatus slot) got
  exits_by slot (came.Ended code) F = exit_ended c kind speaks x base slot F code
  exits_by slot came.Crashed F = exit_crashed c kind speaks x base slot F
  exits_by slot got F = exit_failed c kind speaks x base slot F

  pub same : (r : Row) (got : GotData) → IsSame r → Fares c (here r) (serving x) → Comes r r got
  same at.OpenMess got is F = opens c kind speaks x base got F
  same (at.ReadMess fd) got is F = reads c kind speaks x base fd F got
  same (at.CloseMess fd false) got is F = closes_ill c kind speaks x base fd F
  same at.Feed got is F = feeds c kind speaks x base F
  same (at.TakeOutput slot) got is F = prints c kind speaks x base (at.TakeOutput slot) refl (λ k. refl) slot (F.stands refl) F got
  same (at.TakeStatus slot) got is F = exits_by slot got F
  same (at.CloseMess fd true) got is F = absurd is
  same at.Greet got is F = absurd is
  same at.Idle got is F = absurd is
  same at.TakeInput got is F = absurd is
  same at.Start got is F = absurd is
  same at.Report got is F = absurd is
  same (at.Ended code) got is F = absurd is

  -- between two steps
  pub from_idle : (slot : ℕ) (got : GotData) → runs_in base.running slot ≡ true → Fares c (here at.Idle) (serving x) → Comes at.Idle (at.TakeOutput slot) got
  from_idle slot got run F = prints c kind speaks x base at.Idle refl (λ k. refl) slot run F got

-- The local spawner

module _ (x : Post) (wrote : ℕ) (name : List ℕ) where
  abbrev pub local_done : LocalPlace → NeedData → GotData → Post
  local_done q due got = after (Local q) due got wrote name (serving x)

  pub posted : (q : LocalPlace) (due : NeedData) (got : GotData) → Fares channel.Local q.work (after x.spawner due got wrote name (serving x))
      → (q.work.row ≡ at.Start → IsFor q.delivery.words q.work.request) → Posted (local_done q due got)
  posted q due got F fits = record { fares = respawned channel.Local q.work (after x.spawner due got wrote name (serving x)) (Local q) F; starts = λ serves. fits }

  module _ (text : List ℕ) (users : Option (List Assignment)) (delivery : Delivery) (base : Place) where
    abbrev pub local_at : Row → LocalPlace
    local_at r = record { row = start.Serves; text = text; users = users; delivery = delivery; work = record base { row = r } }

    abbrev pub LocalBefore : Row → Type 0
    LocalBefore r = Posted (record x { serves = true; spawner = Local (local_at r) })

    abbrev LocalThen : Row → Row → GotData → Type 0
    LocalThen r row got = IsWork (due_from row (local_at r)) → Posted (local_done (served row got (local_at r)) (due_from row (local_at r)) got)

    pub local_fares : (r : Row) → LocalBefore r → Fares channel.Local (record base { row = r }) (serving x)
    local_fares r h = respawned channel.Local (record base { row = r }) (record x { serves = true; spawner = Local (local_at r) }) x.spawner h.fares

    local_went : (r row : Row) (got : GotData) → Went channel.Local (act (local_kind users) row got (record base { row = r })) (after x.spawner (due_from row (local_at r)) got wrote name (serving x))
        → LocalThen r row got
    local_went r row got w is = posted (served row got (local_at r)) (due_from row (local_at r)) got w.fares (λ e. absurd (w.unstarted e))

    local_same : (r : Row) (got : GotData) → IsSame r → LocalBefore r → LocalThen r r got
    local_same r got is h = local_went r r got
        (same channel.Local (local_kind users) (local_speaks users) x base wrote name (program_of (local_at r)) r got is (local_fares r h))

    -- a message that was read: its request has a delivery, or is refused
    local_closes : (fd : Fd) (got : GotData) (o : Option Delivery) → delivery_for users base.request ≡ o → LocalBefore (at.CloseMess fd true)
        → Posted (local_done (record (local_at (at.CloseMess fd true)) { work = readied_by o (refusal users) (record base { row = at.CloseMess fd true }); delivery = unwrap_or o delivery })
        (needs.File (call.Close fd)) got)
    local_closes fd got None none h =
        let w = closes_refused channel.Local (local_kind users) (local_speaks users) x base fd (refusal users) (refusal_is users) (local_fares (at.CloseMess fd true) h) in
        posted (record (local_at (at.CloseMess fd true)) { work = readied_by None (refusal users) (record base { row = at.CloseMess fd true }); delivery = delivery })
        (needs.File (call.Close fd)) got w.fares (λ e. absurd (w.unstarted e))
    local_closes fd got (Some d) some h =
        let F = local_fares (at.CloseMess fd true) h in
        posted (record (local_at (at.CloseMess fd true)) { work = readied_by (Some d) (refusal users) (record base { row = at.CloseMess fd true }); delivery = d })
        (needs.File (call.Close fd)) got
        (closes_well channel.Local (local_kind users) (local_speaks users) x base fd (netstring base.message) F)
        (λ e. delivery_is_for base.request (F.stands refl).has_host users d some)

    local_starts : (got : GotData) → LocalBefore at.Start → LocalThen at.Start at.Start got
    local_starts (came.Started pid) h =
        let F = local_fares at.Start h in
        local_went at.Start at.Start (came.Started pid)
        (starts channel.Local (local_kind users) (local_speaks users) x base (put x.tasks base.request.slot (Some (task_of name delivery.words)))
        (starts_run base.running x.tasks x.last base.request name delivery.words (h.starts refl refl) (F.stands refl) (F.run refl)) F)
    local_starts came.Memory h = local_went at.Start at.Start came.Memory (starts_none channel.Local (local_kind users) (local_speaks users) x base no_memory memory_is (local_fares at.Start h))
    local_starts got h =
        local_went at.Start at.Start got (starts_none channel.Local (local_kind users) (local_speaks users) x base crashed (local_speaks users).unstarted (local_fares at.Start h))

    pub local_row : (r : Row) (ready : Ready) (got : GotData) → LocalBefore r → LocalThen r (arrive r (record base { row = r }) ready) got
    local_row at.Idle ready got h =
        arrives (λ (row : Row). LocalThen at.Idle row got) (record base { row = at.Idle }) (λ is. h) (λ is. absurd is) (λ code is. h)
        (λ slot run. local_went at.Idle (at.TakeOutput slot) got
        (from_idle channel.Local (local_kind users) (local_speaks users) x base wrote name (program_of (local_at at.Idle)) slot got run (local_fares at.Idle h))) ready
    local_row at.Greet ready got h = λ is. absurd is
    local_row at.TakeInput ready got h = λ is. absurd is
    local_row at.OpenMess ready got h = local_same at.OpenMess got tt h
    local_row (at.ReadMess fd) ready got h = local_same (at.ReadMess fd) got tt h
    local_row (at.CloseMess fd true) ready got h = λ is. local_closes fd got (delivery_for users base.request) refl h
    local_row (at.CloseMess fd false) ready got h = local_same (at.CloseMess fd false) got tt h
    local_row at.Start ready got h = local_starts got h
    local_row at.Feed ready got h = local_same at.Feed got tt h
    local_row (at.TakeOutput slot) ready got h = local_same (at.TakeOutput slot) got tt h
    local_row (at.TakeStatus slot) ready got h = local_same (at.TakeStatus slot) got tt h
    local_row at.Report ready got h = λ is. absurd is
    local_row (at.Ended code) ready got h = λ is. h

-- In its start it only reads the users.

abbrev IsKept : LocalPlace → LocalPlace → Type 0
IsKept p q = (q.work ≡ p.work) × (q.delivery ≡ p.delivery)

opened_keeps_by : (it : Answer) (p : LocalPlace) → IsKept p (users_opened_by it p)
opened_keeps_by (answer.Opened fd) p = (refl, refl)
opened_keeps_by (answer.Refused why.NotThere) p = (refl, refl)
opened_keeps_by (answer.Refused why.Memory) p = (refl, refl)
opened_keeps_by it p = (refl, refl)

opened_keeps : (got : GotData) (p : LocalPlace) → IsKept p (users_opened got p)
opened_keeps (came.Answered told) p = opened_keeps_by told.answer p
opened_keeps got p = (refl, refl)

read_keeps_by : (fd : Fd) (it : Answer) (bytes : List ℕ) (p : LocalPlace) → IsKept p (users_read_by fd it bytes p)
read_keeps_by fd (answer.Count count) bytes p = (refl, refl)
read_keeps_by fd it bytes p = (refl, refl)

read_keeps : (fd : Fd) (got : GotData) (p : LocalPlace) → IsKept p (users_read fd got p)
read_keeps fd (came.Answered told) p = read_keeps_by fd told.answer told.bytes p
read_keeps fd got p = (refl, refl)

closed_keeps : (whole : Bool) (p : LocalPlace) → IsKept p (users_closed whole p)
closed_keeps true p = (refl, refl)
closed_keeps false p = (refl, refl)

kept_posted : (x : Post) (p q : LocalPlace) → IsKept p q → Posted (record x { spawner = Local p }) → Posted (record x { spawner = Local q })
kept_posted x p q is h = record {
  fares = respawned channel.Local q.work (record x { spawner = Local p }) (Local q)
      (subst (λ (w : Place). Fares channel.Local w (record x { spawner = Local p })) (sym is.0) h.fares);
  starts = λ serves e. subst (λ (d : Delivery). IsFor d.words q.work.request) (sym is.1)
      (subst (λ (w : Place). IsFor p.delivery.words w.request) (sym is.0) (h.starts serves (ap (λ (w : Place). w.row) (sym is.0) ∙ e)));
}

-- The remote spawner

module _ (x : Post) (wrote : ℕ) (name : List ℕ) (base : Place) where
  abbrev pub remote_at : Row → Place
  remote_at r = record base { row = r }

  abbrev pub RemoteBefore : Row → Type 0
  RemoteBefore r = Posted (record x { serves = true; spawner = Remote (remote_at r) })

  abbrev RemoteThen : Row → Row → GotData → Type 0
  RemoteThen r row got = IsWork (remote_due row (remote_at r)) → Posted (after (Remote (act remote row got (remote_at r))) (remote_due row (remote_at r)) got wrote name (serving x))

  pub remote_fares : (r : Row) → RemoteBefore r → Fares channel.Remote (remote_at r) (serving x)
  remote_fares r h = respawned channel.Remote (remote_at r) (record x { serves = true; spawner = Remote (remote_at r) }) x.spawner h.fares

  pub remote_posted : (q : Place) (due : NeedData) (got : GotData) → Fares channel.Remote q (after x.spawner due got wrote name (serving x)) → Posted (after (Remote q) due got wrote name (serving x))
  remote_posted q due got F = record { fares = respawned channel.Remote q (after x.spawner due got wrote name (serving x)) (Remote q) F; starts = λ serves. tt }

  remote_went : (r row : Row) (got : GotData) → Went channel.Remote (act remote row got (remote_at r)) (after x.spawner (remote_due row (remote_at r)) got wrote name (serving x)) → RemoteThen r row got
  remote_went r row got w is = remote_posted (act remote row got (remote_at r)) (remote_due row (remote_at r)) got w.fares

  remote_same : (r : Row) (got : GotData) → IsSame r → RemoteBefore r → RemoteThen r r got
  remote_same r got is h = remote_went r r got (same channel.Remote remote remote_speaks x base wrote name (remote_program base.request) r got is (remote_fares r h))

  remote_starts : (got : GotData) → RemoteBefore at.Start → RemoteThen at.Start at.Start got
  remote_starts (came.Started pid) h = remote_went at.Start at.Start (came.Started pid) (starts channel.Remote remote remote_speaks x base x.tasks tt (remote_fares at.Start h))
  remote_starts came.Memory h = remote_went at.Start at.Start came.Memory (starts_none channel.Remote remote remote_speaks x base no_memory memory_is (remote_fares at.Start h))
  remote_starts got h = remote_went at.Start at.Start got (starts_none channel.Remote remote remote_speaks x base remote_crashed remote_speaks.unstarted (remote_fares at.Start h))

  pub remote_row : (r : Row) (ready : Ready) (got : GotData) → RemoteBefore r → RemoteThen r (arrive r (remote_at r) ready) got
  remote_row at.Idle ready got h =
      arrives (λ (row : Row). RemoteThen at.Idle row got) (remote_at at.Idle) (λ is. h) (λ is. absurd is) (λ code is. h)
      (λ slot run. remote_went at.Idle (at.TakeOutput slot) got
      (from_idle channel.Remote remote remote_speaks x base wrote name (remote_program base.request) slot got run (remote_fares at.Idle h))) ready
  remote_row at.Greet ready got h = λ is. absurd is
  remote_row at.TakeInput ready got h = λ is. absurd is
  remote_row at.OpenMess ready got h = remote_same at.OpenMess got tt h
  remote_row (at.ReadMess fd) ready got h = remote_same (at.ReadMess fd) got tt h
  remote_row (at.CloseMess fd true) ready got h = λ is.
      remote_posted (record base { row = at.Start }) (needs.File (call.Close fd)) got (closes_well channel.Remote remote remote_speaks x base fd base.message (remote_fares (at.CloseMess fd true) h))
  remote_row (at.CloseMess fd false) ready got h = remote_same (at.CloseMess fd false) got tt h
  remote_row at.Start ready got h = remote_starts got h
  remote_row at.Feed ready got h = remote_same at.Feed got tt h
  remote_row (at.TakeOutput slot) ready got h = remote_same (at.TakeOutput slot) got tt h
  remote_row (at.TakeStatus slot) ready got h = remote_same (at.TakeStatus slot) got tt h
  remote_row at.Report ready got h = λ is. absurd is
  remote_row (at.Ended code) ready got h = λ is. h

-- An event

abbrev pub due_as : Own → NeedData → Own
due_as own d = record { read = own.read; ready = own.ready; due = d; came = own.came }

module _ (x : Post) (event : Own) (wrote : ℕ) (name : List ℕ) where
  abbrev Keeps : Spawner → Type 0
  Keeps s = Posted (record x { serves = true; spawner = s }) → IsWork (due_of s event.ready)
      → Posted (works (due_as event (due_of s event.ready)) wrote name (record x { serves = true; spawner = s }))

  of_local : (row : LocalRow) (text : List ℕ) (users : Option (List Assignment)) (delivery : Delivery) (work : Place)
      → Keeps (Local (record { row = row; text = text; users = users; delivery = delivery; work = work }))
  of_local start.OpenUsers text users delivery work h is =
      let p : LocalPlace = record { row = start.OpenUsers; text = text; users = users; delivery = delivery; work = work } in
      kept_posted (serving x) p (users_opened event.came p) (opened_keeps event.came p) h
  of_local (start.ReadUsers fd) text users delivery work h is =
      let p : LocalPlace = record { row = start.ReadUsers fd; text = text; users = users; delivery = delivery; work = work } in
      kept_posted (serving x) p (users_read fd event.came p) (read_keeps fd event.came p) h
  of_local (start.CloseUsers fd whole) text users delivery work h is =
      let p : LocalPlace = record { row = start.CloseUsers fd whole; text = text; users = users; delivery = delivery; work = work } in
      kept_posted (serving x) p (users_closed whole p) (closed_keeps whole p) h
  of_local start.Serves text users delivery work h is = local_row x wrote name text users delivery work work.row event.ready event.came h is
  of_local start.OutOfMemory text users delivery work h is = h

  of_any : (s : Spawner) → Keeps s
  of_any (Local p) = of_local p.row p.text p.users p.delivery p.work
  of_any (Remote p) = remote_row x wrote name p p.row event.ready event.came

pub works_keep : WorksKeep
works_keep event wrote name x h serves due is =
    subst (λ (d : NeedData). Posted (works (due_as event d) wrote name x)) (sym due)
    (subst (λ (b : Bool). Posted (works (due_as event (due_of x.spawner event.ready)) wrote name (record x { serves = b }))) (sym serves)
    (of_any x event wrote name x.spawner (subst (λ (b : Bool). Posted (record x { serves = b })) serves h) (subst IsWork due is)))
