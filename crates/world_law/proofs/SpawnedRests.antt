-- A spawner that goes no more, but hasn't ended: its post is as if it rested, and had given what it was to give last.
use Rattle.std.proofs.Common.{◌≡◌, ◌≢◌, inr, ℕ, ◌+◌, ◌≤◌, List, [], ◌∷◌, ◌++◌, length, take, drop, Bool, true, false, if◌then◌else◌, Option, Some, None, refl, sym, ap, ◌∙◌, subst, arith, append_assoc, take-append-drop}
use Rattle.std.specs.Prelude.{nat_lt}
use Rattle.std.proofs.lemmas.List.{append-nil}
use Rattle.call_fs.specs.Program.{MayCome}
use Rattle.call_fs.specs.declared.calls.Answer.{Answer}
use Rattle.call_fs.specs.declared.calls.Answer.TheVariants as answer
use Rattle.call_fs.specs.declared.calls.Fd.{Fd}
use Rattle.call_fs.specs.declared.calls.FsError.TheVariants as why
use Rattle.call_fs.specs.declared.file_system.TheConstants.{PIECE}
use Rattle.call_fs.specs.declared.past.ChildData.{ChildData}
use Rattle.call_fs.specs.declared.past.GotData.{GotData}
use Rattle.call_fs.specs.declared.past.GotData.TheVariants as came
use Rattle.call_fs.specs.declared.past.NeedData.{NeedData}
use Rattle.call_fs.specs.declared.past.NeedData.TheVariants as needs
use Rattle.call_fs.specs.declared.past.Own.{Own}
use Rattle.call_fs.specs.declared.program.Port.TheVariants as port
use Rattle.call_fs.specs.declared.program.Ready.{Ready}
use Rattle.local_spawn.specs.declared.assign.Assignment.{Assignment}
use Rattle.local_spawn.specs.declared.delivery.Delivery.{Delivery}
use Rattle.local_spawn.specs.declared.place.Place.{Place as LocalPlace}
use Rattle.local_spawn.specs.declared.row.Row.{Row as LocalRow}
use Rattle.local_spawn.specs.declared.row.Row.TheVariants as local
use Rattle.local_spawn.specs.Deliveries.{delivery_for, refusal}
use Rattle.local_spawn.specs.Table.{delivery_after, local_kind, program_of, readied_by, users_closed, users_opened, users_read}
use Rattle.program_law.specs.Post.Posts.{AllTell, Fares, IsDue, Post, Posted, Spawner, Tells, Waits, asked_by, busy, due_of, goes_at, most, moved, owed_at, reports, told_by, told_of, work_of}
use Rattle.program_law.specs.Post.Posts.Spawner.{Local, Remote}
use Rattle.program_law.proofs.Post.Frames.{told_on}
use Rattle.program_law.proofs.Post.Readings.{report_more, tell_append, told_push}
use Rattle.program_law.proofs.Post.Rows.{respawned}
use Rattle.program_law.proofs.Post.Sums.{own_one}
use Rattle.program_law.proofs.Post.Works.{arrives}
use Rattle.remote_spawn.specs.Table.{program_of as remote_program, remote}
use Rattle.send_known.specs.declared.channel.Channel.{Channel}
use Rattle.send_known.specs.declared.channel.Channel.TheVariants as channel
use Rattle.send_jobs.specs.Slots.{attempt_in}
use Rattle.spawn_protocol.specs.declared.report.Report.{Report}
use Rattle.spawn_protocol.specs.declared.request.Request.{Request}
use Rattle.spawn_protocol.specs.Inbox.{pull, with_more}
use Rattle.spawn_protocol.specs.Report.{Reader, kept, read_on as reads}
use Rattle.spawn_protocol.specs.Report.Reader.{AtBegin}
use Rattle.spawner_parts.specs.declared.place.Place.{Place}
use Rattle.spawner_parts.specs.declared.row.Row.{Row}
use Rattle.spawner_parts.specs.declared.row.Row.TheVariants as at
use Rattle.spawner_parts.specs.Asked.{is_bad}
use Rattle.spawner_parts.specs.Counts.{asked, one, runs, times}
use Rattle.spawner_parts.specs.Table.{Kind, act, arrive, bad_request, closed, due_at, gave, greeting, heeded, launched, next_request, opened, opened_by, opens, printed, read_by, read_on, row_now, took}
use Rattle.spawner_parts.specs.Table as parts
use Rattle.world_law.specs.Spawned.{started_by}
use Rattle.world_law.proofs.SpawnedRuns.{closed_work, opened_work, read_work}

abbrev pub rests_if : Row → Place → Place
rests_if (at.Ended status) p = record p { row = at.Idle }
rests_if row p = p

-- a spawner as it is shown, and at rest
abbrev pub shown : Spawner → Spawner
shown (Local p) = Local (record p { work = rests_if p.work.row p.work })
shown (Remote p) = Remote (rests_if p.row p)

abbrev pub rested : Spawner → Spawner
rested (Local p) = Local (record p { work = record p.work { row = at.Idle } })
rested (Remote p) = Remote (record p { row = at.Idle })

-- what it is to give at a row
abbrev pub due_text : Row → Place → List ℕ
due_text at.Greet p = greeting
due_text at.Report p = p.report
due_text row p = []

-- The post, at rest

drop_sum : (a first b t m : ℕ) → a + ((first + b) + t) ≤ m → a + ((0 + b) + t) ≤ m
drop_sum a first b t m w = omega (arith, w)

given_sum : (a first b t now m : ℕ) → a + ((first + b) + t) ≤ m → now ≡ first + t → a + ((0 + b) + now) ≤ m
given_sum a first b t now m w e = omega (arith, w, e)

clash_sum : (a first b t : ℕ) → a + ((first + b) + t) ≤ 0 → first ≡ 1 → ⊥
clash_sum a first b t w e = omega (arith, w, e)

plus_none : (n : ℕ) → n + 0 ≡ n
plus_none n = omega arith

tells_kept : (c : Channel) (r : Report) (x : Post) → Tells c x.done x.last r → Tells c x.done x.last (kept r)
tells_kept channel.Local r x h = λ e. h e
tells_kept channel.Remote r x h = tt

module _ (c : Channel) (x : Post) (base : Place) where
  abbrev here : Row → Place
  here r = record base { row = r }

  abbrev side : Option Reader → List ℕ → Post
  side heard told = record x { lives = true; serves = true; heard = heard; told = told }

  plain : (r : Row) → goes_at true r ≡ true → (heard : Option Reader) (told : List ℕ) → Fares c (record base { row = r }) (record x { lives = true; serves = true; heard = heard; told = told })
      → Fares c (record base { row = at.Idle }) (record x { lives = true; serves = true; heard = heard; told = told })
  plain r goes heard told F = record {
    waits = F.waits;
    asks = subst (λ (b : Bool). Waits b base.inbox.intake true base.inbox.ahead x.asked F.waits) goes F.asks;
    lasts = F.lasts;
    stands = λ e. tt;
    run = λ e. F.run goes;
    tells = λ live. told_on heard (goes_at true r) true r at.Idle told (λ e. cc) (λ e. goes) (F.tells live);
    well = F.well;
    once = λ slot. drop_sum (asked slot F.waits) (times slot (owed_at r (here r))) (runs slot base.running) (told_of slot (reports (side heard told))) (most true heard (attempt_in x.slots slot))
        (subst (λ (b : Bool). asked slot F.waits + (busy b r (here r) slot + told_of slot (reports (side heard told))) ≤ most true heard (attempt_in x.slots slot)) goes (F.once slot));
    flies = F.flies;
  }

  greets : (heard : Option Reader) → Fares c (record base { row = at.Greet }) (record x { lives = true; serves = true; heard = heard })
      → Fares c (record base { row = at.Idle }) (record x { lives = true; serves = true; heard = heard; told = x.told ++ greeting })
  greets None F =
      let G = plain at.Greet refl None x.told F in
      record {
        waits = G.waits;
        asks = G.asks;
        lasts = G.lasts;
        stands = λ e. tt;
        run = G.run;
        tells = λ live. inr (ap (λ (t : List ℕ). t ++ greeting) (F.tells refl));
        well = tt;
        once = G.once;
        flies = G.flies;
      }
  greets (Some reader) F = absurd ((F.tells refl refl).0 refl)

  module _ (due : IsDue c x.done x.last base.report) where
    owed : (k : ℕ) → times k (take 1 base.report) ≡ one k due.it.slot
    owed k = ap (λ (t : List ℕ). times k (take 1 t)) due.text ∙ plus_none (one k due.it.slot)

    -- of a sender that took no byte nothing is in hand
    unheard : (waits : List Request) → ((k : ℕ) → asked k waits + ((times k (take 1 base.report) + runs k base.running) + 0) ≤ 0) → ⊥
    unheard waits once =
        clash_sum (asked due.it.slot waits) (times due.it.slot (take 1 base.report)) (runs due.it.slot base.running) 0 (once due.it.slot)
        (owed due.it.slot ∙ own_one due.it.slot due.it.slot refl)

    module _ (reader : Reader) (begins : (reads reader x.told).1 ≡ AtBegin) where
      more : reads reader (x.told ++ base.report) ≡ ((reads reader x.told).0 ++ kept due.it ∷ [], AtBegin)
      more = ap (λ (t : List ℕ). reads reader (x.told ++ t)) due.text ∙ report_more reader x.told due.it due.is begins

      gives : (reads reader (x.told ++ base.report)).0 ≡ (reads reader x.told).0 ++ kept due.it ∷ []
      gives = ap (λ (s : List Report × Reader). s.0) more

      all_tell : AllTell c x.done x.last (reads reader x.told).0 → AllTell c x.done x.last (reads reader (x.told ++ base.report)).0
      all_tell h = subst (AllTell c x.done x.last) (sym gives)
          (tell_append c x.done x.last (reads reader x.told).0 (kept due.it ∷ []) h (tells_kept c due.it x due.tells, tt))

      told_now : (k : ℕ) → told_of k (reads reader (x.told ++ base.report)).0 ≡ times k (take 1 base.report) + told_of k (reads reader x.told).0
      told_now k =
          ap (told_of k) gives
          ∙ told_push k (reads reader x.told).0 (kept due.it)
          ∙ ap (λ n. n + told_of k (reads reader x.told).0) (sym (owed k))

  told : (heard : Option Reader) → Fares c (record base { row = at.Report }) (record x { lives = true; serves = true; heard = heard })
      → Fares c (record base { row = at.Idle }) (record x { lives = true; serves = true; heard = heard; told = x.told ++ base.report })
  told None F = absurd (unheard (F.stands refl) F.waits F.once)
  told (Some reader) F =
      let due : IsDue c x.done x.last base.report = F.stands refl in
      let begins : (reads reader x.told).1 ≡ AtBegin = (F.tells refl refl).1 in
      record {
        waits = F.waits;
        asks = F.asks;
        lasts = F.lasts;
        stands = λ e. tt;
        run = λ e. F.run refl;
        tells = λ live e. ((λ same. cc), ap (λ (s : List Report × Reader). s.1) (more due reader begins));
        well = all_tell due reader begins F.well;
        once = λ k. given_sum (asked k F.waits) (times k (take 1 base.report)) (runs k base.running) (told_of k (reads reader x.told).0) (told_of k (reads reader (x.told ++ base.report)).0)
            (most true (Some reader) (attempt_in x.slots k)) (F.once k) (told_now due reader begins k);
        flies = F.flies;
      }

  rests_at : (r : Row) → goes_at true r ≡ true → (heard : Option Reader) → Fares c (record base { row = r }) (record x { lives = true; serves = true; heard = heard })
      → Fares c (record base { row = at.Idle }) (record x { lives = true; serves = true; heard = heard; told = x.told ++ due_text r base })
  rests_at at.Greet goes heard F = greets heard F
  rests_at at.Report goes heard F = told heard F
  rests_at r goes heard F = subst (λ (t : List ℕ). Fares c (here at.Idle) (side heard t)) (sym (append-nil x.told)) (plain r goes heard x.told F)

module _ (x : Post) where
  abbrev at_rest : Spawner → Post
  at_rest s = record x { lives = true; serves = true; spawner = rested s; told = x.told ++ due_text (work_of s).row (work_of s) }

  rests_by : (s : Spawner) → goes_at true (work_of s).row ≡ true → Posted (record x { lives = true; serves = true; spawner = s }) → Posted (at_rest s)
  rests_by (Local p) goes P = record {
    fares = respawned channel.Local (record p.work { row = at.Idle }) (record x { lives = true; serves = true; told = x.told ++ due_text p.work.row p.work }) (rested (Local p))
        (rests_at channel.Local x p.work p.work.row goes x.heard (respawned channel.Local p.work (record x { lives = true; serves = true; spawner = Local p }) x.spawner P.fares));
    starts = λ serves e. absurd (cc);
  }
  rests_by (Remote p) goes P = record {
    fares = respawned channel.Remote (record p { row = at.Idle }) (record x { lives = true; serves = true; told = x.told ++ due_text p.row p }) (rested (Remote p))
        (rests_at channel.Remote x p p.row goes x.heard (respawned channel.Remote p (record x { lives = true; serves = true; spawner = Remote p }) x.spawner P.fares));
    starts = λ serves. tt;
  }

pub rests_posted : (x : Post) (s : Spawner) → goes_at true (work_of s).row ≡ true → Posted (record x { lives = true; serves = true; spawner = s })
    → Posted (record x { lives = true; serves = true; spawner = rested s; told = x.told ++ due_text (work_of s).row (work_of s) })
rests_posted x s goes P = rests_by x s goes P

-- How it comes to go no more

heeded_if : (b : Bool) (r : Request) (p : Place) → goes_at true (if b then parts.reports bad_request r.slot p else opens r p).row ≡ true
heeded_if true r p = refl
heeded_if false r p = refl

heeded_goes : (o : Option Request) (p : Place) → goes_at true (heeded o p).row ≡ true
heeded_goes None p = refl
heeded_goes (Some r) p = heeded_if (is_bad p.running r) r p

next_goes : (p : Place) → goes_at true (next_request p).row ≡ true
next_goes p = heeded_goes (pull p.inbox).request (record p { inbox = (pull p.inbox).inbox })

opened_goes_by : (it : Answer) (p : Place) → goes_at true (opened_by it p).row ≡ true
opened_goes_by (answer.Opened fd) p = refl
opened_goes_by (answer.Refused why.Memory) p = refl
opened_goes_by it p = refl

opened_goes : (got : GotData) (p : Place) → goes_at true (opened got p).row ≡ true
opened_goes (came.Answered told) p = opened_goes_by told.answer p
opened_goes got p = refl

read_if : (fd : Fd) (b : Bool) → goes_at true (if b then at.CloseMess fd true else at.ReadMess fd) ≡ true
read_if fd true = refl
read_if fd false = refl

read_goes_by : (fd : Fd) (it : Answer) (bytes : List ℕ) (p : Place) → goes_at true (read_by fd it bytes p).row ≡ true
read_goes_by fd (answer.Count count) bytes p = read_if fd (nat_lt (length bytes) PIECE)
read_goes_by fd it bytes p = refl

read_goes : (fd : Fd) (got : GotData) (p : Place) → goes_at true (read_on fd got p).row ≡ true
read_goes fd (came.Answered told) p = read_goes_by fd told.answer told.bytes p
read_goes fd got p = refl

launched_goes : (report : List ℕ) (got : GotData) (p : Place) → goes_at true (launched report got p).row ≡ true
launched_goes report (came.Started pid) p = refl
launched_goes report came.Memory p = refl
launched_goes report got p = refl

-- what the event did that was its last but for its end
pub record Fell (due : NeedData) (got : GotData) (text : List ℕ) : Type 0 where
  pub told : (wrote : ℕ) (told : List ℕ) → (rest : List ℕ) × (told ++ text ≡ told_by due got wrote told ++ rest)
  pub asked : (asked : List ℕ) → asked_by due got asked ≡ asked
  pub started : (r : Request) (old : ℕ → Option Request) → started_by due got r old ≡ old

part : (told text : List ℕ) (wrote : ℕ) → told ++ text ≡ (told ++ take wrote text) ++ drop wrote text
part told text wrote = ap (λ (t : List ℕ). told ++ t) (sym (take-append-drop wrote text)) ∙ sym (append_assoc told (take wrote text) (drop wrote text))

module _ (kind : Kind) (readied : (p : Place) → goes_at true (kind.readied p).row ≡ true) (program : ChildData) (p : Place) (goes : goes_at true p.row ≡ true) where
  record FellAt (row : Row) (got : GotData) : Type 0 where
    rests : rests_if (act kind row got p).row (act kind row got p) ≡ record p { row = at.Idle }
    fell : Fell (due_at program row p) got (due_text row p)

  never : (row : Row) (got : GotData) → goes_at true (act kind row got p).row ≡ true → goes_at true (act kind row got p).row ≡ false → FellAt row got
  never row got on off = let both : true ≡ false = sym on ∙ off in absurd (cc)

  closed_goes : (whole : Bool) → goes_at true (closed kind whole p).row ≡ true
  closed_goes true = readied p
  closed_goes false = refl

  gave_falls : (row : Row) (text : List ℕ) (got : GotData) → goes_at true (gave got p).row ≡ false
      → (rests_if (gave got p).row (gave got p) ≡ record p { row = at.Idle }) × Fell (needs.Give port.Output text) got text
  gave_falls row text came.Gave off = let both : true ≡ false = sym (next_goes p) ∙ off in absurd (cc)
  gave_falls row text came.Failed off = (refl, record { told = λ wrote told. (drop wrote text, part told text wrote); asked = λ asked. refl; started = λ r old. refl })
  gave_falls row text got off = (refl, record { told = λ wrote told. (text, refl); asked = λ asked. refl; started = λ r old. refl })

  took_falls : (got : GotData) → goes_at true (took got p).row ≡ false → FellAt at.TakeInput got
  took_falls (came.Took bytes) off = let both : true ≡ false = sym (next_goes (record p { inbox = with_more bytes p.inbox })) ∙ off in absurd (cc)
  took_falls came.End off = let both : true ≡ false = off in absurd (cc)
  took_falls got off = record { rests = refl; fell = record { told = λ wrote told. ([], refl); asked = λ asked. refl; started = λ r old. refl } }

  printed_falls : (slot : ℕ) (got : GotData) → goes_at true (printed slot got p).row ≡ false → FellAt (at.TakeOutput slot) got
  printed_falls slot (came.Took bytes) off = let both : true ≡ false = off in absurd (cc)
  printed_falls slot came.End off = let both : true ≡ false = off in absurd (cc)
  printed_falls slot got off = record { rests = refl; fell = record { told = λ wrote told. ([], refl); asked = λ asked. refl; started = λ r old. refl } }

  falls : (row : Row) (got : GotData) → goes_at true (act kind row got p).row ≡ false → FellAt row got
  falls at.Greet got off = let w = gave_falls at.Greet greeting got off in record { rests = w.0; fell = w.1 }
  falls at.Idle got off = never at.Idle got goes off
  falls at.TakeInput got off = took_falls got off
  falls at.OpenMess got off = never at.OpenMess got (opened_goes got p) off
  falls (at.ReadMess fd) got off = never (at.ReadMess fd) got (read_goes fd got p) off
  falls (at.CloseMess fd whole) got off = never (at.CloseMess fd whole) got (closed_goes whole) off
  falls at.Start got off = never at.Start got (launched_goes kind.unstarted got p) off
  falls at.Feed got off = never at.Feed got (next_goes p) off
  falls (at.TakeOutput slot) got off = printed_falls slot got off
  falls (at.TakeStatus slot) got off = never (at.TakeStatus slot) got refl off
  falls at.Report got off = let w = gave_falls at.Report p.report got off in record { rests = w.0; fell = w.1 }
  falls (at.Ended code) got off = never (at.Ended code) got goes off

-- between two steps nothing is to be given
text_at : (r : Row) (p : Place) (ready : Ready) → due_text (arrive r p ready) p ≡ due_text r p
text_at at.Idle p ready = arrives (λ (row : Row). due_text row p ≡ []) p refl refl (λ code. refl) (λ slot run. refl) ready
text_at r p ready = refl

local_readied : (o : Option Delivery) (report : List ℕ) (p : Place) → goes_at true (readied_by o report p).row ≡ true
local_readied None report p = refl
local_readied (Some delivery) report p = refl

-- A spawner that goes, and goes no more

pub record Falls (s : Spawner) (own : Own) : Type 0 where
  pub shows : shown (moved s own) ≡ rested s
  pub fell : Fell own.due own.came (due_text (work_of s).row (work_of s))

module _ (read : ℕ) (ready : Ready) (got : GotData) where
  abbrev event : NeedData → Own
  event due = record { read = read; ready = ready; due = due; came = got }

  abbrev FallsSo : Spawner → Type 0
  FallsSo s = goes_at true (work_of s).row ≡ true → goes_at true (work_of (moved s (event (due_of s ready)))).row ≡ false → Falls s (event (due_of s ready))

  stays_on : (s : Spawner) (own : Own) (work : Place) → work ≡ work_of s → goes_at true (work_of s).row ≡ true → goes_at true work.row ≡ false → Falls s own
  stays_on s own work same on off = let both : true ≡ false = sym on ∙ sym (ap (λ (z : Place). goes_at true z.row) same) ∙ off in absurd (cc)

  delivery_same : (users : Option (List Assignment)) (p : LocalPlace) (row : Row) → goes_at true (act (local_kind users) row got p.work).row ≡ false → delivery_after row p ≡ p.delivery
  delivery_same users p (at.CloseMess fd true) off =
      let both : true ≡ false = sym (local_readied (delivery_for users p.work.request) (refusal users) p.work) ∙ off in absurd (cc)
  delivery_same users p row off = refl

  local_falls : (row : LocalRow) (text : List ℕ) (users : Option (List Assignment)) (delivery : Delivery) (work : Place)
      → FallsSo (Local (record { row = row; text = text; users = users; delivery = delivery; work = work }))
  local_falls local.OpenUsers text users delivery work on off =
      let p : LocalPlace = record { row = local.OpenUsers; text = text; users = users; delivery = delivery; work = work } in
      stays_on (Local p) (event (due_of (Local p) ready)) (users_opened got p).work (opened_work got p) on off
  local_falls (local.ReadUsers fd) text users delivery work on off =
      let p : LocalPlace = record { row = local.ReadUsers fd; text = text; users = users; delivery = delivery; work = work } in
      stays_on (Local p) (event (due_of (Local p) ready)) (users_read fd got p).work (read_work fd got p) on off
  local_falls (local.CloseUsers fd whole) text users delivery work on off =
      let p : LocalPlace = record { row = local.CloseUsers fd whole; text = text; users = users; delivery = delivery; work = work } in
      stays_on (Local p) (event (due_of (Local p) ready)) (users_closed whole p).work (closed_work whole p) on off
  local_falls local.OutOfMemory text users delivery work on off =
      let p : LocalPlace = record { row = local.OutOfMemory; text = text; users = users; delivery = delivery; work = work } in
      stays_on (Local p) (event (due_of (Local p) ready)) work refl on off
  local_falls local.Serves text users delivery work on off =
      let p : LocalPlace = record { row = local.Serves; text = text; users = users; delivery = delivery; work = work } in
      let so : (z : Place) → goes_at true ((local_kind users).readied z).row ≡ true = λ z. local_readied (delivery_for users z.request) (refusal users) z in
      let w = falls (local_kind users) so (program_of p) work on (row_now work ready) got off in
      let same = delivery_same users p (row_now work ready) off in
      record {
        shows = λ i. Local (record { row = local.Serves; text = text; users = users; delivery = same i; work = w.rests i });
        fell = subst (λ (t : List ℕ). Fell (due_of (Local p) ready) got t) (text_at work.row work ready) w.fell;
      }

  spawner_falls : (s : Spawner) → FallsSo s
  spawner_falls (Local p) on off = local_falls p.row p.text p.users p.delivery p.work on off
  spawner_falls (Remote p) on off =
      let w = falls remote (λ z. refl) (remote_program p.request) p on (row_now p ready) got off in
      record { shows = ap Remote w.rests; fell = subst (λ (t : List ℕ). Fell (due_of (Remote p) ready) got t) (text_at p.row p ready) w.fell }

pub goes_no_more : (s : Spawner) (own : Own) → own.due ≡ due_of s own.ready → goes_at true (work_of s).row ≡ true → goes_at true (work_of (moved s own)).row ≡ false → Falls s own
goes_no_more s own due = subst (λ (n : NeedData). goes_at true (work_of s).row ≡ true → goes_at true (work_of (moved s (record { read = own.read; ready = own.ready; due = n; came = own.came }))).row ≡ false
    → Falls s (record { read = own.read; ready = own.ready; due = n; came = own.came })) (sym due) (spawner_falls own.read own.ready own.came s)

-- One that goes no more does nothing: only the local one reads its users, before it serves.

no_more : (r : Row) (base : Place) (ready : Ready) (program : ChildData) (got : GotData) → goes_at true r ≡ false
    → MayCome (due_at program (arrive r (record base { row = r }) ready) (record base { row = r })) got → ⊥
no_more (at.Ended code) base ready program got off may = may
no_more r base ready program got off may = absurd (cc)

pub record StaysSo (s : Spawner) (own : Own) : Type 0 where
  pub posted : (x : Post) → Posted (record x { spawner = shown s }) → Posted (record x { spawner = shown (moved s own) })
  pub work : work_of (moved s own) ≡ work_of s
  pub told : (wrote : ℕ) (told : List ℕ) → told_by own.due own.came wrote told ≡ told
  pub asked : (asked : List ℕ) → asked_by own.due own.came asked ≡ asked
  pub started : (r : Request) (old : ℕ → Option Request) → started_by own.due own.came r old ≡ old

rests_off : (r : Row) (base : Place) → goes_at true r ≡ false → rests_if r (record base { row = r }) ≡ record base { row = at.Idle }
rests_off (at.Ended code) base off = refl
rests_off r base off = absurd (cc)

-- where the local one stands in its start makes no difference
module _ (x : Post) (p q : LocalPlace) (same : q.work ≡ p.work) (off : goes_at true p.work.row ≡ false) where
  shown_work : rests_if q.work.row q.work ≡ rests_if p.work.row p.work
  shown_work = ap (λ (w : Place). rests_if w.row w) same

  unstarted : (rests_if q.work.row q.work).row ≢ at.Start
  unstarted e =
      let row : at.Idle ≡ at.Start = sym (ap (λ (w : Place). w.row) (shown_work ∙ rests_off p.work.row p.work off)) ∙ e in
      absurd (cc)

  moved_posted : Posted (record x { spawner = shown (Local p) }) → Posted (record x { spawner = shown (Local q) })
  moved_posted P = record {
    fares = respawned channel.Local (rests_if q.work.row q.work) (record x { spawner = shown (Local p) }) (shown (Local q))
        (subst (λ (w : Place). Fares channel.Local w (record x { spawner = shown (Local p) })) (sym shown_work) P.fares);
    starts = λ serves e. absurd (unstarted e);
  }

module _ (read : ℕ) (ready : Ready) (got : GotData) where
  abbrev at_event : NeedData → Own
  at_event due = record { read = read; ready = ready; due = due; came = got }

  abbrev StaysAt : Spawner → Type 0
  StaysAt s = goes_at true (work_of s).row ≡ false → MayCome (due_of s ready) got → StaysSo s (at_event (due_of s ready))

  local_stays : (row : LocalRow) (text : List ℕ) (users : Option (List Assignment)) (delivery : Delivery) (work : Place)
      → StaysAt (Local (record { row = row; text = text; users = users; delivery = delivery; work = work }))
  local_stays local.OpenUsers text users delivery work off may =
      let p : LocalPlace = record { row = local.OpenUsers; text = text; users = users; delivery = delivery; work = work } in
      record {
        posted = λ x P. moved_posted x p (users_opened got p) (opened_work got p) off P;
        work = opened_work got p;
        told = λ wrote told. refl;
        asked = λ asked. refl;
        started = λ r old. refl;
      }
  local_stays (local.ReadUsers fd) text users delivery work off may =
      let p : LocalPlace = record { row = local.ReadUsers fd; text = text; users = users; delivery = delivery; work = work } in
      record {
        posted = λ x P. moved_posted x p (users_read fd got p) (read_work fd got p) off P;
        work = read_work fd got p;
        told = λ wrote told. refl;
        asked = λ asked. refl;
        started = λ r old. refl;
      }
  local_stays (local.CloseUsers fd whole) text users delivery work off may =
      let p : LocalPlace = record { row = local.CloseUsers fd whole; text = text; users = users; delivery = delivery; work = work } in
      record {
        posted = λ x P. moved_posted x p (users_closed whole p) (closed_work whole p) off P;
        work = closed_work whole p;
        told = λ wrote told. refl;
        asked = λ asked. refl;
        started = λ r old. refl;
      }
  local_stays local.OutOfMemory text users delivery work off may = absurd may
  local_stays local.Serves text users delivery work off may =
      let p : LocalPlace = record { row = local.Serves; text = text; users = users; delivery = delivery; work = work } in
      absurd (no_more work.row work ready (program_of p) got off may)

  spawner_stays : (s : Spawner) → StaysAt s
  spawner_stays (Local p) off may = local_stays p.row p.text p.users p.delivery p.work off may
  spawner_stays (Remote p) off may = absurd (no_more p.row p ready (remote_program p.request) got off may)

pub stays_so : (s : Spawner) (own : Own) → own.due ≡ due_of s own.ready → MayCome own.due own.came → goes_at true (work_of s).row ≡ false → StaysSo s own
stays_so s own due may off = subst (λ (n : NeedData). MayCome n own.came → StaysSo s (record { read = own.read; ready = own.ready; due = n; came = own.came })) (sym due)
    (spawner_stays own.read own.ready own.came s off) may

-- One that goes is shown as it is.

goes_as_is : (r : Row) (p : Place) → goes_at true r ≡ true → rests_if r p ≡ p
goes_as_is (at.Ended code) p on = absurd (cc)
goes_as_is r p on = refl

pub shows_going : (s : Spawner) → goes_at true (work_of s).row ≡ true → shown s ≡ s
shows_going (Local p) on = ap (λ (w : Place). Local (record p { work = w })) (goes_as_is p.work.row p.work on)
shows_going (Remote p) on = ap Remote (goes_as_is p.row p on)

pub work_shown : (s : Spawner) → work_of (shown s) ≡ rests_if (work_of s).row (work_of s)
work_shown (Local p) = refl
work_shown (Remote p) = refl

goes_at_rest : (r : Row) (base : Place) → goes_at true (rests_if r (record base { row = r })).row ≡ true
goes_at_rest (at.Ended code) base = refl
goes_at_rest r base = refl

pub shown_goes : (s : Spawner) → goes_at true (work_of (shown s)).row ≡ true
shown_goes (Local p) = goes_at_rest p.work.row p.work
shown_goes (Remote p) = goes_at_rest p.row p

-- what runs at rest ran before
pub rested_runs : (s : Spawner) → (work_of (rested s)).running ≡ (work_of s).running
rested_runs (Local p) = refl
rested_runs (Remote p) = refl
