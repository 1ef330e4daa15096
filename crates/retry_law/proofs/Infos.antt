-- Births are the moments of info files.
use Rattle.std.proofs.Common.{◌≡◌, ℕ, List, [], ◌∷◌, bytes_eq, eqb-true, eq-eqb, Bool, true, false, if◌then◌else◌, Option, Some, None, refl, sym, ap, ◌∙◌, subst, ⊎_elim}
use Rattle.std.proofs.lemmas.List.Elements.{All-contains}
use Rattle.std.specs.Prelude.{◌==◌, ◌&&◌, ◌||◌, Contains}
use Rattle.call_fs.proofs.Maps.{put_same}
use Rattle.call_fs.specs.Maps.{put}
use Rattle.call_fs.specs.Past.{IsRunBy}
use Rattle.call_fs.specs.Program.{MayCome}
use Rattle.call_fs.specs.declared.calls.Answer.TheVariants as answer
use Rattle.call_fs.specs.declared.calls.Answer.{Answer}
use Rattle.call_fs.specs.declared.calls.CallData.TheVariants as call
use Rattle.call_fs.specs.declared.calls.FsError.TheVariants as why
use Rattle.call_fs.specs.declared.past.GotData.TheVariants as came
use Rattle.call_fs.specs.declared.past.GotData.{GotData}
use Rattle.call_fs.specs.declared.past.NeedData.TheVariants as needs
use Rattle.call_fs.specs.declared.past.NeedData.{NeedData}
use Rattle.call_fs.specs.declared.past.Own.{Own}
use Rattle.call_fs.specs.declared.program.Port.TheVariants as port
use Rattle.queue_paths.proofs.Paths.{parse-path}
use Rattle.queue_paths.specs.Names.Name.{Of}
use Rattle.queue_paths.specs.Names.Part.{Remote as RemoteFile}
use Rattle.queue_paths.specs.Names.{Name, parse, path}
use Rattle.retry_law.proofs.Comings.{arrives_coming, row_leads}
use Rattle.retry_law.proofs.Events.{cleaned_same, stated_same}
use Rattle.retry_law.proofs.KnownNow.{known_now, was_known}
use Rattle.retry_law.proofs.LetGo.{held_before, held_lives}
use Rattle.retry_law.specs.Infos.{AllTellInfos, BirthsAreInfos, Infos, TellsInfos, coming, has_written, lets_go, pass_tells, tells, written}
use Rattle.send_core.proofs.Asked.{Facts, FinishSays, KnowsAt, PassSays, SweepSays}
use Rattle.send_core.proofs.Coming.{by_file}
use Rattle.send_core.proofs.Runs.{all_kept, facts}
use Rattle.send_core.proofs.Says.{arrive_says}
use Rattle.send_core.specs.Agrees.{has_ended}
use Rattle.send_core.specs.Births.{Birth, Births, births, births_by, cleaned, found as found_birth, passed, stated}
use Rattle.send_core.specs.Past.{Work, work}
use Rattle.send_core.specs.Senders.{IsSaid}
use Rattle.send_core.specs.Table.{Next, due_at, place_after, row_now}
use Rattle.send_core.specs.declared.desk.Desk.{Desk}
use Rattle.send_parts.specs.declared.row.Row.TheVariants as at
use Rattle.send_parts.specs.declared.row.Row.{Row}
use Rattle.send_known.specs.declared.channel.Channel.TheVariants.{Local, Remote}
use Rattle.send_known.specs.declared.channel.Channel.{Channel}
use Rattle.send_known.specs.declared.known.Known.{Known}
use Rattle.send_parts.specs.Steps.{remove_text}
use Rattle.send_parts.specs.declared.reading.Reading.TheVariants.{Closing, Going, Opening, Shutting}
use Rattle.send_parts.specs.declared.rows.FinishRow.{FinishRow}
use Rattle.send_parts.specs.declared.rows.StartRow.TheVariants as start
use Rattle.send_parts.specs.declared.rows.StartRow.{StartRow}
use Rattle.send_parts.specs.declared.rows.SweepRow.{SweepRow}
use Rattle.send_runs.proofs.Clearing.{ClearedAt, PassCleared, cleared_here}
use Rattle.send_runs.proofs.Known.{known_are_of_past}
use Rattle.send_runs.proofs.Knowing.{one_passed, same_texts}
use Rattle.send_runs.proofs.Quiet.{IsQuiet, quiet_finish, quiet_mark, quiet_pass, quiet_start, quiet_sweep}
use Rattle.send_runs.specs.DueMoments.Shift.{Begins, Fails, Learns, Same}
use Rattle.send_runs.specs.DueMoments.{Shift, found, has_unlinked, shift_by, shift_if}
use Rattle.send_runs.specs.Knowing.{known_by, known_in, looked_for}
use Rattle.todo_pass.specs.Table as pass_table
use Rattle.todo_pass.specs.Table.{Pass, command_text}
use Rattle.todo_pass.specs.declared.row.Row.TheVariants as todo
use Rattle.todo_pass.specs.declared.row.Row.{Row as PassRow}

-- An event by which a message becomes known

or_false : (b : Bool) → (b || false) ≡ true → b ≡ true
or_false true e = refl
or_false false e = absurd (cc)

unlearnt : (b : Bool) → (b || false) ≡ false → b ≡ false
unlearnt true e = absurd (cc)
unlearnt false e = refl

good_true : (r k : Bool) → (if r then false else (if k then true else false)) ≡ true → k ≡ true
good_true true k e = absurd (cc)
good_true false true e = refl
good_true false false e = absurd (cc)

good_false : (r k was : Bool) → (if r then false else (if k then true else false)) ≡ false → (if r then false else (if k then true else was)) ≡ true → k ≡ false
good_false true k was e is = absurd (cc)
good_false false true was e is = absurd (cc)
good_false false false was e is = refl

module _ (n : ℕ) where
  looked_found : (x : Option Name) (told : Answer) → looked_for x told n false ≡ true → (moment : ℕ) × (found x told n ≡ Learns moment)
  looked_found (Some (Of RemoteFile m)) (answer.Stat stat) e = (0, ap (λ (b : Bool). shift_if b (Learns 0)) (or_false (m == n) e))
  looked_found (Some (Of RemoteFile m)) (answer.Refused why.NotThere) e = (0, ap (λ (b : Bool). shift_if b (Learns 0)) (or_false (m == n) e))
  looked_found x told e = absurd (cc)

  looked_same : (x : Option Name) (told : Answer) → looked_for x told n false ≡ false → found x told n ≡ Same
  looked_same (Some (Of RemoteFile m)) (answer.Stat stat) e = ap (λ (b : Bool). shift_if b (Learns 0)) (unlearnt (m == n) e)
  looked_same (Some (Of RemoteFile m)) (answer.Refused why.NotThere) e = ap (λ (b : Bool). shift_if b (Learns 0)) (unlearnt (m == n) e)
  looked_same x told e = refl

  -- it is learnt
  known_learns : (c : Channel) (now : ℕ) (command : List ℕ) (clears : Bool) (w : Option Work) (due : NeedData) (got : GotData) → known_by due got command n false ≡ true
      → (moment : ℕ) × (shift_by c n now command clears w None due got ≡ Learns moment)
  known_learns c now command clears w (needs.File (call.Stat name)) (came.Answered told) e = looked_found (parse name) told.answer e
  known_learns c now command clears w (needs.Take port.Clean) (came.Took bytes) e =
      (now, ap (λ (b : Bool). shift_if b (Learns now)) (good_true (bytes_eq command (remove_text n)) (bytes_eq command (command_text n) && bytes_eq bytes (43 ∷ [])) e))
  known_learns c now command clears w due got e = absurd (cc)

  -- one that was known keeps its birth
  birth_kept : (now : ℕ) (b : Births) (due : NeedData) (got : GotData) (was : Bool) → known_by due got b.command n false ≡ false → known_by due got b.command n was ≡ true → (births_by b now due got).of n ≡ b.of n
  birth_kept now b (needs.File (call.Stat name)) (came.Answered told) was e is = stated_same n (parse name) told.answer b (looked_same (parse name) told.answer e)
  birth_kept now b (needs.File due) (came.Answered told) was e is = refl
  birth_kept now b (needs.Give port.Clean text) came.Gave was e is = refl
  birth_kept now b (needs.Take port.Clean) (came.Took bytes) was e is =
      cleaned_same n (bytes_eq bytes (43 ∷ [])) b (good_false (bytes_eq b.command (remove_text n)) (bytes_eq b.command (command_text n) && bytes_eq bytes (43 ∷ [])) was e is)
  birth_kept now b due got was e is = refl

quiet_learns : {A : Type 0} (s : Shift) (moment : ℕ) → IsQuiet s → s ≡ Learns moment → A
quiet_learns Same moment is e = absurd (cc)
quiet_learns (Learns x) moment is e = absurd is
quiet_learns (Begins x) moment is e = absurd is
quiet_learns Fails moment is e = absurd is

-- Which one, and with which birth

module _ (S : ℕ → List ℕ → Type 0) (t : Facts) (d : Desk) (now : ℕ) (clears : Bool) (w : Option Work) (n : ℕ) where
  abbrev IsLearnt : NeedData → GotData → Type 0
  IsLearnt due got = known_by due got t.births.command n false ≡ true

  abbrev Learnt : Row → GotData → Type 0
  Learnt row got = (it : Birth) × (coming row d.pass ≡ Some it) × (it.n ≡ n) × ((births_by t.births now (due_at row d) got).of n ≡ it.moment) × (tells row d.pass now got ≡ None)

  -- by an event of which the channels' laws say that it is none of a message
  quietly : {A : Type 0} (due : NeedData) (got : GotData) → IsQuiet (shift_by Local n now t.births.command clears w None due got) → IsLearnt due got → A
  quietly due got quiet is =
      let it = known_learns n Local now t.births.command clears w due got is in quiet_learns (shift_by Local n now t.births.command clears w None due got) it.0 quiet it.1

  put_at : (of : ℕ → ℕ) (k x : ℕ) → k ≡ n → put of k x n ≡ x
  put_at of k x same = ap (λ (i : ℕ). put of k x i) (sym same) ∙ put_same of k x

  -- in the scan of the start
  found_at : (last : Option Birth) (k birth : ℕ) (of : ℕ → ℕ) → last ≡ Some (record { n = k; moment = birth }) → k ≡ n → found_birth last k of n ≡ birth
  found_at last k birth of is same =
      ap (λ (o : Option Birth). found_birth o k of n) is ∙ ap (λ (b : Bool). (if b then put of k birth else of) n) (eq-eqb k k refl) ∙ put_at of k birth same

  stat_learns : (split k birth : ℕ) (local : Bool) (told : Answer) → t.births.last ≡ Some (record { n = k; moment = birth }) → looked_for (Some (Of RemoteFile k)) told n false ≡ true
      → (k ≡ n) × ((stated (Some (Of RemoteFile k)) told t.births).of n ≡ birth)
  stat_learns split k birth local (answer.Stat stat) last is = let same : k ≡ n = eqb-true k n (or_false (k == n) is) in (same, found_at t.births.last k birth t.births.of last same)
  stat_learns split k birth local (answer.Refused why.NotThere) last is = let same : k ≡ n = eqb-true k n (or_false (k == n) is) in (same, found_at t.births.last k birth t.births.of last same)
  stat_learns split k birth local told last is = absurd (cc)

  start_learns : (row : StartRow) (got : GotData) → MayCome (due_at (at.Start row) d) got → KnowsAt S t (at.Start row) d → IsLearnt (due_at (at.Start row) d) got → Learnt (at.Start row) got
  start_learns (start.StatRemote split k birth local) got may says is =
      let row : Row = at.Start (start.StatRemote split k birth local) in
      by_file (due_at row d) tt (λ g. IsLearnt (due_at row d) g → Learnt row g) got may
      (λ told fit is.
      let p : ◌≡◌ {A = Option Name} (parse (path (Of RemoteFile k))) (Some (Of RemoteFile k)) = parse-path (Of RemoteFile k) in
      let l = stat_learns split k birth local told.answer says.1.1 (sym (ap (λ (o : Option Name). looked_for o told.answer n false) p) ∙ is) in
      (record { n = k; moment = birth }, refl, l.0, ap (λ (o : Option Name). (stated o told.answer t.births).of n) p ∙ l.1, refl))
      is
  start_learns (start.Control f reading) got may says is = quietly (due_at (at.Start (start.Control f reading)) d) got (quiet_start Local n now t.births.command clears w (start.Control f reading) d (λ x. absurd x) got) is
  start_learns start.GreetLocal got may says is = quietly (due_at (at.Start start.GreetLocal) d) got (quiet_start Local n now t.births.command clears w start.GreetLocal d (λ x. absurd x) got) is
  start_learns (start.GreetRemote limit) got may says is = quietly (due_at (at.Start (start.GreetRemote limit)) d) got (quiet_start Local n now t.births.command clears w (start.GreetRemote limit) d (λ x. absurd x) got) is
  start_learns (start.Scan split) got may says is = quietly (due_at (at.Start (start.Scan split)) d) got (quiet_start Local n now t.births.command clears w (start.Scan split) d (λ x. absurd x) got) is
  start_learns (start.StatTodo split k) got may says is = quietly (due_at (at.Start (start.StatTodo split k)) d) got (quiet_start Local n now t.births.command clears w (start.StatTodo split k) d (λ x. absurd x) got) is
  start_learns (start.ReadInfo split k reading) got may says is =
      quietly (due_at (at.Start (start.ReadInfo split k reading)) d) got (quiet_start Local n now t.births.command clears w (start.ReadInfo split k reading) d (λ x. absurd x) got) is
  start_learns (start.StatInfo split k) got may says is = quietly (due_at (at.Start (start.StatInfo split k)) d) got (quiet_start Local n now t.births.command clears w (start.StatInfo split k) d (λ x. absurd x) got) is
  start_learns (start.StatLocal split k birth) got may says is =
      quietly (due_at (at.Start (start.StatLocal split k birth)) d) got (quiet_start Local n now t.births.command clears w (start.StatLocal split k birth) d (λ x. absurd x) got) is
  start_learns start.Over got may says is = absurd may
  start_learns (start.Ended status) got may says is = absurd may

  -- at the end of a todo pass
  both : (a b : Bool) → (a && b) ≡ true → (a ≡ true) × (b ≡ true)
  both true true e = (refl, refl)
  both true false e = absurd (cc)
  both false b e = absurd (cc)

  passed_at : (last : Option Birth) (command : List ℕ) (of : ℕ → ℕ) (p : Pass) → last ≡ Some (record { n = p.n; moment = p.birth }) → command ≡ command_text p.n → p.n ≡ n → passed last command of n ≡ p.birth
  passed_at last command of p is gave same =
      ap (λ (o : Option Birth). passed o command of n) is
      ∙ ap (λ (b : Bool). (if b then put of p.n p.birth else of) n) (ap (λ (text : List ℕ). bytes_eq text (command_text p.n)) gave ∙ same_texts command_text one_passed p.n p.n ∙ eq-eqb p.n p.n refl)
      ∙ put_at of p.n p.birth same

  abbrev PassLearnt : PassRow → Pass → GotData → Type 0
  PassLearnt row p got = (p.n ≡ n) × ((births_by t.births now (pass_table.due_at row p) got).of n ≡ p.birth) × (pass_tells row p.n now got ≡ None)

  answer_learns : (p : Pass) (bytes : List ℕ) → t.births.last ≡ Some (record { n = p.n; moment = p.birth }) → t.births.command ≡ command_text p.n → IsLearnt (needs.Take port.Clean) (came.Took bytes)
      → (p.n ≡ n) × ((cleaned (bytes_eq bytes (43 ∷ [])) t.births).of n ≡ p.birth)
  answer_learns p bytes last gave is = (same, ap (λ (b : Bool). (cleaned b t.births).of n) parts.1 ∙ passed_at t.births.last t.births.command t.births.of p last gave same) where
    parts : (bytes_eq t.births.command (command_text n) ≡ true) × (bytes_eq bytes (43 ∷ []) ≡ true)
    parts = both (bytes_eq t.births.command (command_text n)) (bytes_eq bytes (43 ∷ []))
        (good_true (bytes_eq t.births.command (remove_text n)) (bytes_eq t.births.command (command_text n) && bytes_eq bytes (43 ∷ [])) is)

    same : p.n ≡ n
    same = eqb-true p.n n (sym (same_texts command_text one_passed p.n n) ∙ ap (λ (text : List ℕ). bytes_eq text (command_text n)) (sym gave) ∙ parts.0)

  pass_learns : (row : PassRow) (p : Pass) (got : GotData) → MayCome (pass_table.due_at row p) got → PassCleared row clears → PassSays S t row p → IsLearnt (pass_table.due_at row p) got → (row ≡ todo.Answer) × PassLearnt row p got
  pass_learns todo.Answer p (came.Took bytes) may cleared says is = let l = answer_learns p bytes says.1 says.2 is in (refl, (l.0, l.1, refl))
  pass_learns todo.Answer p got may cleared says is = absurd (cc)
  pass_learns todo.StatMess p got may cleared says is = quietly (pass_table.due_at todo.StatMess p) got (quiet_pass Local n now t.births.command clears w todo.StatMess p tt cleared got) is
  pass_learns row p got may cleared says is = absurd (cc)

  row_learns : (row : Row) (got : GotData) → MayCome (due_at row d) got → ClearedAt row d.pass clears → KnowsAt S t row d → IsLearnt (due_at row d) got → Learnt row got
  row_learns (at.Start row) got may cleared says is = start_learns row got may says is
  row_learns (at.Turn p) got may cleared says is = absurd may
  row_learns at.InTodo got may cleared says is =
      let l = pass_learns d.pass.row d.pass got may cleared says.1 is in
      (record { n = d.pass.n; moment = d.pass.birth }, ap (λ (r : PassRow). written (has_written r) d.pass) l.0, l.1.0, l.1.1, l.1.2)
  row_learns (at.TakeLink Local) got may cleared says is = absurd (cc)
  row_learns (at.TakeLink Remote) got may cleared says is = absurd (cc)
  row_learns (at.Mark row m) got may cleared says is = quietly (due_at (at.Mark row m) d) got (quiet_mark Local n now t.births.command clears w row m d got) is
  row_learns (at.UnlinkFile c k p) got may cleared says is = absurd (cc)
  row_learns (at.ReadFile c k begun Opening) got may cleared says is = absurd (cc)
  row_learns (at.ReadFile c k begun (Going fd)) got may cleared says is = absurd (cc)
  row_learns (at.ReadFile c k begun (Closing fd)) got may cleared says is = absurd (cc)
  row_learns (at.ReadFile c k begun (Shutting fd)) got may cleared says is = absurd (cc)
  row_learns (at.Request c) got may cleared says is = absurd (cc)
  row_learns (at.FindTodo s) got may cleared says is = absurd (cc)
  row_learns (at.Finish row k) got may cleared says is =
      quietly (due_at (at.Finish row k) d) got (quiet_finish Local n now t.births.command clears w row k d (λ e. subst (λ (x : FinishRow). FinishSays S t x k) e says.1) got) is
  row_learns (at.Sweep row) got may cleared says is =
      quietly (due_at (at.Sweep row) d) got (quiet_sweep Local n now t.births.command clears w row d (λ split k e. subst (λ (x : SweepRow). SweepSays S t x) e says.1) got) is
  row_learns (at.Ended status) got may cleared says is = absurd may

-- At each event

-- what is known has the birth that its info file says, until the sender has ended
abbrev pub Said : (ℕ → Option ℕ) → Option ℕ → List Own → Type 0
Said info turns past = (n moment : ℕ) → has_ended (place_after turns past).row ≡ false → known_in past n ≡ true → info n ≡ Some moment → (births past).of n ≡ moment

-- or all but what it lets go of, whose info file somebody else may write
abbrev pub SaidElse : (ℕ → Option ℕ) → Option ℕ → List Own → Type 0
SaidElse info turns past = (n moment : ℕ) → lets_go (place_after turns past).row n ≡ false → known_in past n ≡ true → info n ≡ Some moment → (births past).of n ≡ moment

-- and so has what becomes known next
abbrev pub Coming : (ℕ → Option ℕ) → Option ℕ → List Own → Type 0
Coming info turns past = (it : Birth) (moment : ℕ) → coming (place_after turns past).row (place_after turns past).pass ≡ Some it → info it.n ≡ Some moment → it.moment ≡ moment

abbrev pub AreInfos : (ℕ → Option ℕ) → Option ℕ → List Own → Type 0
AreInfos info turns past = SaidElse info turns past × Coming info turns past

module _ (turns : Option ℕ) where
  none_known : (info : ℕ → Option ℕ) → Said info turns [] × Coming info turns []
  none_known info = ((λ n moment alive known there. absurd (cc)), (λ it moment is there. absurd (cc)))

  pub else_said : (info : ℕ → Option ℕ) (past : List Own) → Said info turns past × Coming info turns past → AreInfos info turns past
  else_said info past all = ((λ n moment held. all.0 n moment (held_lives (place_after turns past).row n held)), all.1)

  pub none_at_first : (info : ℕ → Option ℕ) → AreInfos info turns []
  none_at_first info = else_said info [] (none_known info)

  module _ (info later : ℕ → Option ℕ) (event : Own) (before : List Own) (run : IsRunBy (Next turns) (event ∷ before)) (tell : TellsInfos info later turns before event)
      (said : SaidElse info turns before) (next : Coming info turns before) where
    abbrev d : Desk
    d = place_after turns before

    abbrev row : Row
    row = row_now d event.read event.ready

    may : MayCome (due_at row d) event.came
    may = subst (λ (x : NeedData). MayCome x event.came) (sym run.1.0) run.1.1

    says : KnowsAt (IsSaid before) (facts before) row d
    says = arrive_says (IsSaid before) (facts before) d event.read event.ready d.row (all_kept turns before run.0).1

    arrived : coming row d.pass ≡ coming d.row d.pass
    arrived = arrives_coming d.row d.pass d event.read event.ready

    next_on : Coming later turns (event ∷ before)
    next_on it moment is there = ⊎_elim
        (λ (e : tells row d.pass event.read event.came ≡ Some it). tell.told it e moment there)
        (λ (w : (coming row d.pass ≡ Some it) × (tells row d.pass event.read event.came ≡ None)). let was : coming d.row d.pass ≡ Some it = sym arrived ∙ w.0 in next it moment was (tell.next it was w.1 moment there))
        (row_leads row event.read event.came d may it is)

    learnt : (n moment : ℕ) → known_by event.due event.came (births before).command n false ≡ true → later n ≡ Some moment → (births (event ∷ before)).of n ≡ moment
    learnt n moment e there = ap (λ (x : NeedData). (births_by (births before) event.read x event.came).of n) (sym run.1.0) ∙ l.3 ∙ next l.0 moment was had where
      l : Learnt (IsSaid before) (facts before) d event.read (has_unlinked before) (work before) n row event.came
      l = row_learns (IsSaid before) (facts before) d event.read (has_unlinked before) (work before) n row event.came may (cleared_here turns before event.read event.ready run.0) says
          (ap (λ (x : NeedData). known_by x event.came (births before).command n false) run.1.0 ∙ e)

      was : coming d.row d.pass ≡ Some l.0
      was = sym arrived ∙ l.1

      had : info l.0.n ≡ Some moment
      had = tell.next l.0 was l.4 moment (ap later l.2 ∙ there)

    said_on : Said later turns (event ∷ before)
    said_on n moment alive known there = by (known_by event.due event.came (births before).command n false) refl where
      by : (b : Bool) → known_by event.due event.came (births before).command n false ≡ b → (births (event ∷ before)).of n ≡ moment
      by true e = learnt n moment e there
      by false e =
          let was : known_in before n ≡ true = was_known event before n known e in
          let held = held_before turns event before run n alive known in
          birth_kept n event.read (births before) event.due event.came (known_in before n) e known ∙ said n moment held was (tell.known n moment held was there)

  pub infos_on : (info later : ℕ → Option ℕ) (event : Own) (before : List Own) → IsRunBy (Next turns) (event ∷ before) → TellsInfos info later turns before event → AreInfos info turns before
      → Said later turns (event ∷ before) × Coming later turns (event ∷ before)
  infos_on info later event before run tell h = (said_on info later event before run tell h.0 h.1, next_on info later event before run tell h.0 h.1)

  -- of each that the sender knows
  pub known_said : (info : ℕ → Option ℕ) (past : List Own) → IsRunBy (Next turns) past → has_ended (place_after turns past).row ≡ false → Said info turns past → (k : Known)
      → Contains (place_after turns past).book.messages.known k → (moment : ℕ) → info k.n ≡ Some moment → k.birth ≡ moment
  known_said info past run alive said k there moment is =
      All-contains (λ (x : Known). x.birth ≡ (births past).of x.n) (place_after turns past).book.messages.known k (known_are_of_past turns past run alive).born there
      ∙ said k.n moment alive (known_now turns past run k there) is

  all_said : (infos : Infos) (past : List Own) → IsRunBy (Next turns) past → AllTellInfos infos turns past → Said (infos past) turns past × Coming (infos past) turns past
  all_said infos [] run all = none_known (infos [])
  all_said infos (event ∷ before) run all =
      infos_on (infos before) (infos (event ∷ before)) event before run all.1 (else_said (infos before) before (all_said infos before run.0 all.0))

pub births_are_infos : BirthsAreInfos
births_are_infos infos turns past run all alive k there moment is = known_said turns (infos past) past run alive (all_said turns infos past run all).0 k there moment is
