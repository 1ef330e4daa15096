-- A message that a sender has met it has met still after its next event.
use Rattle.std.proofs.Common.{◌≡◌, ◌≢◌, ◌⊎◌, inl, inr, ⊎_elim, ◌<◌, ◌≤◌, ◌^◌, ℕ, List, [], ◌∷◌, Bool, true, false, if◌then◌else◌, bytes_eq, Option, Some, None, refl, sym, ap, ◌∙◌, subst, eq-eqb, eqb-true}
use Rattle.std.specs.Prelude.{◌||◌, ◌&&◌, ◌==◌}
use Rattle.address_rules.specs.declared.controls.Controls.{Controls}
use Rattle.call_fs.specs.Columns.{IsAnswerTo}
use Rattle.call_fs.specs.Program.{MayCome}
use Rattle.call_fs.specs.declared.calls.Answer.{Answer}
use Rattle.call_fs.specs.declared.calls.Answer.TheVariants as answer
use Rattle.call_fs.specs.declared.calls.CallData.TheVariants as call
use Rattle.call_fs.specs.declared.calls.FsError.TheVariants as why
use Rattle.call_fs.specs.declared.calls.How.TheVariants as how
use Rattle.call_fs.specs.declared.past.GotData.{GotData}
use Rattle.call_fs.specs.declared.past.GotData.TheVariants as came
use Rattle.call_fs.specs.declared.past.NeedData.{NeedData}
use Rattle.call_fs.specs.declared.past.NeedData.TheVariants as needs
use Rattle.call_fs.specs.declared.past.Own.{Own}
use Rattle.call_fs.specs.declared.program.Port.TheVariants as port
use Rattle.call_fs.specs.declared.program.Ready.{Ready}
use Rattle.queue_paths.specs.Names.{Name, path}
use Rattle.queue_paths.specs.Names.Name.{Of}
use Rattle.queue_paths.specs.Names.Part.{Remote as RemoteFile}
use Rattle.queue_paths.proofs.Paths.{parse-path}
use Rattle.retry_law.specs.Left.{is_left, leaves}
use Rattle.send_core.proofs.Asked.{Facts, KnowsAt, PassSays}
use Rattle.send_core.proofs.Coming.{by_file}
use Rattle.send_core.proofs.Runs.{all_kept, facts}
use Rattle.send_core.proofs.Says.{arrive_says}
use Rattle.send_core.specs.Births.{births}
use Rattle.send_core.specs.Senders.{IsSaid}
use Rattle.send_core.specs.Table.{act, arrive, due_at, row_now}
use Rattle.send_core.specs.Desk.{ready as made_ready}
use Rattle.send_core.specs.Turn.{todo_went}
use Rattle.send_core.specs.declared.desk.Desk.{Desk}
use Rattle.send_parts.specs.declared.row.Row.{Row}
use Rattle.send_parts.specs.declared.row.Row.TheVariants as at
use Rattle.send_parts.specs.Channels.{file_of}
use Rattle.send_parts.specs.declared.rows.FinishRow.TheVariants as finish
use Rattle.send_parts.specs.declared.rows.StartRow.{StartRow}
use Rattle.send_parts.specs.declared.rows.StartRow.TheVariants as start
use Rattle.send_parts.specs.declared.rows.SweepRow.TheVariants as sweep
use Rattle.send_parts.specs.declared.step.Step.TheVariants as step
use Rattle.send_parts.specs.Replies.{said}
use Rattle.send_parts.specs.Start.{act_start}
use Rattle.send_parts.specs.Steps.{remove_text}
use Rattle.send_runs.proofs.Knowing.{finish_still, give_still, mark_still, one_passed, one_removed, pass_still, reading_still, same_texts, start_still, sweep_still, take_still}
use Rattle.send_runs.specs.Knowing.{answered, known_by, known_in, looked_for}
use Rattle.todo_pass.specs.declared.row.Row.{Row as PassRow}
use Rattle.todo_pass.specs.declared.row.Row.TheVariants as todo
use Rattle.todo_pass.specs.declared.row.Why.TheVariants as left
use Rattle.todo_pass.specs.Table.{Pass, command_text, moved as pass_moved, moved_at}
use Rattle.todo_pass.specs.Table as pass_table
use Rattle.settle_law.proofs.ScanSteps.{IsUnderWay, Looks, leads_comes, start_comes}
use Rattle.settle_law.specs.inside.Met.{Comes, ScanComes, ScanShows, Shows, StaysMet}
use Rattle.settle_law.specs.Suffices.{desk_of}

or_true : (b : Bool) → (b || true) ≡ true
or_true true = refl
or_true false = refl

if_true : (b : Bool) → (if b then true else true) ≡ true
if_true true = refl
if_true false = refl

module _ (S : ℕ → List ℕ → Type 0) (t : Facts) (d : Desk) (now n : ℕ) (low : 1 ≤ n) (high : n < 2 ^ 64) where
  abbrev By : NeedData → GotData → Bool → Bool
  By due got was = known_by due got t.births.command n was

  -- What is known stays known, unless it is removed

  abbrev Stays : Row → GotData → Type 0
  Stays row got = By (due_at row d) got true ≡ true

  looked_stays : (m : ℕ) (told : Answer) → looked_for (Some (Of RemoteFile m)) told n true ≡ true
  looked_stays m (answer.Stat stat) = or_true (m == n)
  looked_stays m (answer.Refused why.NotThere) = or_true (m == n)
  looked_stays m told = refl

  start_stays : (row : StartRow) (got : GotData) → MayCome (due_at (at.Start row) d) got → Stays (at.Start row) got
  start_stays (start.StatRemote dir m birth local) got may =
      by_file (due_at (at.Start (start.StatRemote dir m birth local)) d) tt (Stays (at.Start (start.StatRemote dir m birth local))) got may
      (λ told fit. ap (λ (o : Option Name). looked_for o told.answer n true) (parse-path (Of RemoteFile m)) ∙ looked_stays m told.answer)
  start_stays row got may = start_still row d (λ look. absurd look) got t.births.command n true

  -- the answer to the command of a pass
  passed_stays : (m : ℕ) (good : Bool) → t.births.command ≡ command_text m → answered t.births.command good n true ≡ true
  passed_stays m good gave = ap (λ (text : List ℕ). answered text good n true) gave ∙ if_true _

  pass_stays : (row : PassRow) (p : Pass) (got : GotData) → PassSays S t row p → By (pass_table.due_at row p) got true ≡ true
  pass_stays todo.Answer p (came.Took bytes) says = passed_stays p.n (bytes_eq bytes (43 ∷ [])) says.2
  pass_stays todo.Answer p got says = refl
  pass_stays todo.StatMess p got says = pass_still todo.StatMess p tt got t.births.command n true
  pass_stays row p got says = refl

  -- the answer to the command by which another message is removed
  removed_stays : (m : ℕ) (got : GotData) → m ≢ n → t.births.command ≡ remove_text m → By (needs.Take port.Clean) got true ≡ true
  removed_stays m (came.Took bytes) far gave =
      ap (λ (text : List ℕ). answered text (bytes_eq bytes (43 ∷ [])) n true) gave
      ∙ by (m == n) refl
    where
      by : (x : Bool) → (m == n) ≡ x → answered (remove_text m) (bytes_eq bytes (43 ∷ [])) n true ≡ true
      by true e = absurd (far (eqb-true m n e))
      by false e = ap (λ (x : Bool). if x then false else true) (same_texts remove_text one_removed m n ∙ e)
  removed_stays m got far gave = refl

  row_stays : (row : Row) (got : GotData) → MayCome (due_at row d) got → KnowsAt S t row d → Shows row d got n → Stays row got
  row_stays (at.Start row) got may says shows = start_stays row got may
  row_stays (at.Turn p) got may says shows = absurd may
  row_stays (at.TakeLink c) got may says shows = take_still c d got t.births.command n true
  row_stays (at.Mark row m) got may says shows = mark_still row m d got t.births.command n true
  row_stays (at.UnlinkFile c k p) got may says shows = refl
  row_stays (at.ReadFile c k begun reading) got may says shows =
      reading_still reading (step.Open (file_of c k) how.Read) d.book.read (λ g command i was. refl) got t.births.command n true
  row_stays (at.Request c) got may says shows = give_still c d got t.births.command n true
  row_stays (at.FindTodo search) got may says shows = refl
  row_stays at.InTodo got may says shows = pass_stays d.pass.row d.pass got says.1
  row_stays (at.Finish finish.Take k) got may says shows = removed_stays k got shows says.1
  row_stays (at.Finish row k) got may says shows = finish_still row k d (λ e. cc) got t.births.command n true
  row_stays (at.Sweep (sweep.Take dir k)) got may says shows = removed_stays k got shows says.1
  row_stays (at.Sweep row) got may says shows = sweep_still row d (λ dir k e. cc) got t.births.command n true
  row_stays (at.Ended status) got may says shows = absurd may

  -- What is still to come is known or still to come after the event

  module _ (was : Bool) where
    abbrev Then : Row → GotData → Type 0
    Then row got = (By (due_at row d) got was ≡ true) ⊎ Comes (act row now got d).row (act row now got d) n

    abbrev Looked : (dir m birth : ℕ) (local : Bool) (told : Answer) (bytes : List ℕ) → Desk
    Looked dir m birth local told bytes = act (at.Start (start.StatRemote dir m birth local)) now (came.Answered (record { answer = told; bytes = bytes })) d

    looked_then : (dir m birth : ℕ) (local : Bool) → m ≡ n → (told : Answer) (bytes : List ℕ) → IsAnswerTo (call.Stat (path (Of RemoteFile m))) told
        → (looked_for (Some (Of RemoteFile m)) told n was ≡ true) ⊎ Comes (Looked dir m birth local told bytes).row (Looked dir m birth local told bytes) n
    looked_then dir m birth local this (answer.Stat stat) bytes fit = inl (ap (λ (x : Bool). x || was) (eq-eqb m n this))
    looked_then dir m birth local this (answer.Refused why.NotThere) bytes fit = inl (ap (λ (x : Bool). x || was) (eq-eqb m n this))
    looked_then dir m birth local this (answer.Refused why.Fault) bytes fit = inr tt
    looked_then dir m birth local this told bytes fit = absurd fit

    looks_then : (row : StartRow) (got : GotData) → MayCome (due_at (at.Start row) d) got → Looks n low high row → Then (at.Start row) got
    looks_then (start.StatRemote dir m birth local) got may this =
        by_file (due_at (at.Start (start.StatRemote dir m birth local)) d) tt (Then (at.Start (start.StatRemote dir m birth local))) got may
        (λ told fit. ⊎_elim
        (λ (known : looked_for (Some (Of RemoteFile m)) told.answer n was ≡ true). inl (ap (λ (o : Option Name). looked_for o told.answer n was) (parse-path (Of RemoteFile m)) ∙ known))
        (λ (comes : Comes (Looked dir m birth local told.answer told.bytes).row (Looked dir m birth local told.answer told.bytes) n). inr comes)
        (looked_then dir m birth local this told.answer told.bytes fit))
    looks_then row got may this = absurd this

    under_way : (row : StartRow) (got : GotData) → MayCome (due_at (at.Start row) d) got → IsUnderWay n low high row
    under_way (start.Ended status) got may = absurd may
    under_way row got may = tt

    start_then : (row : StartRow) (got : GotData) → MayCome (due_at (at.Start row) d) got → ScanShows row d.book (said got) n → ScanComes row d.book.after n → Then (at.Start row) got
    start_then row got may shows h = ⊎_elim
        (λ (looks : Looks n low high row). looks_then row got may looks)
        (λ (comes : ScanComes (act_start row (said got) d.book).row (act_start row (said got) d.book).after n).
        inr (leads_comes n low high (act_start row (said got) d.book).row (act (at.Start row) now got d) comes))
        (start_comes n low high row (said got) d.book (under_way row got may) shows h)

    -- the answer to the command of a pass
    passed_then : (p : Pass) (bytes : List ℕ) → p.n ≡ n → bytes_eq bytes (43 ∷ []) ≡ true → t.births.command ≡ command_text p.n → answered t.births.command (bytes_eq bytes (43 ∷ [])) n was ≡ true
    passed_then p bytes this good gave =
        ap (λ (x : Bool). answered t.births.command x n was) good
        ∙ ap (λ (text : List ℕ). answered text true n was) (gave ∙ ap command_text this)
        ∙ ap (λ (x : Bool). if x && true then true else was) (same_texts command_text one_passed n n ∙ eq-eqb n n refl)

    -- which wasn't left
    good_answer : (good : Bool) → is_left (if good then todo.Done else todo.Left left.Unclean) ≡ false → good ≡ true
    good_answer true e = refl
    good_answer false e = absurd (cc)

    pass_then : (row : PassRow) (p next : Pass) (controls : Controls) (got : GotData) → MayCome (pass_table.due_at row p) got → PassSays S t row p → is_left (moved_at controls row p now got).row ≡ false → row ≡ todo.Answer
        → p.n ≡ n → (By (pass_table.due_at row p) got was ≡ true) ⊎ Comes (todo_went row got next now d).row (todo_went row got next now d) n
    pass_then todo.Answer p next controls (came.Took bytes) may says stays e this = inl (passed_then p bytes this (good_answer (bytes_eq bytes (43 ∷ [])) stays) says.2)
    pass_then todo.Answer p next controls came.End may says stays e this = inr tt
    pass_then todo.Answer p next controls came.Failed may says stays e this = inr tt
    pass_then todo.Answer p next controls got may says stays e this = absurd may
    pass_then row p next controls got may says stays e this = absurd (cc)

    -- no todo pass is left
    abbrev Goes : Row → GotData → Type 0
    Goes at.InTodo got = is_left (pass_moved d.book.controls d.pass now got).row ≡ false
    Goes row got = Unit {0}

    row_then : (row : Row) (got : GotData) → MayCome (due_at row d) got → KnowsAt S t row d → Goes row got → Shows row d got n → Comes row d n → Then row got
    row_then (at.Start row) got may says goes shows h = start_then row got may shows h
    row_then at.InTodo got may says goes shows h = pass_then d.pass.row d.pass (pass_moved d.book.controls d.pass now got) d.book.controls got may says.1 goes h.0 h.1
    row_then (at.Ended status) got may says goes shows h = absurd may
    row_then row got may says goes shows h = absurd h

arrives_to : (n : ℕ) (d : Desk) (now : ℕ) (ready : Ready) (row : Row) → Comes row d n → Comes (arrive row d now ready) d n
arrives_to n d now ready (at.Turn p) h = absurd h
arrives_to n d now ready row h = h

ready_comes : (n : ℕ) (d : Desk) (row : Row) → Comes row d n → Comes row (made_ready d) n
ready_comes n d (at.Start row) h = h
ready_comes n d at.InTodo h = h
ready_comes n d (at.Ended status) h = tt
ready_comes n d row h = absurd h

goes_on : (row : Row) (d : Desk) (event : Own) → leaves row d event ≡ false → (S : ℕ → List ℕ → Type 0) (t : Facts) (n : ℕ) (low : 1 ≤ n) (high : n < 2 ^ 64) (was : Bool) → Goes S t d event.read n low high was row event.came
goes_on at.InTodo d event stays S t n low high was = stays
goes_on row d event stays S t n low high was = tt

pub stays_met : StaysMet
stays_met event past run stays n low high shows met = ⊎_elim
    (λ (known : known_in past n ≡ true).
    inl (ap (λ (b : Bool). known_by event.due event.came (births past).command n b) known ∙ by_due true (row_stays (IsSaid past) (facts past) d event.read n low high row event.came may says shows)))
    (λ (comes : Comes d.row d n). ⊎_elim
    (λ (learnt : known_by (due_at row d) event.came (births past).command n (known_in past n) ≡ true). inl (by_due (known_in past n) learnt))
    (λ (later : Comes (act row event.read event.came d).row (act row event.read event.came d) n). inr (ready_comes n (act row event.read event.came d) (act row event.read event.came d).row later))
    (row_then (IsSaid past) (facts past) d event.read n low high (known_in past n) row event.came may says (goes_on row d event stays (IsSaid past) (facts past) n low high (known_in past n)) shows (arrives_to n d event.read event.ready d.row comes)))
    met
  where
    d : Desk
    d = desk_of past

    row : Row
    row = row_now d event.read event.ready

    may : MayCome (due_at row d) event.came
    may = subst (λ (x : NeedData). MayCome x event.came) (sym run.1.0) run.1.1

    says : KnowsAt (IsSaid past) (facts past) row d
    says = arrive_says (IsSaid past) (facts past) d event.read event.ready d.row (all_kept None past run.0).1

    by_due : (b : Bool) → known_by (due_at row d) event.came (births past).command n b ≡ true → known_by event.due event.came (births past).command n b ≡ true
    by_due b e = ap (λ (due : NeedData). known_by due event.came (births past).command n b) (sym run.1.0) ∙ e
