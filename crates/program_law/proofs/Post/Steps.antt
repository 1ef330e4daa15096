-- What comes of each row at which a spawner works.
use Rattle.std.proofs.Common.{◌≡◌, ◌≢◌, inl, ℕ, ◌+◌, ◌≤◌, List, [], ◌∷◌, ◌++◌, length, set, Bool, true, false, Option, Some, None, refl, sym, ap, ◌∙◌, subst, ⊎_elim, arith}
use Rattle.std.specs.Prelude.{◌==◌, if◌then◌else◌, nat_lt}
use Rattle.std.proofs.lemmas.Bool.{eq-eqb}
use Rattle.std.proofs.lemmas.List.{get_or-set_other}
use Rattle.call_fs.specs.Maps.{put}
use Rattle.call_fs.proofs.Maps.{put_cases}
use Rattle.call_fs.specs.declared.calls.Answer.{Answer}
use Rattle.call_fs.specs.declared.calls.Answer.TheVariants as answer
use Rattle.call_fs.specs.declared.calls.Fd.{Fd}
use Rattle.call_fs.specs.declared.calls.FsError.TheVariants as why
use Rattle.call_fs.specs.declared.file_system.TheConstants.{PIECE}
use Rattle.call_fs.specs.declared.past.DeliveryWordsData.{DeliveryWordsData}
use Rattle.call_fs.specs.declared.past.GotData.{GotData}
use Rattle.call_fs.specs.declared.past.GotData.TheVariants as came
use Rattle.outside.specs.declared.spawner.Status.{Status}
use Rattle.outside.specs.declared.spawner.Status.TheVariants as status
use Rattle.queue_limits.specs.declared.statuses.TheConstants.{INPUT}
use Rattle.send_known.specs.declared.channel.Channel.{Channel}
use Rattle.send_known.specs.declared.channel.Channel.TheVariants as channel
use Rattle.send_jobs.specs.Slots.{attempt_in}
use Rattle.spawn_protocol.specs.declared.report.Report.{Report}
use Rattle.spawn_protocol.specs.declared.request.Request.{Request}
use Rattle.spawner_parts.specs.declared.place.Place.{Place}
use Rattle.spawner_parts.specs.declared.row.Row.{Row}
use Rattle.spawner_parts.specs.declared.row.Row.TheVariants as at
use Rattle.spawner_parts.specs.Asked.{runs_in}
use Rattle.spawner_parts.specs.Counts.{asked, one, runs, times}
use Rattle.spawner_parts.specs.Table.{Kind, answers, exited, fed, no_memory, opened, opened_by, printed, read_by, read_on, unable}
use Rattle.spawner_parts.proofs.Tallies.{finished}
use Rattle.program_law.specs.Post.Posts.{AllTell, At, Done, Fares, IsAtWork, IsFor, IsTaskFor, Post, RunFor, Task, Tells, WasDoneFor, entered, goes_at, most, owed_at, reports, task_of, told_of}
use Rattle.mail_bytes.specs.Texts.{HasNoNul}
use Rattle.program_law.proofs.Post.Frames.{all_tell_more, serving, told_on}
use Rattle.program_law.proofs.Post.Rows.{goes_up, moves, over}
use Rattle.program_law.proofs.Post.Sums.{not_running, runs_more}
use Rattle.program_law.proofs.Post.TakesUp.{fed_is}
use Rattle.program_law.proofs.Post.Told.{IsAnswer, Speaks, due_answer, due_said, memory_is, said, said_letter, said_slot, unable_is, unwell}

-- where it is after a step, and that it isn't about to start a program
pub record Went (c : Channel) (q : Place) (y : Post) : Type 0 where
  pub fares : Fares c q y
  pub unstarted : q.row ≢ at.Start

launch_sum : (asked first busy told now room : ℕ) → asked + (((first + 0) + busy) + told) ≤ room → now ≤ first + busy → asked + ((0 + now) + told) ≤ room
launch_sum asked first busy told now room w v = omega arith

exit_sum : (asked first busy told still room : ℕ) → asked + ((0 + busy) + told) ≤ room → first + still ≡ busy → asked + (((first + 0) + still) + told) ≤ room
exit_sum asked first busy told still room w v = omega arith

idle_sum : (asked busy told room : ℕ) → asked + ((0 + busy) + told) ≤ room → asked + (busy + told) ≤ room
idle_sum asked busy told room w = omega arith

-- What runs, and what was done

-- of those that run one is left out
apart_run : (running : List Bool) (slot k : ℕ) → runs_in (set running slot false) k ≡ true → k ≢ slot
apart_run running slot k run e =
    let none : runs_in (set running slot false) k ≡ false = ap (runs_in (set running slot false)) e ∙ not_running running slot in
    absurd (cc)

less_run : (running : List Bool) (slot k : ℕ) → runs_in (set running slot false) k ≡ true → (k ≢ slot) × (runs_in running k ≡ true)
less_run running slot k run = (apart_run running slot k run, sym (get_or-set_other running slot k false false (apart_run running slot k run)) ∙ run)

module _ (running : List Bool) (tasks : ℕ → Option Task) (last : ℕ → Option Request) (slot : ℕ) where
  pub still_run : (c : Channel) → RunFor c running tasks last → RunFor c (set running slot false) tasks last
  still_run channel.Local h = λ k run. h k (less_run running slot k run).1
  still_run channel.Remote h = tt

  pub left_run : (c : Channel) → RunFor c running tasks last → RunFor c (set running slot false) (put tasks slot None) last
  left_run channel.Local h = λ k run.
      let w = less_run running slot k run in
      ⊎_elim
      (λ (v : (k ≡ slot) × (put tasks slot None k ≡ None)). absurd (w.0 v.0))
      (λ (v : (k ≢ slot) × (put tasks slot None k ≡ tasks k)). subst (λ (o : Option Task). IsTaskFor o (last k)) (sym v.1) (h k w.1))
      (put_cases tasks slot None k)
  left_run channel.Remote h = tt

-- a delivery that is started is for the request at work
pub starts_run : (running : List Bool) (tasks : ℕ → Option Task) (last : ℕ → Option Request) (r : Request) (name : List ℕ) (words : DeliveryWordsData) → IsFor words r → IsAtWork last r
    → RunFor channel.Local running tasks last → RunFor channel.Local (set running r.slot true) (put tasks r.slot (Some (task_of name words))) last
starts_run running tasks last r name words is work h k run =
    let t : Task = task_of name words in
    ⊎_elim
    (λ (v : (k ≡ r.slot) × (put tasks r.slot (Some t) k ≡ Some t)).
    subst (λ (o : Option Task). IsTaskFor o (last k)) (sym v.1)
    (subst (λ (o : Option Request). IsTaskFor (Some t) o) (sym (ap last v.0 ∙ work.last_is)) (is.sender, is.recipient)))
    (λ (v : (k ≢ r.slot) × (put tasks r.slot (Some t) k ≡ tasks k)).
    subst (λ (o : Option Task). IsTaskFor o (last k)) (sym v.1) (h k (sym (get_or-set_other running r.slot k true false v.0) ∙ run)))
    (put_cases tasks r.slot (Some t) k)

abbrev done_if : Bool → ℕ → Option Task → List Done → List Done
done_if b slot o done = if b then entered slot o done else done

well_if : (b : Bool) (slot : ℕ) (o : Option Task) (c : Channel) (done : List Done) (last : ℕ → Option Request) (rs : List Report) → AllTell c done last rs → AllTell c (done_if b slot o done) last rs
well_if true slot None c done last rs h = h
well_if true slot (Some t) c done last rs h = all_tell_more (record { slot = slot; task = t }) c done last rs h
well_if false slot o c done last rs h = h

done_for : (slot : ℕ) (o : Option Task) (l : Option Request) (done : List Done) → IsTaskFor o l → WasDoneFor (entered slot o done) slot l
done_for slot None l done h = absurd h
done_for slot (Some t) None done h = absurd h
done_for slot (Some t) (Some r) done h = record { it = record { slot = slot; task = t }; among = inl refl; slot_is = refl; sender = h.0; recipient = h.1 }

-- A success is told of a delivery that ended with 0.
well_told : (kind : Kind) → Speaks channel.Local kind → (done : List Done) (last : ℕ → Option Request) (slot code : ℕ) (output : List ℕ) (o : Option Task) → IsTaskFor o (last slot)
    → Tells channel.Local (done_if (code == 0) slot o done) last (said slot (kind.ended (status.Ended code) output))
well_told kind speaks done last slot code output o fits e =
    let report : List ℕ = kind.ended (status.Ended code) output in
    let well : status.Ended code ≡ status.Ended 0 = speaks.well refl (status.Ended code) output (sym (said_letter slot report) ∙ e) in
    let zero : code ≡ 0 = cc in
    subst (λ (k : ℕ). WasDoneFor (done_if (code == 0) slot o done) k (last k)) (sym (said_slot slot report))
    (subst (λ (b : Bool). WasDoneFor (done_if b slot o done) slot (last slot)) (sym (eq-eqb code 0 zero)) (done_for slot o (last slot) done fits))

ended_tells : (c : Channel) (kind : Kind) → Speaks c kind → (done : List Done) (last : ℕ → Option Request) (running : List Bool) (tasks : ℕ → Option Task) (slot code : ℕ) (output : List ℕ)
    → runs_in running slot ≡ true → RunFor c running tasks last → Tells c (done_if (code == 0) slot (tasks slot) done) last (said slot (kind.ended (status.Ended code) output))
ended_tells channel.Local kind speaks done last running tasks slot code output run h = well_told kind speaks done last slot code output (tasks slot) (h slot run)
ended_tells channel.Remote kind speaks done last running tasks slot code output run h = tt

-- and never of another end
lost_tells : (c : Channel) (kind : Kind) → Speaks c kind → (done : List Done) (last : ℕ → Option Request) (slot : ℕ) (ended : Status) (output : List ℕ) → ended ≢ status.Ended 0
    → Tells c done last (said slot (kind.ended ended output))
lost_tells channel.Local kind speaks done last slot ended output other =
    unwell channel.Local done last (said slot (kind.ended ended output)) (λ e. other (speaks.well refl ended output (sym (said_letter slot (kind.ended ended output)) ∙ e)))
lost_tells channel.Remote kind speaks done last slot ended output other = tt

-- Rows

module _ (c : Channel) (kind : Kind) (speaks : Speaks c kind) (x : Post) (base : Place) where
  abbrev here : Row → Place
  here r = record base { row = r }

  abbrev At_row : Row → Type 0
  At_row r = Fares c (here r) (serving x)

  abbrev Is : Place → Type 0
  Is q = Went c q (serving x)

  -- what is owed at a row: the request at work
  abbrev Owes : Row → Type 0
  Owes r = (k : ℕ) → times k (base.request.slot ∷ []) ≡ times k (owed_at r (here r))

  -- it is answered
  pub answered : (r : Row) → goes_at true r ≡ true → Owes r → (report : List ℕ) → IsAnswer report → At_row r → Is (answers report (here r))
  answered r goes owes report is F = record {
    fares = moves c x (here r) (answers report (here r)) goes refl refl refl owes (λ e. cc) (due_answer c x.done x.last base.request.slot report is) F;
    unstarted = λ e. cc;
  }

  -- it is at work still
  works_on : (r other : Row) (message : List ℕ) → goes_at true r ≡ true → goes_at true other ≡ true
      → ((k : ℕ) → times k (owed_at other (record base { row = other; message = message })) ≡ times k (owed_at r (here r))) → other ≢ at.Greet → other ≢ at.Start
      → At c x.done x.last other (record base { row = other; message = message }) → At_row r → Is (record base { row = other; message = message })
  works_on r other message goes goes_on same apart unstarted stands F = record {
    fares = moves c x (here r) (record base { row = other; message = message }) goes goes_on refl refl same apart stands F;
    unstarted = unstarted;
  }

  -- The message

  opening : (it : Answer) → At_row at.OpenMess → Is (opened_by it (here at.OpenMess))
  opening (answer.Opened fd) F = works_on at.OpenMess (at.ReadMess fd) base.message refl refl (λ k. refl) (λ e. cc) (λ e. cc) (F.stands refl) F
  opening (answer.Refused why.Memory) F = answered at.OpenMess refl (λ k. refl) no_memory memory_is F
  opening it F = answered at.OpenMess refl (λ k. refl) unable unable_is F

  pub opens : (got : GotData) → At_row at.OpenMess → Is (opened got (here at.OpenMess))
  opens (came.Answered told) F = opening told.answer F
  opens got F = answered at.OpenMess refl (λ k. refl) unable unable_is F

  module _ (fd : Fd) (F : At_row (at.ReadMess fd)) where
    closes_at : (whole : Bool) (message : List ℕ) → Is (record base { row = at.CloseMess fd whole; message = message })
    closes_at whole message = works_on (at.ReadMess fd) (at.CloseMess fd whole) message refl refl (λ k. refl) (λ e. cc) (λ e. cc) (F.stands refl) F

    read_row_is : (b : Bool) (message : List ℕ) → Is (record base { row = if b then at.CloseMess fd true else at.ReadMess fd; message = message })
    read_row_is true message = closes_at true message
    read_row_is false message = works_on (at.ReadMess fd) (at.ReadMess fd) message refl refl (λ k. refl) (λ e. cc) (λ e. cc) (F.stands refl) F

    reading : (it : Answer) (bytes : List ℕ) → Is (read_by fd it bytes (here (at.ReadMess fd)))
    reading (answer.Count count) bytes = read_row_is (nat_lt (length bytes) PIECE) (base.message ++ bytes)
    reading it bytes = closes_at false base.message

    pub reads : (got : GotData) → Is (read_on fd got (here (at.ReadMess fd)))
    reads (came.Answered told) = reading told.answer told.bytes
    reads got = closes_at false base.message

  -- what couldn't be read is answered
  pub closes_ill : (fd : Fd) → At_row (at.CloseMess fd false) → Is (answers unable (here (at.CloseMess fd false)))
  closes_ill fd F = answered (at.CloseMess fd false) refl (λ k. refl) unable unable_is F

  -- what was read is too, or its program is to be started
  pub closes_refused : (fd : Fd) (report : List ℕ) → IsAnswer report → At_row (at.CloseMess fd true) → Is (answers report (here (at.CloseMess fd true)))
  closes_refused fd report is F = answered (at.CloseMess fd true) refl (λ k. refl) report is F

  pub closes_well : (fd : Fd) (message : List ℕ) → At_row (at.CloseMess fd true) → Fares c (record base { row = at.Start; message = message }) (serving x)
  closes_well fd message F = moves c x (here (at.CloseMess fd true)) (record base { row = at.Start; message = message }) refl refl refl refl (λ k. refl) (λ e. cc) (F.stands refl) F

  -- A program

  pub starts_none : (report : List ℕ) → IsAnswer report → At_row at.Start → Is (answers report (here at.Start))
  starts_none report is F = answered at.Start refl (λ k. refl) report is F

  pub starts : (tasks : ℕ → Option Task) → RunFor c (set base.running base.request.slot true) tasks x.last → At_row at.Start
      → Went c (record base { row = at.Feed; running = set base.running base.request.slot true }) (record x { serves = true; tasks = tasks })
  starts tasks run F = record {
    fares = record {
      waits = F.waits;
      asks = F.asks;
      lasts = F.lasts;
      stands = λ e. tt;
      run = λ e. run;
      tells = λ live. told_on x.heard true true at.Start at.Feed x.told (λ e. cc) (λ e. refl) (F.tells live);
      well = F.well;
      once = λ k. launch_sum (asked k F.waits) (one k base.request.slot) (runs k base.running) (told_of k (reports (serving x))) (runs k (set base.running base.request.slot true))
          (most x.lives x.heard (attempt_in x.slots k)) (F.once k) (runs_more k base.request.slot base.running);
      flies = F.flies;
    };
    unstarted = λ e. cc;
  }

  pub feeds : At_row at.Feed → Is (fed (here at.Feed))
  feeds F =
      let w = goes_up c x (record base { row = at.Feed; message = [] }) F.waits F.lasts F.asks (F.run refl)
      (λ live row apart. told_on x.heard true true at.Feed row x.told apart (λ e. refl) (F.tells live)) F.well
      (λ k. idle_sum (asked k F.waits) (runs k base.running) (told_of k (reports (serving x))) (most x.lives x.heard (attempt_in x.slots k)) (F.once k)) F.flies in
      subst (λ (q : Place). Is q) (sym (fed_is (here at.Feed))) (record { fares = w.0; unstarted = w.1 })

  module _ (r : Row) (goes : goes_at true r ≡ true) (owes : (k : ℕ) → times k [] ≡ times k (owed_at r (here r))) (slot : ℕ) (run : runs_in base.running slot ≡ true) (F : At_row r) where
    takes_on : (other : Row) (output : List ℕ) → goes_at true other ≡ true → ((k : ℕ) → times k (owed_at other (record base { row = other; output = output })) ≡ times k []) → other ≢ at.Greet
        → other ≢ at.Start → At c x.done x.last other (record base { row = other; output = output }) → Is (record base { row = other; output = output })
    takes_on other output goes_on none apart unstarted stands = record {
      fares = moves c x (here r) (record base { row = other; output = output }) goes goes_on refl refl (λ k. none k ∙ owes k) apart stands F;
      unstarted = unstarted;
    }

    lost : Is (record base { row = at.Ended INPUT })
    lost = record { fares = over c x INPUT (here r) F; unstarted = λ e. cc }

    pub prints : (got : GotData) → Is (printed slot got (here r))
    prints (came.Took bytes) = takes_on (at.TakeOutput slot) (base.output ++ bytes) refl (λ k. refl) (λ e. cc) (λ e. cc) run
    prints came.End = takes_on (at.TakeStatus slot) base.output refl (λ k. refl) (λ e. cc) (λ e. cc) run
    prints got = lost

  module _ (slot : ℕ) (F : At_row (at.TakeStatus slot)) where
    exits : (report : List ℕ) (tasks : ℕ → Option Task) (done : List Done) → HasNoNul report → AllTell c done x.last (reports (serving x)) → Tells c done x.last (said slot report)
        → RunFor c (set base.running slot false) tasks x.last → Went c (exited slot report (here (at.TakeStatus slot))) (record x { serves = true; tasks = tasks; done = done })
    exits report tasks done plain well tells run = record {
      fares = record {
        waits = F.waits;
        asks = F.asks;
        lasts = F.lasts;
        stands = λ e. due_said c done x.last slot report plain tells;
        run = λ e. run;
        tells = λ live. told_on x.heard true true (at.TakeStatus slot) at.Report x.told (λ e. cc) (λ e. refl) (F.tells live);
        well = well;
        once = λ k. exit_sum (asked k F.waits) (one k slot) (runs k base.running) (told_of k (reports (serving x))) (runs k (set base.running slot false))
            (most x.lives x.heard (attempt_in x.slots k)) (F.once k) (finished k slot base.running (F.stands refl));
        flies = F.flies;
      };
      unstarted = λ e. cc;
    }

    exit_lost : (ended : Status) (tasks : ℕ → Option Task) → ended ≢ status.Ended 0 → RunFor c (set base.running slot false) tasks x.last
        → Went c (exited slot (kind.ended ended base.output) (here (at.TakeStatus slot))) (record x { serves = true; tasks = tasks })
    exit_lost ended tasks other run =
        exits (kind.ended ended base.output) tasks x.done (speaks.plain ended base.output) F.well (lost_tells c kind speaks x.done x.last slot ended base.output other) run

    pub exit_failed : Went c (exited slot (kind.ended status.Failed base.output) (here (at.TakeStatus slot))) (serving x)
    exit_failed = exit_lost status.Failed x.tasks (λ e. cc) (still_run base.running x.tasks x.last slot c (F.run refl))

    pub exit_ended : (code : ℕ) → Went c (exited slot (kind.ended (status.Ended code) base.output) (here (at.TakeStatus slot)))
        (record x { serves = true; tasks = put x.tasks slot None; done = done_if (code == 0) slot (x.tasks slot) x.done })
    exit_ended code = exits (kind.ended (status.Ended code) base.output) (put x.tasks slot None) (done_if (code == 0) slot (x.tasks slot) x.done) (speaks.plain (status.Ended code) base.output)
        (well_if (code == 0) slot (x.tasks slot) c x.done x.last (reports (serving x)) F.well)
        (ended_tells c kind speaks x.done x.last base.running x.tasks slot code base.output (F.stands refl) (F.run refl))
        (left_run base.running x.tasks x.last slot c (F.run refl))

    pub exit_crashed : Went c (exited slot (kind.ended status.Crashed base.output) (here (at.TakeStatus slot))) (record x { serves = true; tasks = put x.tasks slot None })
    exit_crashed = exit_lost status.Crashed (put x.tasks slot None) (λ e. cc) (left_run base.running x.tasks x.last slot c (F.run refl))
