-- Why a run of the sender ended so.
use Rattle.std.proofs.Common.{◌≡◌, ◌⊎◌, ℕ, zero, suc, ◌<◌, List, [], ◌∷◌, ◌++◌, Bool, true, false, Option, Some, None, refl, sym, ap, ◌∙◌, subst, inl, inr, ⊎_elim, arith}
use Rattle.std.specs.Prelude.{Contains, is_some}
use Rattle.call_fs.specs.declared.past.ChildData.{ChildData}
use Rattle.call_fs.specs.declared.past.GotData.{GotData}
use Rattle.call_fs.specs.declared.past.NeedData.{NeedData}
use Rattle.call_fs.specs.declared.past.NeedData.TheVariants.{Ended as End}
use Rattle.call_fs.specs.declared.past.Own.{Own}
use Rattle.call_fs.specs.declared.program.Port.{Port}
use Rattle.call_fs.specs.declared.program.Port.TheVariants as port
use Rattle.call_fs.specs.Past.{HasCall, HoldsOf, IsFault, IsRunBy}
use Rattle.mail_bytes.specs.Told.{Rose}
use Rattle.outside.specs.Children.{Posted, is_failure}
use Rattle.outside.specs.Children.SpawnCall.{Feed}
use Rattle.outside.specs.declared.posts.Post.{Post}
use Rattle.outside.specs.declared.posts.Post.TheVariants as post
use Rattle.outside.specs.declared.posts.Waiting.{Waiting}
use Rattle.outside.specs.declared.posts.Waiting.TheVariants as waiting
use Rattle.outside.specs.declared.sink.Gave.TheVariants as gave
use Rattle.program_runner.specs.Lines.{HasOne, IsFailedAnswer, IsFailedCall, LineState, brought, line_of, link_line, link_of, piece_of}
use Rattle.program_runner.specs.Outside.{Outside}
use Rattle.program_runner.specs.Members.{AllHaveBytes, Beside, HasEndedSo, Leads, Step, all_asked, all_calls, events_of}
use Rattle.program_runner.specs.Members.Step.{Acted, Looked}
use Rattle.send_core.specs.Table.{Next, place_after, row_now}
use Rattle.send_command.specs.Ends.{AreLinked, Ended, EndsBy, HasBadFile, IsCut, IsLost, LacksDir, OfLink, OneEnded, in_start, turns_made}
use Rattle.send_command.specs.Ends.EndsBy.{AllMade, BadFile, FailedStart, LostCleaner, LostLocal, LostRemote, Starved}
use Rattle.send_command.specs.Sent.{HasRunOver, Is, Logged}
use Rattle.send_command.proofs.BadFiles.{has_bad}
use Rattle.send_command.proofs.Going.{IsOver}
use Rattle.send_command.proofs.Lost.{Loses, is_cut}
use Rattle.send_command.proofs.Made.{made_all}
use Rattle.send_command.proofs.Steps.{BadAt, Event, OfCall, OfLoss}
use Rattle.send_command.proofs.Steps.Event.{Bad, Called, Lost, Made}
use Rattle.send_command.proofs.Steps.OfCall.{Faulty, NoDir, NoMemory}
use Rattle.send_command.proofs.Steps.OfLoss.{NoCleaner, NoLocal, NoRemote}
use Rattle.send_command.proofs.Turns.{AllBring, Why, ends_for}

pub brings : (steps : List Step) → AllHaveBytes steps → AllBring (events_of steps)
brings [] h = tt
brings (Acted asked event calls ∷ before) h = (h.0, brings before h.1)
brings (Looked asked read ready due ∷ before) h = brings before h

-- By the newest event

module _ (turns : ℕ) (event : Own) (before : List Own) where
  call_by : (due : NeedData) (came : GotData) (status : ℕ) → in_start turns before ≡ true → OfCall due came status → event.due ≡ due → event.came ≡ came → EndsBy turns (event ∷ before) status
  call_by _ _ _ start (Faulty c told f) due came = FailedStart event before start (inl (record { call = c; told = told; due = due; came = came; holds = f }))
  call_by _ _ _ start (NoDir c told f) due came = FailedStart event before start (inr (record { call = c; told = told; due = due; came = came; holds = f }))
  call_by _ _ _ start (NoMemory c told f) due came = Starved event before start (record { call = c; told = told; due = due; came = came; holds = f })

  loss_by : (status : ℕ) → OfLoss event.due event.came status → EndsBy turns (event ∷ before) status
  loss_by _ (NoCleaner h) = LostCleaner event before h
  loss_by _ (NoLocal h) = LostLocal event before h
  loss_by _ (NoRemote h) = LostRemote event before h

  event_by : (bad : Type 0) (status : ℕ) → Event bad (in_start turns before) event.due event.came status → (status ≡ 0 → 0 < turns → turns_made turns (event ∷ before) ≡ turns) → (status ≡ 85 → HasBadFile (event ∷ before))
      → EndsBy turns (event ∷ before) status
  event_by _ _ (Made late) made bad = AllMade (event ∷ before) (made refl)
  event_by _ _ (Bad it) made bad = BadFile (event ∷ before) (bad refl)
  event_by _ _ (Lost status l) made bad = loss_by status l
  event_by _ _ (Called status start c) made bad = call_by event.due event.came status start c refl refl

cause_by : (turns : ℕ) (past : List Own) (status : ℕ) → Why turns past status → (status ≡ 0 → 0 < turns → turns_made turns past ≡ turns) → (status ≡ 85 → HasBadFile past) → EndsBy turns past status
cause_by turns [] status why made bad = absurd why
cause_by turns (event ∷ before) status why made bad =
    let d = place_after (Some turns) before in event_by turns event before (BadAt (row_now d event.read event.ready) d event.came) status why made bad

-- which link was lost

abbrev bad_at : ℕ → Own → List Own → Type 0
bad_at turns event before = let d = place_after (Some turns) before in BadAt (row_now d event.read event.ready) d event.came

no_call : (due : NeedData) (came : GotData) (status : ℕ) → OfCall due came status → (status ≡ 84) ⊎ (status ≡ 51)
no_call _ _ _ (Faulty c told f) = inl refl
no_call _ _ _ (NoDir c told f) = inl refl
no_call _ _ _ (NoMemory c told f) = inr refl

module _ (due : NeedData) (came : GotData) where
  of_cleaner : (status : ℕ) → OfLoss due came status → status ≡ 81 → IsLost port.Clean due came
  of_cleaner _ (NoCleaner h) is = h
  of_cleaner _ (NoLocal h) is = absurd (omega (arith, is))
  of_cleaner _ (NoRemote h) is = absurd (omega (arith, is))

  of_local : (status : ℕ) → OfLoss due came status → status ≡ 82 → IsLost port.Lspawn due came
  of_local _ (NoCleaner h) is = absurd (omega (arith, is))
  of_local _ (NoLocal h) is = h
  of_local _ (NoRemote h) is = absurd (omega (arith, is))

  of_remote : (status : ℕ) → OfLoss due came status → status ≡ 83 → IsLost port.Rspawn due came
  of_remote _ (NoCleaner h) is = absurd (omega (arith, is))
  of_remote _ (NoLocal h) is = absurd (omega (arith, is))
  of_remote _ (NoRemote h) is = h

  module _ (bad : Type 0) (starting : Bool) (P : Type 0) (lost : ℕ) (by : (status : ℕ) → OfLoss due came status → status ≡ lost → P) (low : 80 < lost) (high : lost < 84) where
    lost_by : (status : ℕ) → Event bad starting due came status → status ≡ lost → P
    lost_by _ (Made late) is = absurd (omega (arith, is, low))
    lost_by _ (Bad it) is = absurd (omega (arith, is, high))
    lost_by _ (Lost status l) is = by status l is
    lost_by _ (Called status start c) is = absurd (⊎_elim (λ a. omega (arith, a, is, high)) (λ b. omega (arith, b, is, low)) (no_call due came status c))

-- a bad control file
module _ (due : NeedData) (came : GotData) (bad : Type 0) (starting : Bool) where
  no_loss : (status : ℕ) → OfLoss due came status → status ≡ 85 → ⊥
  no_loss _ (NoCleaner h) is = omega (arith, is)
  no_loss _ (NoLocal h) is = omega (arith, is)
  no_loss _ (NoRemote h) is = omega (arith, is)

  of_bad : (status : ℕ) → Event bad starting due came status → status ≡ 85 → bad
  of_bad _ (Made late) is = absurd (omega (arith, is))
  of_bad _ (Bad it) is = it
  of_bad _ (Lost status l) is = absurd (no_loss status l is)
  of_bad _ (Called status start c) is = absurd (⊎_elim (λ a. omega (arith, a, is)) (λ b. omega (arith, b, is)) (no_call due came status c))

bad_by : (turns : ℕ) (past : List Own) (status : ℕ) → IsRunBy (Next (Some turns)) past → Why turns past status → status ≡ 85 → HasBadFile past
bad_by turns [] status run why is = absurd why
bad_by turns (event ∷ before) status run why is =
    has_bad turns event before run (of_bad event.due event.came (bad_at turns event before) (in_start turns before) status why is)

loses_cleaner : (turns : ℕ) (past : List Own) (status : ℕ) → Why turns past status → status ≡ 81 → Loses port.Clean past
loses_cleaner turns [] status why is = absurd why
loses_cleaner turns (event ∷ before) status why is =
    lost_by event.due event.came (bad_at turns event before) (in_start turns before) (IsLost port.Clean event.due event.came) 81 (of_cleaner event.due event.came) (omega arith) (omega arith) status why is

loses_local : (turns : ℕ) (past : List Own) (status : ℕ) → Why turns past status → status ≡ 82 → Loses port.Lspawn past
loses_local turns [] status why is = absurd why
loses_local turns (event ∷ before) status why is =
    lost_by event.due event.came (bad_at turns event before) (in_start turns before) (IsLost port.Lspawn event.due event.came) 82 (of_local event.due event.came) (omega arith) (omega arith) status why is

loses_remote : (turns : ℕ) (past : List Own) (status : ℕ) → Why turns past status → status ≡ 83 → Loses port.Rspawn past
loses_remote turns [] status why is = absurd why
loses_remote turns (event ∷ before) status why is =
    lost_by event.due event.came (bad_at turns event before) (in_start turns before) (IsLost port.Rspawn event.due event.came) 83 (of_remote event.due event.came) (omega arith) (omega arith) status why is

-- What failed was counted

first_one : {X : Type 0} (P : X → Type 0) (a b : List X) → HasOne P a → HasOne P (a ++ b)
first_one P [] b h = absurd h
first_one P (x ∷ a) b (inl h) = inl h
first_one P (x ∷ a) b (inr h) = inr (first_one P a b h)

has_one : {X : Type 0} (P : X → Type 0) (xs : List X) (x : X) → P x → Contains xs x → HasOne P xs
has_one P [] x p (k, lt, is) = absurd (omega (arith, lt))
has_one P (y ∷ xs) x p (zero, lt, is) = inl (subst P (sym is) p)
has_one P (y ∷ xs) x p (suc k, lt, is) = inr (has_one P xs x p (k, omega (arith, lt), is))

abbrev IsFailure : Waiting → Type 0
IsFailure (waiting.Failed chan) = Unit {0}
IsFailure (waiting.Bytes chan bytes) = ⊥
IsFailure (waiting.End chan) = ⊥

failed_at : (p : Posted) (rest : List Posted) → (HasOne IsFailure (brought rest) → HasOne IsFailedAnswer rest) → (a : Post) → p.answer ≡ a → HasOne IsFailure (piece_of a p.bytes ++ brought rest)
    → HasOne IsFailedAnswer (p ∷ rest)
failed_at p rest later (post.Bytes chan len) is (inl x) = absurd x
failed_at p rest later (post.Bytes chan len) is (inr k) = inr (later k)
failed_at p rest later (post.End chan) is (inl x) = absurd x
failed_at p rest later (post.End chan) is (inr k) = inr (later k)
failed_at p rest later (post.Failed chan) is (inl x) = inl (ap is_failure is)
failed_at p rest later (post.Failed chan) is (inr k) = inr (later k)
failed_at p rest later post.Turn is k = inr (later k)

told_failed : (asked : List Posted) → HasOne IsFailure (brought asked) → HasOne IsFailedAnswer asked
told_failed [] h = absurd h
told_failed (p ∷ rest) h = failed_at p rest (λ k. told_failed rest k) p.answer refl h

-- The whole

module _ (words : ChildData → List (List ℕ)) (turns status : ℕ) (old new : Outside) (beside now : Beside) (fresh : beside.lines.kept ≡ [])
    (r : HasEndedSo Next words (Unit {0}) (Is turns) old.last status old new beside now) where
  abbrev past : List Own
  past = events_of r.before

  abbrev leads : Leads words beside.lines r.before r.ran.did_beside.lines.0
  leads = r.ran.did_beside.lines.1

  run : IsRunBy (Next (Some turns)) past
  run = r.ran.run (Some turns) refl

  due : Next (Some turns) past r.read r.ready ≡ End status
  due = (r.ran.due (Some turns) refl).1

  why : Why turns past status
  why = ends_for turns past r.read r.ready status run (brings r.before (r.ran.some tt)) due

  cause : EndsBy turns past status
  cause = cause_by turns past status why
      (λ is some. made_all turns past r.read r.ready run (brings r.before (r.ran.some tt)) (due ∙ ap End is) some)
      (λ is. bad_by turns past status run why is)

  cut_of : (link : Port) (i : ℕ) → ((l : LineState) → line_of l link ≡ link_line (link_of l i)) → (o : Option ℕ) → link_of beside.lines i ≡ o → Loses link past → OfLink o (λ chan. IsCut chan r.before)
  cut_of link i line None is lost = tt
  cut_of link i line (Some chan) is lost = is_cut words beside.lines fresh link i chan is line r.before r.ran.did_beside.lines.0 leads lost

  cleaner : status ≡ 81 → OfLink (link_of beside.lines 0) (λ chan. IsCut chan r.before)
  cleaner is = cut_of port.Clean 0 (λ l. refl) (link_of beside.lines 0) refl (loses_cleaner turns past status why is)

  local : status ≡ 82 → OfLink (link_of beside.lines 1) (λ chan. IsCut chan r.before)
  local is = cut_of port.Lspawn 1 (λ l. refl) (link_of beside.lines 1) refl (loses_local turns past status why is)

  remote : status ≡ 83 → OfLink (link_of beside.lines 2) (λ chan. IsCut chan r.before)
  remote is = cut_of port.Rspawn 2 (λ l. refl) (link_of beside.lines 2) refl (loses_remote turns past status why is)

  module _ (linked : AreLinked beside.lines) (no_disk : ¬ (Rose old.disk_faults new.disk_faults)) (no_posts : ¬ (Rose beside.posts.faults now.posts.faults))
      (no_spawner : ¬ (Rose beside.spawner.faults now.spawner.faults)) (no_end : ¬ (OneEnded beside.lines r.before)) (no_bad : ¬ (HasBadFile past)) (no_dir : ¬ (HasCall past LacksDir)) where
    not_cut : (i chan : ℕ) → i < 3 → link_of beside.lines i ≡ Some chan → IsCut chan r.before → ⊥
    not_cut i chan small is (inl e) = no_end (i, chan, small, is, e)
    not_cut i chan small is (inr (inl f)) =
        no_posts (r.ran.did_beside.posts.cause (first_one IsFailedAnswer (all_asked r.before) r.asked (told_failed (all_asked r.before) (has_one IsFailure (brought (all_asked r.before)) (waiting.Failed chan) tt f))))
    not_cut i chan small is (inr (inr g)) =
        no_spawner (r.ran.did_beside.spawner.cause (first_one IsFailedCall (all_calls r.before) [] (has_one IsFailedCall (all_calls r.before) (Feed chan g.0 gave.Failed) refl g.1)))

    not_of : (i : ℕ) → i < 3 → (o : Option ℕ) → link_of beside.lines i ≡ o → OfLink o (λ chan. IsCut chan r.before) → ⊥
    not_of i small None is h = absurd (let differs : false ≡ true = subst (λ (x : Option ℕ). is_some x ≡ true) is (linked i small) in cc)
    not_of i small (Some chan) is h = not_cut i chan small is h

    not_fault : (event : Own) (before : List Own) → past ≡ event ∷ before → (HoldsOf IsFault event ⊎ HoldsOf LacksDir event) → ⊥
    not_fault event before is (inl f) = no_disk (r.ran.did.disk_cause (subst (λ (l : List Own). HasCall l IsFault) (sym is) (inl f)))
    not_fault event before is (inr d) = no_dir (subst (λ (l : List Own). HasCall l LacksDir) (sym is) (inl d))

    well : (some : List Own) (code : ℕ) → past ≡ some → status ≡ code → EndsBy turns some code → (status ≡ 0) ⊎ (status ≡ 51)
    well _ _ same is (AllMade some m) = inl is
    well _ _ same is (LostCleaner event before l) = absurd (not_of 0 (omega arith) (link_of beside.lines 0) refl (cleaner is))
    well _ _ same is (LostLocal event before l) = absurd (not_of 1 (omega arith) (link_of beside.lines 1) refl (local is))
    well _ _ same is (LostRemote event before l) = absurd (not_of 2 (omega arith) (link_of beside.lines 2) refl (remote is))
    well _ _ same is (BadFile some b) = absurd (no_bad (subst HasBadFile (sym same) b))
    well _ _ same is (FailedStart event before start f) = absurd (not_fault event before same f)
    well _ _ same is (Starved event before start s) = inr is

  ended : Ended turns r.before status old new beside now
  ended = record {
    cause = cause;
    cleaner = cleaner;
    local = local;
    remote = remote;
    complete = λ linked no_disk no_posts no_spawner no_end no_bad no_dir. well linked no_disk no_posts no_spawner no_end no_bad no_dir past status refl refl cause;
  }

pub run_over : (words : ChildData → List (List ℕ)) (turns status : ℕ) (old new : Outside) (beside now : Beside) (log logged : Logged) → beside.lines.kept ≡ []
    → IsOver words turns old beside log status new now logged → HasRunOver words turns status old new beside now log logged
run_over words turns status old new beside now log logged fresh o = record { ran = o.ran; took = o.took; why = ended words turns status old new beside now fresh o.ran }
