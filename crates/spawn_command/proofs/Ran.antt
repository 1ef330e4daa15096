-- A run of a spawner: what it did, and why it ended so.
use Rattle.std.proofs.Common.{◌≡◌, ◌⊎◌, ℕ, List, [], ◌∷◌, false, replicate, Option, Some, None, Result, Ok, Err, refl, sym, ap, ◌∙◌, subst, inl, inr, ⊎_elim, arith}
use Rattle.std.specs.declared.alloc.AllocError.{AllocError}
use Rattle.call_fs.specs.declared.past.ChildData.{ChildData}
use Rattle.call_fs.specs.declared.past.NeedData.TheVariants.{Ended}
use Rattle.call_fs.specs.declared.past.Own.{Own}
use Rattle.call_fs.specs.Past.{IsRunBy, Table, taken}
use Rattle.mail_bytes.specs.Told.{Rose}
use Rattle.program_runner.specs.Serving.{PostsTold, SpawnerTold}
use Rattle.program_runner.specs.ChildWords.{words_of}
use Rattle.program_runner.specs.Lines.{HasOne, IsFailedAnswer, LineState}
use Rattle.program_runner.specs.Outside.{Outside}
use Rattle.program_runner.specs.Programs.{AreFresh, HasFailedToHear}
use Rattle.program_runner.specs.Runs.{most_turns}
use Rattle.program_runner.specs.Members.{Beside, GoesOnStill, HasEndedSo, IsRunOf, Leads, RanTo, Step, WasCut, all_asked, events_of}
use Rattle.program_runner.specs.Members.Step.{Looked}
use Rattle.program_runner.proofs.Members.{asks_so, begins}
use Rattle.spawn_command.specs.Spawned.{HasLongField, HasRunOver, StillRuns, WasCutShort, WasSpawned, begun_lines, status_of}
use Rattle.spawn_command.proofs.Causes.{at_53, at_54, done, has_reports, malformed, parted}
use Rattle.spawn_command.proofs.Laws.{Laws}

pub begun_fresh : AreFresh begun_lines
begun_fresh = record { input = 0; linked = refl; none = refl; kept = refl }

-- a failed taking was told by a post
abbrev pub AreTold : (ChildData → List (List ℕ)) → Type 0
AreTold words = (first last : LineState) (turns : List Step) → AreFresh first → Leads words first turns last → HasFailedToHear (events_of turns) → HasOne IsFailedAnswer (all_asked turns)

module _ (next : Unit {0} → Table) (words : ChildData → List (List ℕ)) (roomy : Type 0) (possible : Unit {0} → Type 0) (old new : Outside) (beside now : Beside)
    (room : roomy) (all : (args : Unit {0}) → possible args) where
  as_any : (turns : List Step) (end : Outside) (then : Beside) → IsRunOf next words roomy possible turns old.last old end beside then
      → IsRunOf next words (Unit {0}) (λ _. Unit {0}) turns old.last old end beside then
  as_any turns end then r = record { run = λ args _. r.run args (all args); due = λ args _. r.due args (all args); some = λ _. r.some room; did = r.did; did_beside = r.did_beside }

  module _ (cause : List Own → ℕ → Type 0) (laws : Laws (next tt) cause) (told : AreTold words) (fresh : AreFresh beside.lines) (status : ℕ) (r : HasEndedSo next words roomy possible old.last status old new beside now) where
    abbrev past : List Own
    past = events_of r.before

    run : IsRunBy (next tt) past
    run = r.ran.run tt (all tt)

    due : next tt past r.read r.ready ≡ Ended status
    due = (r.ran.due tt (all tt)).1

    output : status ≡ 53 → Rose old.output_faults new.output_faults
    output is = r.ran.did.output_cause (at_53 (next tt) cause laws past r.read r.ready status run due is)

    input : status ≡ 54 → Rose beside.posts.faults now.posts.faults
    input is = r.ran.did_beside.posts.cause
        (told beside.lines now.lines (Looked r.asked r.read r.ready (Ended status) ∷ r.before) fresh r.ran.did_beside.lines (at_54 (next tt) cause laws past r.read r.ready status run due is))

    complete : ¬ (Rose old.output_faults new.output_faults) → ¬ (Rose beside.posts.faults now.posts.faults) → ¬ (HasLongField (taken past)) → (status ≡ 0) ⊎ (status ≡ 51)
    complete no_output no_input short =
        ⊎_elim (λ f. absurd (⊎_elim (λ is. no_output (output is)) (λ is. no_input (input is)) f.1))
        (⊎_elim (λ o. ⊎_elim (λ a. inl a.0) (λ b. absurd (short b.1)) o.why) (λ m. inr m))
        (parted (next tt) cause laws past r.read r.ready status run due)

    pub ended : HasRunOver next words cause status old new beside now
    ended = record {
      ended = record { asked = r.asked; read = r.read; ready = r.ready; before = r.before; on = r.on; ran = as_any (Looked r.asked r.read r.ready (Ended status) ∷ r.before) new now r.ran };
      why = laws.ends past r.read r.ready status run due;
      done = done (next tt) cause laws past r.read r.ready status run due;
      malformed = malformed (next tt) cause laws past r.read r.ready status run due;
      reported = has_reports (next tt) cause laws past r.read r.ready status run due;
      output = output;
      input = input;
      complete = complete;
    }

  cut : WasCut next words roomy possible old.last old new beside now → WasCutShort next words old new beside now
  cut r = record {
    turns = r.turns;
    mid = r.mid;
    mid_beside = r.mid_beside;
    on = r.on;
    ran = as_any r.turns r.mid r.mid_beside r.ran;
    rest = ⊎_elim (λ same. inl same) (λ a. inr (asks_so next (λ args past. possible args × (past ≡ events_of r.turns)) (λ args past. Unit {0} × (past ≡ events_of r.turns)) r.mid new r.mid_beside now
        (λ args past is. (all args, is.1)) a)) r.rest;
  }

  still : (stands : Unit {0} → List Own → Type 0) → GoesOnStill next words roomy stands possible old.last most_turns old new beside now → StillRuns next words old new beside now
  still stands r = record { turns = r.turns; long = r.long; on = r.on; ran = as_any r.turns new now r.ran }

  module _ (cause : List Own → ℕ → Type 0) (laws : Laws (next tt) cause) (told : AreTold words) (fresh : AreFresh beside.lines) (stands : Unit {0} → List Own → Type 0) where
    pub ended_so : (result : Result (Option ℕ) AllocError) → RanTo result next words roomy stands possible old.last old new beside now → WasSpawned next words cause (status_of result) old new beside now
    ended_so (Ok (Some status)) r = inl (ended cause laws told fresh status r)
    ended_so (Ok None) r = inr (refl, inr (still stands r))
    ended_so (Err why) r = inr (refl, inl (cut r))

-- nothing was done at all
pub cut_at_once : (next : Unit {0} → Table) (words : ChildData → List (List ℕ)) (cause : List Own → ℕ → Type 0) (old : Outside) (beside : Beside) → WasSpawned next words cause 51 old old beside beside
cut_at_once next words cause old beside =
    let b = begins next words (Unit {0}) (λ _. Unit {0}) old.last (λ args past. Unit {0}) old beside (λ args _. tt) (omega arith) in
    inr (refl, inl (record { turns = b.turns; mid = old; mid_beside = beside; on = b.on; ran = b.ran; rest = inl (refl, refl) }))

-- the lines that it begins with
are_begun : (l : LineState) → l.links ≡ Some 0 ∷ None ∷ None ∷ None ∷ [] → l.programs ≡ replicate 256 None → l.over ≡ replicate 256 false → l.kept ≡ [] → l ≡ begun_lines
are_begun l links programs over kept =
    ap (λ x. record { links = x; programs = l.programs; over = l.over; kept = l.kept }) links
    ∙ ap (λ x. record begun_lines { programs = x; over = l.over; kept = l.kept }) programs
    ∙ ap (λ x. record begun_lines { over = x; kept = l.kept }) over
    ∙ ap (λ x. record begun_lines { kept = x }) kept

-- a run that began with those lines, of a spawner with these laws
pub spawned : (next : Unit {0} → Table) (words : ChildData → List (List ℕ)) (cause : List Own → ℕ → Type 0) (roomy : Type 0) (stands : Unit {0} → List Own → Type 0) (possible : Unit {0} → Type 0)
    → roomy → ((args : Unit {0}) → possible args) → Laws (next tt) cause → AreTold words
    → (l : LineState) → l.links ≡ Some 0 ∷ None ∷ None ∷ None ∷ [] → l.programs ≡ replicate 256 None → l.over ≡ replicate 256 false → l.kept ≡ []
    → (old new : Outside) (moments : Option (List ℕ)) (posts : PostsTold) (spawner : SpawnerTold) (now : Beside)
    → (result : Result (Option ℕ) AllocError) → RanTo result next words roomy stands possible old.last old new (record { moments = moments; posts = posts; spawner = spawner; lines = l }) now
    → (status : ℕ) → status ≡ status_of result
    → WasSpawned next words cause status old new (record { moments = moments; posts = posts; spawner = spawner; lines = begun_lines }) now
spawned next words cause roomy stands possible room all laws told l links programs over kept old new moments posts spawner now result r status is =
    let began : Beside = record { moments = moments; posts = posts; spawner = spawner; lines = begun_lines } in
    subst (λ s. WasSpawned next words cause s old new began now) (sym is)
    (ended_so next words roomy possible old new began now room all cause laws told begun_fresh stands result
    (subst (λ (x : LineState). RanTo result next words roomy stands possible old.last old new (record { moments = moments; posts = posts; spawner = spawner; lines = x }) now)
    (are_begun l links programs over kept) r))

-- the directory of the queue is this
pub as_dir : (next : Unit {0} → Table) (cause : List Own → ℕ → Type 0) (d e : List ℕ) → d ≡ e → (status : ℕ) (old new : Outside) (beside : Beside) (moments : Option (List ℕ)) (posts : PostsTold) (spawner : SpawnerTold)
    → ((lines : LineState) × WasSpawned next (words_of d []) cause status old new beside (record { moments = moments; posts = posts; spawner = spawner; lines = lines }))
    → (lines : LineState) × WasSpawned next (words_of e []) cause status old new beside (record { moments = moments; posts = posts; spawner = spawner; lines = lines })
as_dir next cause d e is status old new beside moments posts spawner h =
    subst (λ (x : List ℕ). (lines : LineState) × WasSpawned next (words_of x []) cause status old new beside (record { moments = moments; posts = posts; spawner = spawner; lines = lines })) is h
