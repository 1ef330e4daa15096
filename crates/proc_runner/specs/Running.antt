-- Children that run, each as its channel with its process.
use Rattle.std.specs.Prelude.{◌≡◌, ◌⊎◌, ℕ, ◌+◌, List, [], ◌∷◌, ◌++◌, map, take, drop, true, false, Some, slice_get, slice_set, Contains}
use Rattle.outside.specs.declared.spawner.Started.{Started}
use Rattle.outside.specs.declared.spawner.Started.TheVariants as started
use Rattle.outside.specs.declared.sink.Gave.{Gave}
use Rattle.outside.specs.declared.sink.Gave.TheVariants as gave
use Rattle.outside.specs.declared.spawner.Status.{Status}
use Rattle.outside.specs.declared.spawner.Status.TheVariants as status
use Rattle.proc_runner.specs.declared.line.Line.{Line}
use Rattle.proc_runner.specs.declared.start.Start.{Start}
use Rattle.proc_runner.specs.declared.system.Exit.{Exit}
use Rattle.proc_runner.specs.declared.system.Exit.TheVariants as exit
use Rattle.child_input.specs.Feedings.{Feeding, after_end, after_feeding, nothing_fed}
use Rattle.proc_runner.specs.Starts.{IsStart}

-- the status of a process that ended so, if the system told it
abbrev pub IsStatus : (Exit → Type 0) → Status → Type 0
IsStatus ended (status.Ended code) = ended (exit.Code code)
IsStatus ended status.Crashed = ended exit.Signal
IsStatus ended status.Failed = Unit {0}

-- a feeding that was done, or that failed
abbrev pub JoinsFed : List ℕ → Gave → Feeding → Feeding → Type 0
JoinsFed bytes gave.Done before after = (after ≡ after_feeding true bytes before) × (before.is_open ≡ true)
JoinsFed bytes gave.Failed before after = after ≡ after_feeding false bytes before

-- for how long the child of a line may run on after its input ended
abbrev pub limit_of : Line → ℕ
limit_of line = line.drain

-- The child that a start gave may run on for so long after its input ended, and the others as before.
abbrev pub HasLimit : ℕ → Started → List ℕ → List ℕ → Type 0
HasLimit limit (started.Chan chan pid) old new = new ≡ old ++ limit ∷ []
HasLimit limit other old new = new ≡ old

module _ {P : Type 0} where
  -- a child: its channel, its process, and what it was fed
  abbrev pub child : ℕ → P → Feeding → ℕ × P × Feeding
  child chan process feeding = (chan, process, feeding)

  -- One child more runs, which the system gave for these words, and which was fed nothing yet; or none, if the start failed.
  abbrev pub RunsMore : (Start → ℕ → P → Type 0) → List (List ℕ) → Started → List (ℕ × P × Feeding) → List (ℕ × P × Feeding) → Type 0
  RunsMore gives words (started.Chan chan pid) old new =
      (start : Start) × (process : P) × IsStart words start × gives start pid process × (new ≡ old ++ child chan process nothing_fed ∷ [])
  RunsMore gives words other old new = new ≡ old

  -- the child of this channel is let go, and its process is so
  abbrev pub LetsGo : ℕ → (P → Type 0) → List (ℕ × P × Feeding) → List (ℕ × P × Feeding) → Type 0
  LetsGo chan is_so old new =
      (k : ℕ) × (process : P) × (feeding : Feeding) × (slice_get old k ≡ Some (child chan process feeding)) × (new ≡ take k old ++ drop (k + 1) old) × is_so process

  -- what the child of this channel was fed goes on so, and all else stays
  abbrev pub GoesOn : ℕ → (Feeding → Feeding → Type 0) → List (ℕ × P × Feeding) → List (ℕ × P × Feeding) → Type 0
  GoesOn chan goes old new =
      (k : ℕ) × (process : P) × (before : Feeding) × (after : Feeding) × (slice_get old k ≡ Some (child chan process before))
      × (new ≡ slice_set old k (child chan process after)) × goes before after

  -- no child of this channel runs
  abbrev pub RunsNone : ℕ → List (ℕ × P × Feeding) → Type 0
  RunsNone chan old = ¬ (Contains (map (λ child. child.0) old) chan)

  -- These bytes join what the child of this channel was fed, to which more might still be fed; or that failed, and no more is fed
  -- from then on; or there is no such child.
  abbrev pub Feeds : ℕ → List ℕ → Gave → List (ℕ × P × Feeding) → List (ℕ × P × Feeding) → Type 0
  Feeds chan bytes result old new = GoesOn chan (JoinsFed bytes result) old new ⊎ (RunsNone chan old × (new ≡ old) × (result ≡ gave.Failed))

  -- nothing more is fed to the child of this channel, or there is no such child
  abbrev pub EndsInput : ℕ → List (ℕ × P × Feeding) → List (ℕ × P × Feeding) → Type 0
  EndsInput chan old new = GoesOn chan (λ before after. after ≡ after_end before) old new ⊎ (RunsNone chan old × (new ≡ old))

  -- A status is what the system told of the process of this channel's child, which is let go; or there is no such child.
  abbrev pub TellsStatus : (P → Exit → Type 0) → ℕ → Status → List (ℕ × P × Feeding) → List (ℕ × P × Feeding) → Type 0
  TellsStatus ends chan result old new =
      LetsGo chan (λ process. IsStatus (ends process) result) old new ⊎ (RunsNone chan old × (new ≡ old) × (result ≡ status.Failed))
