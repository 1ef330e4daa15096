-- Turns of a world are steps of a play.
use Rattle.std.proofs.Common.{◌≡◌, ℕ, List, [], ◌∷◌, ◌++◌, Bool, true, false, ◌||◌, Option, Some, None, Result, Ok, Err, refl, sym, ap, ◌∙◌, subst, append-nil, append_assoc}
use Rattle.std.specs.List.{list_any}
use Rattle.std.proofs.lemmas.List.Folds.{list_any-append}
use Rattle.std.specs.declared.alloc.AllocError.{AllocError}
use Rattle.call_fs.specs.Disk.{Disk}
use Rattle.call_fs.specs.Plan.{Plan}
use Rattle.crash_fs.specs.Crash.{Crash, crash_plan}
use Rattle.yard_lock.specs.declared.turn.Turn.{Turn}
use Rattle.yard_lock.specs.Turns.{Replay}
use Rattle.world_events.specs.declared.event.Event.{Event as Kept}
use Rattle.world_events.specs.declared.answers.WorldError.{WorldError}
use Rattle.world_events.specs.declared.answers.Did.{Did}
use Rattle.mail_world.specs.Moves.{moves}
use Rattle.mail_world.specs.World.{Seen, IsStep}
use Rattle.scenario.specs.Deeds.{Deed}
use Rattle.scenario.specs.Playing.{IsPlaying}
use Rattle.scenario.specs.Steps.{plan_through}
use Rattle.scenario.specs.Working.{HasWorked}
use Rattle.scenario.specs.inside.Playing.{lacked_memory}
use Rattle.scenario.proofs.Deeds.{tells}
use Rattle.scenario.proofs.ScriptSteps.{stepped}

abbrev Asking : Type 0
Asking = Turn (List ℕ) (Result Did WorldError)

both_false : (x y : Bool) → (x || y) ≡ false → (x ≡ false) × (y ≡ false)
both_false false y h = (refl, h)
both_false true y h = absurd (cc (h))

-- among the first of some events none is a call that found no memory, if none is among all
none_of_first : (first later all : List Kept) → all ≡ first ++ later → list_any lacked_memory all ≡ false → list_any lacked_memory first ≡ false
none_of_first first later all is none =
    (both_false (list_any lacked_memory first) (list_any lacked_memory later) (sym (list_any-append lacked_memory first later) ∙ (sym (ap (list_any lacked_memory) is) ∙ none))).0

-- and the newest one isn't
newest_is_none : (before : List Kept) (newest : Kept) (all : List Kept) → all ≡ before ++ newest ∷ [] → list_any lacked_memory all ≡ false → false ≡ lacked_memory newest
newest_is_none before newest all is none =
    let last = (both_false (list_any lacked_memory before) (list_any lacked_memory (newest ∷ []))
    (sym (list_any-append lacked_memory before (newest ∷ [])) ∙ (sym (ap (list_any lacked_memory) is) ∙ none))).1 in
    sym (both_false (lacked_memory newest) false last).0

-- what turns add to what a world keeps
step_adds : (a : List ℕ) (ended : Option ℕ) (old new : Seen Crash) → IsStep a ended old new → (k : Kept) × (new.events ≡ old.events ++ k ∷ [])
step_adds a None old new s = (s.1, s.4)
step_adds a (Some status) old new s = (_, s.1)

turn_adds : (a : List ℕ) (r : Result (Result Did WorldError) AllocError) (old new : Seen Crash) → moves crash_plan tells old a r new → (added : List Kept) × (new.events ≡ old.events ++ added)
turn_adds a (Ok (Ok did)) old new m = let one = step_adds a did.ended old new m.event in (one.0 ∷ [], one.1)
turn_adds a (Ok (Err refused)) old new m = ([], ap (λ (w : Seen Crash). w.events) m.1 ∙ sym (append-nil old.events))
turn_adds a (Err memory) old new m = ([], ap (λ (w : Seen Crash). w.events) m ∙ sym (append-nil old.events))

turns_add : (old : Seen Crash) (turns : List Asking) (new : Seen Crash) → Replay (moves crash_plan tells) old turns new → (added : List Kept) × (new.events ≡ old.events ++ added)
turns_add old [] new r = ([], ap (λ (w : Seen Crash). w.events) (sym r) ∙ sym (append-nil old.events))
turns_add old (t ∷ ts) new r =
    let one = turn_adds t.input t.answer old r.0 r.1.0 in
    let rest = turns_add r.0 ts new r.2 in
    (one.0 ++ rest.0, rest.1 ∙ (ap (λ (l : List Kept). l ++ rest.0) one.1 ∙ append_assoc old.events one.0 rest.0))

module _ (d : Disk) (plan : Plan) (h : List Deed) where
  after_turn : (a : List ℕ) (r : Result (Result Did WorldError) AllocError) (old new : Seen Crash) → HasWorked d old plan h → moves crash_plan tells old a r new
      → list_any lacked_memory new.events ≡ false → HasWorked d new plan h
  after_turn a (Ok (Ok did)) old new so m none =
      let step = stepped d old new (plan_through plan so.deeds) a did.ended did.idle (so.deeds ++ h) so.playing m.event m.present m.idle m.goes_on m.planned (λ before newest is. newest_is_none before newest new.events is none) in
      record { deeds = step.deed ∷ so.deeds; are_steps = (so.are_steps, (a, step.steps)); playing = step.playing }
  after_turn a (Ok (Err refused)) old new so m none = subst (λ (w : Seen Crash). HasWorked d w plan h) (sym m.1) so
  after_turn a (Err memory) old new so m none = subst (λ (w : Seen Crash). HasWorked d w plan h) (sym m) so

  after_turns : (old : Seen Crash) (turns : List Asking) (new : Seen Crash) → HasWorked d old plan h → Replay (moves crash_plan tells) old turns new → list_any lacked_memory new.events ≡ false → HasWorked d new plan h
  after_turns old [] new so r none = subst (λ (w : Seen Crash). HasWorked d w plan h) r so
  after_turns old (t ∷ ts) new so r none =
      let rest = turns_add r.0 ts new r.2 in
      after_turns r.0 ts new (after_turn t.input t.answer old r.0 so r.1.0 (none_of_first r.0.events rest.0 new.events rest.1 none)) r.2 none

  pub turns_worked : (old new : Seen Crash) (turns : List Asking) → IsPlaying d old plan h → Replay (moves crash_plan tells) old turns new → list_any lacked_memory new.events ≡ false → HasWorked d new plan h
  turns_worked old new turns playing r none = after_turns old turns new record { deeds = []; are_steps = tt; playing = playing } r none
