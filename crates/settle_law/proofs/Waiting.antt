-- Spawners that wait.
use Rattle.std.proofs.Common.{◌≡◌, ℕ, Bool, true, false, Option, Some, None, if◌then◌else◌, refl, subst}
use Rattle.call_fs.specs.declared.past.ChildData.{ChildData}
use Rattle.call_fs.specs.declared.past.NeedData.TheVariants as needs
use Rattle.call_fs.specs.declared.program.Ready.{Ready}
use Rattle.spawn_protocol.specs.declared.inbox.Intake.{Intake}
use Rattle.spawn_protocol.specs.declared.inbox.Intake.TheVariants as intake
use Rattle.spawner_parts.specs.declared.place.Place.{Place}
use Rattle.spawner_parts.specs.declared.row.Row.{Row}
use Rattle.spawner_parts.specs.declared.row.Row.TheVariants as at
use Rattle.spawner_parts.specs.Asked.{runs_in}
use Rattle.spawner_parts.specs.Table.{arrive, due_at, ended_by, is_asked, none_runs, resting, row_now, turning}
use Rattle.settle_law.specs.inside.Waiting.{SpawnersWait}

-- what waits is at the row between two steps
waits_idle : (row : Row) (asked : ChildData) (p : Place) → due_at asked row p ≡ needs.Wait → row ≡ at.Idle
waits_idle at.Idle asked p e = refl
waits_idle row asked p e = absurd (cc)

came_idle : (row : Row) (p : Place) (ready : Ready) → arrive row p ready ≡ at.Idle → row ≡ at.Idle
came_idle at.Idle p ready e = refl
came_idle at.Greet p ready e = e
came_idle at.TakeInput p ready e = e
came_idle at.OpenMess p ready e = e
came_idle (at.ReadMess fd) p ready e = e
came_idle (at.CloseMess fd whole) p ready e = e
came_idle at.Start p ready e = e
came_idle at.Feed p ready e = e
came_idle (at.TakeOutput slot) p ready e = e
came_idle (at.TakeStatus slot) p ready e = e
came_idle at.Report p ready e = e
came_idle (at.Ended status) p ready e = e

unasked_by : (b : Bool) (o : Row) → (if b then at.TakeInput else o) ≡ at.Idle → (b ≡ false) × (o ≡ at.Idle)
unasked_by true o e = absurd (cc)
unasked_by false o e = (refl, e)

open_by : (i : Intake) → ended_by i ≡ at.Idle → i ≡ intake.Open
open_by intake.Open e = refl
open_by intake.Ended e = absurd (cc)
open_by intake.TooLong e = absurd (cc)

rests_open : (p : Place) → resting p ≡ at.Idle → none_runs p.running ≡ true → p.inbox.intake ≡ intake.Open
rests_open p e none = open_by p.inbox.intake (subst (λ (b : Bool). (if b then ended_by p.inbox.intake else at.Idle) ≡ at.Idle) none e)

record Turns (p : Place) (child : Option ℕ) : Type 0 where
  unended : (slot : ℕ) → child ≡ Some slot → runs_in p.running slot ≡ false
  rests : resting p ≡ at.Idle

some_same : (a b : ℕ) → ◌≡◌ {A = Option ℕ} (Some a) (Some b) → a ≡ b
some_same a b e = cc

unended_by : (p : Place) (slot : ℕ) (b : Bool) → runs_in p.running slot ≡ b → (if b then at.TakeOutput slot else resting p) ≡ at.Idle → Turns p (Some slot)
unended_by p slot true t e = absurd (cc)
unended_by p slot false t e = record { unended = λ s same. subst (λ k. runs_in p.running k ≡ false) (some_same slot s same) t; rests = e }

turns : (p : Place) (child : Option ℕ) → turning p child ≡ at.Idle → Turns p child
turns p None e = record { unended = λ slot same. absurd (cc); rests = e }
turns p (Some slot) e = unended_by p slot (runs_in p.running slot) refl e

pub waits : SpawnersWait
waits p ready asked e =
    let idle = waits_idle (row_now p ready) asked p e in
    let row = came_idle p.row p ready idle in
    let it = unasked_by (is_asked p ready) (turning p ready.child) (subst (λ r. arrive r p ready ≡ at.Idle) row idle) in
    let t = turns p ready.child it.1 in
    record { row = row; unasked = it.0; unended = t.unended; takes = rests_open p t.rests }
