-- A failed give or taking ends a spawner.
use Rattle.std.proofs.Common.{◌≡◌, ℕ, List, refl, sym, ap}
use Rattle.call_fs.specs.declared.past.ChildData.{ChildData}
use Rattle.call_fs.specs.declared.past.GotData.{GotData}
use Rattle.call_fs.specs.declared.past.GotData.TheVariants as came
use Rattle.call_fs.specs.declared.past.NeedData.{NeedData}
use Rattle.call_fs.specs.declared.past.NeedData.TheVariants as needs
use Rattle.call_fs.specs.declared.past.Own.{Own}
use Rattle.call_fs.specs.declared.program.Port.TheVariants as port
use Rattle.call_fs.specs.declared.program.Ready.{Ready}
use Rattle.spawner_parts.specs.declared.place.Place.{Place}
use Rattle.spawner_parts.specs.declared.row.Row.{Row}
use Rattle.spawner_parts.specs.declared.row.Row.TheVariants as at
use Rattle.spawner_parts.specs.Causes.{EndsWith}
use Rattle.spawner_parts.specs.Causes.EndsWith.{GiveFailed, RequestsFailed, ProgramFailed}
use Rattle.spawner_parts.specs.Table.{Kind, act, arrive, due_at, row_now}

module _ (kind : Kind) (program : ChildData) (p : Place) where
  give_fails : (row : Row) (bytes : List ℕ) → due_at program row p ≡ needs.Give port.Output bytes → (act kind row came.Failed p).row ≡ at.Ended 53
  give_fails at.Greet bytes is = refl
  give_fails at.Report bytes is = refl
  give_fails at.Idle bytes is = absurd (cc)
  give_fails at.TakeInput bytes is = absurd (cc)
  give_fails at.OpenMess bytes is = absurd (cc)
  give_fails (at.ReadMess fd) bytes is = absurd (cc)
  give_fails (at.CloseMess fd whole) bytes is = absurd (cc)
  give_fails at.Start bytes is = absurd (cc)
  give_fails at.Feed bytes is = absurd (cc)
  give_fails (at.TakeOutput slot) bytes is = absurd (cc)
  give_fails (at.TakeStatus slot) bytes is = absurd (cc)
  give_fails (at.Ended code) bytes is = absurd (cc)

  requests_fail : (row : Row) → due_at program row p ≡ needs.Take port.Input → (act kind row came.Failed p).row ≡ at.Ended 54
  requests_fail at.TakeInput is = refl
  requests_fail at.Greet is = absurd (cc)
  requests_fail at.Idle is = absurd (cc)
  requests_fail at.OpenMess is = absurd (cc)
  requests_fail (at.ReadMess fd) is = absurd (cc)
  requests_fail (at.CloseMess fd whole) is = absurd (cc)
  requests_fail at.Start is = absurd (cc)
  requests_fail at.Feed is = absurd (cc)
  requests_fail (at.TakeOutput slot) is = absurd (cc)
  requests_fail (at.TakeStatus slot) is = absurd (cc)
  requests_fail at.Report is = absurd (cc)
  requests_fail (at.Ended code) is = absurd (cc)

  program_fails : (row : Row) (slot : ℕ) → due_at program row p ≡ needs.Take (port.Program slot) → (act kind row came.Failed p).row ≡ at.Ended 54
  program_fails (at.TakeOutput other) slot is = refl
  program_fails at.TakeInput slot is = absurd (cc)
  program_fails at.Greet slot is = absurd (cc)
  program_fails at.Idle slot is = absurd (cc)
  program_fails at.OpenMess slot is = absurd (cc)
  program_fails (at.ReadMess fd) slot is = absurd (cc)
  program_fails (at.CloseMess fd whole) slot is = absurd (cc)
  program_fails at.Start slot is = absurd (cc)
  program_fails at.Feed slot is = absurd (cc)
  program_fails (at.TakeStatus other) slot is = absurd (cc)
  program_fails at.Report slot is = absurd (cc)
  program_fails (at.Ended code) slot is = absurd (cc)

  ends_row : (row : Row) {status : ℕ} {due : NeedData} {got : GotData} → EndsWith status due got → due_at program row p ≡ due → (act kind row got p).row ≡ at.Ended status
  ends_row row (GiveFailed bytes) is = give_fails row bytes is
  ends_row row RequestsFailed is = requests_fail row is
  ends_row row (ProgramFailed slot) is = program_fails row slot is

pub failed : (kind : Kind) (program : ChildData) (event : Own) (p : Place) (ready : Ready) (status : ℕ) → event.due ≡ due_at program (row_now p event.ready) p
    → EndsWith status event.due event.came → row_now (act kind (row_now p event.ready) event.came p) ready ≡ at.Ended status
failed kind program event p ready status due why =
    let q : Place = act kind (row_now p event.ready) event.came p in
    ap (λ r. arrive r q ready) (ends_row kind program p (row_now p event.ready) why (sym due))
