use Rattle.std.proofs.Common.{◌≡◌, ◌<◌, ◌∷◌, sym, ap, subst}
use Rattle.call_fs.specs.declared.calls.Told.{Told}
use Rattle.call_fs.specs.declared.past.Own.{Own}
use Rattle.call_fs.specs.declared.past.GotData.TheVariants.{Answered}
use Rattle.call_fs.specs.Program.{came_of}
use Rattle.queue_inject.specs.Machine.{Machine, ahead_of, due_now}
use Rattle.queue_inject.specs.inside.Fields.{IsInStep}
use Rattle.queue_inject.specs.Stands.{Stands}
use Rattle.queue_inject.proofs.Asks.{machine_answered, is_call_of, no_other_answer}
use Rattle.queue_inject.proofs.Needs.{stands_answered}
use Rattle.queue_inject.proofs.Nearer.{nearer_when_due}
use Rattle.queue_inject.proofs.machine.Injector.done.Goals as goal

pub unreachable-requires : goal.unreachable-requires
unreachable-requires c =
    let a = machine_answered c.args.self.now (came_of c.args.got) c.requires.kind in
    no_other_answer c.args.got a.told a.came_is c.in_default.not-File

pub returns-clause-stands : goal.returns-clause-stands
returns-clause-stands c = λ args past s.
    let m : Machine = c.args.self.now in
    let told : Told = record { answer = c.in-File.answer; bytes = c.in-File.field-1.now } in
    let came : came_of c.args.got ≡ Answered told = ap came_of c.in-File.is in
    let event : Own = record { read = m.present; ready = m.ready; due = due_now m; came = came_of c.args.got } in
    let due = is_call_of (machine_answered m (came_of c.args.got) c.requires.kind) in
    subst (λ n. Stands n args (event ∷ past)) (sym c.go_on.ensures)
    (stands_answered m args past event told (subst IsInStep c.self.view_is c.self.invariant) s due came)

pub returns-clause-nearer : goal.returns-clause-nearer
returns-clause-nearer c =
    let m : Machine = c.args.self.now in
    let due = is_call_of (machine_answered m (came_of c.args.got) c.requires.kind) in
    let kept : IsInStep m = subst IsInStep c.self.view_is c.self.invariant in
    subst (λ n. ahead_of n < ahead_of m) (sym c.go_on.ensures) (nearer_when_due m c.in-File.answer kept.counts due)
