use Rattle.std.proofs.Common.{◌∷◌, refl, sym, subst}
use Rattle.call_fs.specs.Program.{came_of}
use Rattle.call_fs.specs.declared.past.Own.{Own}
use Rattle.queue_clean.specs.Machine.{Machine, due_now}
use Rattle.queue_clean.specs.Stands.{Stands}
use Rattle.queue_clean.proofs.Follows.{stands_on}
use Rattle.queue_clean.proofs.machine.Cleaner.done.Goals as goal

pub returns-clause-stands : goal.returns-clause-stands
returns-clause-stands c = λ args past s.
    let m : Machine = c.args.self.now in
    let event : Own = record { read = m.present; ready = m.ready; due = due_now m; came = came_of c.args.got } in
    subst (λ (n : Machine). Stands n args (event ∷ past)) (sym c.go_on.ensures) (stands_on m args past event s refl)
