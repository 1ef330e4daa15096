use Rattle.std.proofs.Common.{◌∷◌, ◌∙◌, List, Result, Ok, Err, ap, sym, subst}
use Rattle.std.specs.Prelude.{OnOk}
use Rattle.call_fs.specs.declared.past.Own.{Own}
use Rattle.call_fs.specs.Program.{came_of}
use Rattle.queue_clean.specs.Machine.{Machine as Cleaning, due_now}
use Rattle.mail_world.specs.declared.any_machine.AnyMachine.{AnyMachine}
use Rattle.mail_world.specs.declared.any_machine.AnyMachine.TheVariants.{Clean}
use Rattle.mail_world.specs.ByKind.{Follows, Cleans, with_own}
use Rattle.mail_world.proofs.Machines.{still_cleans}
use Rattle.mail_world.proofs.any_machine.AnyMachine.done.Goals as goal

on_ok : {T E P : Type 0} (r : Result T E) → P → OnOk r P
on_ok (Ok x) p = p
on_ok (Err e) p = tt

pub returns-in-Clean-clause-stands : goal.returns-in-Clean-clause-stands
returns-in-Clean-clause-stands c = λ program past follows.
    let m : Cleaning = c.get_mut-in-Clean.result.now in
    let is = c.in-Clean.is ∙ ap Clean (sym c.get_mut-in-Clean.ensures.value) in
    let mine : Cleans m program past = subst (λ (machine : AnyMachine). Follows machine program past) is follows in
    let later : List Own = (record { read = m.present; ready = m.ready; due = due_now m; came = came_of c.args.got }) ∷ past in
    let done : Cleans c.done-in-Clean.new.self program later =
    still_cleans m c.done-in-Clean.new.self program past later (λ args s. c.done-in-Clean.ensures.stands args past s) mine in
    on_ok c.done-in-Clean.result
    (subst (λ (machine : AnyMachine). Cleans c.done-in-Clean.new.self program (with_own machine (came_of c.args.got) past)) (sym is) done)
