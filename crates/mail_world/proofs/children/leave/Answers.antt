use Rattle.std.proofs.Common.{◌≡◌, true, Some, length, refl, sym, subst}
use Rattle.std.proofs.lemmas.Option.{slice_get_read}
use Rattle.mail_world.specs.declared.actor.Actor.{Actor as Held}
use Rattle.mail_world.specs.Children.{IsCut}
use Rattle.mail_world.proofs.Leaving.{left_by}
use Rattle.mail_world.proofs.children.leave.Goals as goal

pub returns-in-true-Some : goal.returns-in-true-Some
returns-in-true-Some c =
    let child = c.in-true-Some.child in
    let old = c.args.actors.now in
    let over_is : c.args.over ≡ true = cc in
    let some : c.args.child ≡ Some child = cc in
    left_by c.args.over c.args.child child old c.index-actors-child.result c.cut_off_input.new.actor over_is some
    (slice_get_read old (length old) child c.index-actors-child.result refl (c.requires child some) c.index-actors-child.is)
    (subst (λ (x : Held). IsCut x c.cut_off_input.new.actor) (sym c.index-actors-child.is) c.cut_off_input.ensures)
