use Rattle.std.proofs.Common.{◌≡◌, ℕ, List, sym, ap, ◌∙◌, subst}
use Rattle.std.proofs.lemmas.Bool.{false≢true}
use Rattle.call_fs.specs.declared.past.ChildData.{ChildData}
use Rattle.call_fs.specs.declared.past.NeedData.{NeedData}
use Rattle.call_fs.specs.declared.past.NeedData.TheVariants as needs
use Rattle.call_fs.specs.declared.program.Port.{Port}
use Rattle.mail_world.specs.Acting.{is_due_of_child}
use Rattle.mail_world.specs.Children.{IsDueOfChild, IsStart, IsGive}
use Rattle.mail_world.specs.Known.{known}
use Rattle.mail_world.specs.World.{Seen}
use Rattle.mail_world.proofs.Serving.{has_in, start_due, give_due, take_due}
use Rattle.mail_world.proofs.world.World.serve.Goals as goal

starts : {D : Type 0} (w : Seen D) (a : List ℕ) (due : NeedData) (asked : ChildData) → due ≡ needs.Start asked → IsDueOfChild w a due → IsStart due
starts w a due asked is d =
    let has = has_in (known w.events) a in
    subst IsStart (sym is) (start_due has asked (ap (is_due_of_child has) (sym is) ∙ d.of_child))

gives : {D : Type 0} (w : Seen D) (a : List ℕ) (due : NeedData) (to : Port) (bytes : List ℕ) → due ≡ needs.Give to bytes → IsDueOfChild w a due → IsGive due
gives w a due to bytes is d =
    let has = has_in (known w.events) a in
    subst IsGive (sym is) (give_due has to bytes (ap (is_due_of_child has) (sym is) ∙ d.of_child))

pub start_child-requires-clause-start : goal.start_child-requires-clause-start
start_child-requires-clause-start g c = starts _ c.args.actor.now c.args.due.now _ c.in-Start.is c.requires.due

pub fill-requires-clause-give : goal.fill-requires-clause-give
fill-requires-clause-give g c = gives _ c.args.actor.now c.args.due.now _ _ c.in-Give.is c.requires.due

pub fill-requires-clause-spawner : goal.fill-requires-clause-spawner
fill-requires-clause-spawner g c = c.is.ensures.0 c.if-is.true ∙ c.name.ensures

pub feed-requires-clause-give : goal.feed-requires-clause-give
feed-requires-clause-give g c = gives _ c.args.actor.now c.args.due.now _ _ c.in-Give-2.is c.requires.due

pub feed-requires-clause-other : goal.feed-requires-clause-other
feed-requires-clause-other g c = λ same. false≢true (sym c.if-is.false ∙ c.is.ensures.1 (same ∙ sym c.name.ensures))

pub take_status-requires-clause-take : goal.take_status-requires-clause-take
take_status-requires-clause-take g c = take_due _ c.args.due.now c.requires.due.of_child c.in_default.not-Start c.in_default.not-Give
