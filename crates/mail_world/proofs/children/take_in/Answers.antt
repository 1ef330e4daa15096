use Rattle.std.proofs.Common.{◌≡◌, sym, ap, ◌∙◌, subst}
use Rattle.call_fs.specs.Program.{IsKind}
use Rattle.call_fs.specs.declared.past.NeedData.{NeedData}
use Rattle.world_events.specs.declared.answers.Did.{Did}
use Rattle.mail_world.specs.ByKind.{found_of, need_of}
use Rattle.mail_world.specs.History.{next_of}
use Rattle.mail_world.specs.Children.{HasTakenIn}
use Rattle.mail_world.proofs.Serving.{taken_in}
use Rattle.mail_world.proofs.children.take_in.Goals as goal
use Rattle.mail_world.proofs.children.take_in.Goals.{After-need}

-- what it asks for once it has looked
asks : (c : After-need) → need_of c.look.new.self ≡ c.args.own.now.due
asks c =
    let may = c.requires.may in
    sym c.need.ensures.due ∙ c.need.ensures.next may.program may.past c.look.ensures.looked (c.look.ensures.stands may.program may.past may.follows)
    ∙ ap (λ n. next_of may.program may.past n (found_of c.look.new.self)) c.look.ensures.present ∙ ap (next_of may.program may.past c.args.at.now) c.look.ensures.found ∙ may.due

pub look-requires-clause-given : goal.look-requires-clause-given
look-requires-clause-given c = c.requires.may.found

pub take_in-idle-requires-clause-kind : goal.take_in-idle-requires-clause-kind
take_in-idle-requires-clause-kind c =
    subst (λ (due : NeedData). IsKind due c.args.own.now.came) (sym (asks (goal.at.take_in-idle-requires-clause-kind c).After-need)) c.requires.may.kind

pub take_in-idle-requires-clause-within : goal.take_in-idle-requires-clause-within
take_in-idle-requires-clause-within c = c.requires.may.within _

pub returns-clause-taken : goal.returns-clause-taken
returns-clause-taken c =
    let done = c.take_in-idle.ensures in
    let may = c.requires.may in
    subst (λ (did : Did). HasTakenIn c.args.actor.now c.take_in-idle.new.self c.args.own.now c.args.index did.idle) (sym c.new.ensures)
    (taken_in c.args.actor.now c.take_in-idle.new.self c.look.new.self c.args.own.now c.args.index c.take_in-idle.result
    (c.look.ensures.present ∙ sym may.read) (c.look.ensures.found ∙ sym may.ready_is) c.look.ensures.looked (asks (goal.at.returns-clause-taken c).After-need) may.kind may.within
    c.look.ensures.stands done.follows done.idle done.owes done.name done.descriptors done.ended done.status (done.awaits ∙ c.look.ensures.looks) (record { wire = done.stays.wire; slot = done.stays.slot; entry = done.stays.entry }))
