use Rattle.std.proofs.Common.{◌∙◌, ℕ, List, ⊎_elim, ap, refl, sym}
use Rattle.std.proofs.lemmas.Result.{on_ok_weaker}
use Rattle.call_fs.specs.declared.past.Own.{Own}
use Rattle.world_events.specs.declared.event.Event.TheVariants as kept
use Rattle.scenario.specs.declared.fates.Following.{Following}
use Rattle.scenario.proofs.Followed.{bred_told, generation_told, other_told, own_told}
use Rattle.scenario.proofs.fates.Following.note.Goals as goal

pub returns-in-Act : goal.returns-in-Act
returns-in-Act c =
    let a : List ℕ = c.in-Act.actor in
    let own : Own = c.in-Act.own in
    let new : Following = c.act.new.self in
    on_ok_weaker c.act.result
    (λ did s e named moment mail may tells h. own_told new s c.args.event.now e (kept.Act a own) a own c.in-Act.is (λ read same. same) tells may (λ wrote done. did s wrote named moment done h))
    c.act.ensures

-- the start of a child, or its input
pub returns-in-Child : goal.returns-in-Child
returns-in-Child c =
    let a : List ℕ = c.in-Child.actor in
    let own : Own = c.get.result.now in
    let new : Following = c.act-in-Child.new.self in
    let held = sym c.get.ensures in
    on_ok_weaker c.act-in-Child.result
    (λ did s e named moment mail may tells h. ⊎_elim
    (λ w. bred_told new s c.args.event.now e a own w.0 w.1 (w.2 ∙ ap (λ (o : Own). kept.Child a o w.0 w.1) held) tells mail may (λ wrote done. did s wrote named moment done h))
    (λ w. own_told new s c.args.event.now e (kept.Feed a own w.0 w.1 w.2) a own (w.3 ∙ ap (λ (o : Own). kept.Feed a o w.0 w.1 w.2) held) (λ read same. same) tells may (λ wrote done. did s wrote named moment done h))
    c.in-Child.is)
    c.act-in-Child.ensures

pub returns-in_ok-sender-in-Generation : goal.returns-in_ok-sender-in-Generation
returns-in_ok-sender-in-Generation c = λ s e named moment mail may tells h.
    let old : Following = c.args.self.now in
    let m = c.in_ok-sender-in-Generation.sender in
    let new : Following = record { fates = old.fates; sender = c.replace.new.dest } in
    generation_told old new s c.args.event.now e c.in-Generation.start m c.in-Generation.is tells refl c.replace.ensures.after c.in_ok-sender-in-Generation.ensures.stands h

pub returns-in_default : goal.returns-in_default
returns-in_default c = λ s e named moment mail may tells h.
    other_told c.args.self.now s c.args.event.now e c.in_default.not-Act c.in_default.not-Child c.in_default.not-Feed c.in_default.not-Generation tells mail h
