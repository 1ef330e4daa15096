use Rattle.std.proofs.Common.{◌≡◌, ◌++◌, Option, Some, None, refl, sym, ap, ◌∙◌, rules}
use Rattle.std.specs.Option.{option_to_list}
use Rattle.std.proofs.lemmas.List.{append-nil}
use Rattle.std.specs.Ordering.{nat_cmp}
use Rattle.std.specs.BTreeMap.{get}
use Rattle.world_events.specs.Books.{number_by}
use Rattle.script_fates.specs.declared.fates.Fates.{Fates}
use Rattle.script_fates.specs.declared.fates.Tenure.{Tenure}
use Rattle.script_fates.proofs.Lives.{begins_at, linked_one, unlinked}
use Rattle.script_fates.proofs.fates.Fates.link.Goals as goal

pub returns-in_default : goal.returns-in_default
returns-in_default c = λ books args h.
    let none : number_by c.args.own.now.due c.args.own.now.came ≡ None = search rules in
    unlinked c.args.self.now books c.args.actor.now args c.args.own.now none h

pub returns-in_ok-push : goal.returns-in_ok-push
returns-in_ok-push c = λ books args h.
    let old : Fates = c.args.self.now in
    let n = c.in-Some.number in
    let new : Fates = record { living = c.insert.new.self; over = c.push.new.self; routers = old.routers } in
    let t : Tenure = record { number = n; mail = c.copy.result; delivered = c.new.result; routes = None } in
    let some : number_by c.args.own.now.due c.args.own.now.came ≡ Some n = search rules in
    let had : get nat_cmp old.living n ≡ Some c.in-Some-2.before = search rules in
    linked_one old new books c.args.actor.now args c.args.own.now n some
    (begins_at old new c.args.actor.now n t refl c.copy.ensures c.new.ensures.items refl c.in_ok-before.ensures.updates
    (c.in_ok-push.ensures.items ∙ ap (λ (o : Option Tenure). old.over.items ++ option_to_list o) (sym had)) refl)
    h

pub returns-in_default-2 : goal.returns-in_default-2
returns-in_default-2 c = λ books args h.
    let old : Fates = c.args.self.now in
    let n = c.in-Some.number in
    let new : Fates = record { living = c.insert.new.self; over = old.over; routers = old.routers } in
    let t : Tenure = record { number = n; mail = c.copy.result; delivered = c.new.result; routes = None } in
    let some : number_by c.args.own.now.due c.args.own.now.came ≡ Some n = search rules in
    let had : get nat_cmp old.living n ≡ None = search rules in
    linked_one old new books c.args.actor.now args c.args.own.now n some
    (begins_at old new c.args.actor.now n t refl c.copy.ensures c.new.ensures.items refl c.in_ok-before.ensures.updates
    (sym (append-nil old.over.items) ∙ ap (λ (o : Option Tenure). old.over.items ++ option_to_list o) (sym had)) refl)
    h
