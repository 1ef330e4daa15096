use Rattle.std.proofs.Common.{◌≡◌, Some, None, ◌∙◌, subst, sym}
use Rattle.std.proofs.Math.Nat.{min-eq_left}
use Rattle.std.proofs.lemmas.Result.{on_ok_weaker}
use Rattle.address_rules.specs.declared.controls.Controls.{Controls}
use Rattle.queue_law.specs.Books.{entered_in}
use Rattle.queue_law.specs.Ledgers.Line.{Routes}
use Rattle.script_fates.specs.Fates.{AreFates}
use Rattle.script_fates.proofs.Quiet.{given_enters, looked_controls, looked_routing, routed_enters}
use Rattle.script_fates.proofs.fates.Fates.give_by.Goals as goal

pub returns-in_ok-route-in-Some-clause-books : goal.returns-in_ok-route-in-Some-clause-books
returns-in_ok-route-in-Some-clause-books c =
    let old = c.args.sender.now in
    let looked = c.look.new.self in
    let own = c.args.own.now in
    let n = c.in-Some.n in
    on_ok_weaker c.go_on.result
    (λ went child past books to bytes gives has stands h.
    let same : c.min.result ≡ own.read = c.min.ensures ∙ min-eq_left has.moment in
    let some = looked_routing old looked past c.min.result own.read own.ready (Some n) stands c.look.ensures.rest same (sym c.in-Some.is ∙ c.routing.ensures) in
    let by = looked_controls old looked past c.min.result own.ready c.controls.result.now stands c.look.ensures.rest c.controls.ensures in
    subst (AreFates c.route.new.self) (routed_enters child past own books to bytes n gives some)
    (subst (λ (by : Controls). AreFates c.route.new.self (entered_in books n (Routes by))) by (c.in_ok-route-in-Some.ensures books h)))
    c.go_on.ensures

pub returns-in-None-clause-books : goal.returns-in-None-clause-books
returns-in-None-clause-books c =
    let old = c.args.sender.now in
    let looked = c.look.new.self in
    let own = c.args.own.now in
    on_ok_weaker c.go_on-in-None.result
    (λ went child past books to bytes gives has stands h.
    let same : c.min.result ≡ own.read = c.min.ensures ∙ min-eq_left has.moment in
    let none = looked_routing old looked past c.min.result own.read own.ready None stands c.look.ensures.rest same (sym c.in-None.is ∙ c.routing.ensures) in
    given_enters c.args.self.now child past own books to bytes has gives none h)
    c.go_on-in-None.ensures
