use Rattle.std.proofs.Common.{◌≡◌, Option, Some, None, sym, ap, ◌∙◌, rules}
use Rattle.send_known.specs.declared.known.Known.{Known}
use Rattle.send_known.specs.Known.{sender_in, known_of}
use Rattle.send_known.proofs.ByNumber.{known_is}
use Rattle.send_known.proofs.known.KnownList.sender_of.Goals as goal

pub returns-in-None : goal.returns-in-None
returns-in-None c =
    let none : known_of c.args.n c.args.self.now ≡ None = rw (← c.self.view_is) (sym (known_is c.args.n c.self.inside.known.entries c.self.invariant.named) ∙ search rules) in
    sym (ap (λ (o : Option Known). sender_in o) none)

pub returns-in-Some : goal.returns-in-Some
returns-in-Some c =
    let some : known_of c.args.n c.args.self.now ≡ Some c.in-Some.known.now = rw (← c.self.view_is) (sym (known_is c.args.n c.self.inside.known.entries c.self.invariant.named) ∙ search rules) in
    c.as_slice.ensures ∙ sym (ap (λ (o : Option Known). sender_in o) some)
