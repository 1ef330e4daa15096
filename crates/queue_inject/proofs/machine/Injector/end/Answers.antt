use Rattle.std.proofs.Common.{◌≡◌, Some, sym, ap, ◌∙◌, subst}
use Rattle.queue_inject.specs.declared.injection.Part.TheVariants.{Message, Envelope}
use Rattle.queue_inject.specs.Machine.{Machine, asks}
use Rattle.queue_inject.specs.inside.Fields.{machine_of}
use Rattle.queue_inject.specs.Stands.{Stands, Ends}
use Rattle.queue_inject.proofs.Kept.{stands_message_over, stands_envelope_over}
use Rattle.queue_inject.proofs.machine.Injector.end.Goals as goal

pub returns-in-Some-Message-clause-stands : goal.returns-in-Some-Message-clause-stands
returns-in-Some-Message-clause-stands c = λ args past s e.
    let m : Machine = machine_of c.self.inside in
    let asked : asks m ≡ Some Message = ap asks c.self.view_is ∙ sym c.asks.ensures ∙ c.in-Some-Message.is ∙ ap Some c.in-Some-Message.field-0-is in
    stands_message_over m c.end_message.new.self args past c.args.end asked (subst (λ n. Stands n args past) (sym c.self.view_is) s) (subst (λ n. Ends n args c.args.end) (sym c.self.view_is) e)
    c.end_message.ensures

pub returns-in-Some-Envelope-clause-stands : goal.returns-in-Some-Envelope-clause-stands
returns-in-Some-Envelope-clause-stands c = λ args past s e.
    let m : Machine = machine_of c.self.inside in
    let asked : asks m ≡ Some Envelope = ap asks c.self.view_is ∙ sym c.asks.ensures ∙ c.in-Some-Envelope.is ∙ ap Some c.in-Some-Envelope.field-0-is in
    stands_envelope_over m c.end_envelope.new.self args past c.args.end asked (subst (λ n. Stands n args past) (sym c.self.view_is) s) (subst (λ n. Ends n args c.args.end) (sym c.self.view_is) e)
    c.end_envelope.ensures
