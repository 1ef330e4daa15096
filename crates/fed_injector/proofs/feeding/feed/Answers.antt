use Rattle.std.proofs.Common.{◌≡◌, Some, sym, ap, ◌∙◌, subst}
use Rattle.queue_inject.specs.declared.injection.Part.TheVariants.{Message, Envelope}
use Rattle.queue_inject.specs.Machine.{asks}
use Rattle.fed_injector.specs.Inputs.{IsInput}
use Rattle.fed_injector.proofs.Pieces.{asked_part}
use Rattle.fed_injector.proofs.feeding.feed.Goals as goal

pub returns-in-Some-Message-clause-stands : goal.returns-in-Some-Message-clause-stands
returns-in-Some-Message-clause-stands c = λ args past are s.
    let asked : asks c.args.injector.now ≡ Some Message = sym c.asks.ensures ∙ c.in-Some-Message.is ∙ ap Some c.in-Some-Message.field-0-is in
    c.feed_text.ensures.stands args past (subst (λ p. IsInput p args c.args.message.now) (sym (asked_part c.args.injector.now Message asked)) (are.message_is, are.message_whole)) s

pub returns-in-Some-Envelope-clause-stands : goal.returns-in-Some-Envelope-clause-stands
returns-in-Some-Envelope-clause-stands c = λ args past are s.
    let asked : asks c.args.injector.now ≡ Some Envelope = sym c.asks.ensures ∙ c.in-Some-Envelope.is ∙ ap Some c.in-Some-Envelope.field-0-is in
    c.feed_text-in-Some-Envelope.ensures.stands args past (subst (λ p. IsInput p args c.args.envelope.now) (sym (asked_part c.args.injector.now Envelope asked)) (are.envelope_is, are.envelope_whole)) s
