use Rattle.std.proofs.Common.{◌≡◌, ◌≤◌, ℕ, List, length, Some, refl, sym, ap, ◌∙◌, subst}
use Rattle.queue_inject.specs.declared.injection.Part.TheVariants.{Message, Envelope}
use Rattle.queue_inject.specs.Machine.{Heard, Machine, asks, room_of, with_message}
use Rattle.queue_inject.specs.inside.Fields.{machine_of}
use Rattle.queue_inject.specs.Stands.{Stands, Continues}
use Rattle.queue_inject.proofs.Kept.{stands_message, stands_envelope}
use Rattle.queue_inject.proofs.InStep.{in_step_fed, full_fed, message_within, message_kept}
use Rattle.queue_inject.proofs.machine.Injector.feed.Goals as goal

pub returns-in-Some-Message-clause-stands : goal.returns-in-Some-Message-clause-stands
returns-in-Some-Message-clause-stands c = λ args past s g.
    let m : Machine = machine_of c.self.inside in
    let asked : asks m ≡ Some Message = ap asks c.self.view_is ∙ sym c.asks.ensures ∙ c.in-Some-Message.is ∙ ap Some c.in-Some-Message.field-0-is in
    stands_message m c.feed_message.new.self args past c.args.bytes.now asked (subst (λ n. Stands n args past) (sym c.self.view_is) s)
    (subst (λ n. Continues n args c.args.bytes.now) (sym c.self.view_is) g) c.feed_message.ensures

pub returns-in-Some-Envelope-clause-stands : goal.returns-in-Some-Envelope-clause-stands
returns-in-Some-Envelope-clause-stands c = λ args past s g.
    let m : Machine = machine_of c.self.inside in
    let asked : asks m ≡ Some Envelope = ap asks c.self.view_is ∙ sym c.asks.ensures ∙ c.in-Some-Envelope.is ∙ ap Some c.in-Some-Envelope.field-0-is in
    stands_envelope m c.feed_envelope.new.self args past c.args.bytes.now asked (subst (λ n. Stands n args past) (sym c.self.view_is) s)
    (subst (λ n. Continues n args c.args.bytes.now) (sym c.self.view_is) g) c.feed_envelope.ensures.fed c.feed_envelope.ensures.reads

pub returns-in-Some-Message-clause-full : goal.returns-in-Some-Message-clause-full
returns-in-Some-Message-clause-full c =
    let m : Machine = machine_of c.self.inside in
    let bytes : List ℕ = c.args.bytes.now in
    let asked : asks m ≡ Some Message = ap asks c.self.view_is ∙ sym c.asks.ensures ∙ c.in-Some-Message.is ∙ ap Some c.in-Some-Message.field-0-is in
    let Full : Heard → Type 0 = λ n. room_of m ≤ length bytes → room_of (record m { heard = n }) ≡ 0 in
    let full : Full c.feed_message.new.self = subst Full (sym c.feed_message.ensures)
    (full_fed m (with_message m.heard bytes) Message bytes asked c.self.invariant.short (subst (λ n. length bytes ≤ room_of n) (sym c.self.view_is) c.requires) refl
    (message_within m.heard bytes) (message_kept m.heard bytes)) in
    λ room. full (subst (λ n. room_of n ≤ length bytes) (sym c.self.view_is) room)

pub returns-in-Some-Envelope-clause-full : goal.returns-in-Some-Envelope-clause-full
returns-in-Some-Envelope-clause-full c = λ room.
    let m : Machine = machine_of c.self.inside in
    let bytes : List ℕ = c.args.bytes.now in
    let asked : asks m ≡ Some Envelope = ap asks c.self.view_is ∙ sym c.asks.ensures ∙ c.in-Some-Envelope.is ∙ ap Some c.in-Some-Envelope.field-0-is in
    let e = c.feed_envelope.ensures in
    full_fed m c.feed_envelope.new.self Envelope bytes asked c.self.invariant.short (subst (λ n. length bytes ≤ room_of n) (sym c.self.view_is) c.requires) e.fed e.within e.kept
    (subst (λ n. room_of n ≤ length bytes) (sym c.self.view_is) room)

pub invariant_of-self-in-Some-Envelope : goal.invariant_of-self-in-Some-Envelope
invariant_of-self-in-Some-Envelope c =
    let m : Machine = machine_of c.self.inside in
    let asked : asks m ≡ Some Envelope = ap asks c.self.view_is ∙ sym c.asks.ensures ∙ c.in-Some-Envelope.is ∙ ap Some c.in-Some-Envelope.field-0-is in
    let e = c.feed_envelope.ensures in
    in_step_fed m c.feed_envelope.new.self c.args.bytes.now c.self.invariant asked (subst (λ n. length c.args.bytes.now ≤ room_of n) (sym c.self.view_is) c.requires) e.fed e.within e.grows e.piece
