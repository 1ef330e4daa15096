use Rattle.std.proofs.Common.{ℕ, List, ◌+◌, take, length, min, sym, ap, ◌∙◌, subst, arith}
use Rattle.std.proofs.lemmas.List.{take_more}
use Rattle.envelope_records.specs.Envelope.{HasRead, read_envelope}
use Rattle.queue_limits.specs.declared.lengths.TheConstants.{MOST_BYTES}
use Rattle.world_events.proofs.Recipients.{Counted, Turn, turn_other, counted_start, counted_more, counted_whole, counted_none, recipients_within}
use Rattle.world_events.proofs.books.recipients.Goals as goal
use Rattle.world_events.proofs.books.recipients.Goals.{in-Recipient, in-More}

pub loop-byte-init : goal.loop-byte-init
loop-byte-init c = record { read = c.new-reader.ensures; counted = counted_start; low = omega arith }

pub returns-in-End : goal.returns-in-End
returns-in-End c = λ args is.
    let bytes : List ℕ = take c.min.result c.args.envelope.now in
    let i : ℕ = c.loop-byte.byte-index in
    recipients_within args bytes c.loop-byte.count c.min.result (ap (take c.min.result) (sym is)) (c.min.ensures ∙ ap (λ (l : List ℕ). min MOST_BYTES (length l)) (sym is))
    (counted_whole bytes i c.loop-byte.count c.feed.result c.loop-byte-test.true c.loop-byte.invariant.counted (c.feed.ensures.step (take i bytes) c.loop-byte.invariant.read) c.in-End.is)

pub loop-byte-preserved : goal.loop-byte-preserved
loop-byte-preserved c =
    let bytes : List ℕ = take c.min.result c.args.envelope.now in
    let i : ℕ = c.loop-byte.byte-index in
    let turn = counted_more bytes i c.loop-byte.count c.feed.result c.loop-byte-test.true c.loop-byte.invariant.counted (c.feed.ensures.step (take i bytes) c.loop-byte.invariant.read) in
    let read : HasRead (take (i + 1) bytes) c.feed.new.self = subst (λ l. HasRead l c.feed.new.self) (sym (take_more bytes i 0 c.loop-byte-test.true)) (c.feed.ensures.read (take i bytes) c.loop-byte.invariant.read) in
    let counted = λ (n : ℕ). Counted (read_envelope (take (i + 1) bytes)) n in
    elim c.match-feed.branch [
      | in-Recipient w ↦ record { read = read; counted = subst counted (sym w.count-is) (subst (λ s. Turn s (read_envelope (take (i + 1) bytes)) c.loop-byte.count) w.in-Recipient.is turn); low = omega (arith, c.loop-byte.invariant.low, w.count-is) }
      | in-More w ↦ record { read = read; counted = subst counted (sym w.count-is) (turn_other c.feed.result (read_envelope (take (i + 1) bytes)) c.loop-byte.count w.in-More.is turn); low = omega (arith, c.loop-byte.invariant.low, w.count-is) }
    ]

pub returns : goal.returns
returns c = λ args is.
    let bytes : List ℕ = take c.min.result c.args.envelope.now in
    recipients_within args bytes 0 c.min.result (ap (take c.min.result) (sym is)) (c.min.ensures ∙ ap (λ (l : List ℕ). min MOST_BYTES (length l)) (sym is))
    (counted_none bytes c.loop-byte.byte-index c.loop-byte.count c.loop-byte-test.false c.loop-byte.invariant.counted)
