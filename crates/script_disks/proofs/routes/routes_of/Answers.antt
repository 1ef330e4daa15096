use Rattle.std.proofs.Common.{ℕ, List, [], ◌∷◌, ◌++◌, ◌+◌, ◌≡◌, take, refl, sym, ap, ◌∙◌, subst}
use Rattle.std.proofs.lemmas.List.{take_more}
use Rattle.envelope_records.specs.Envelope.{HasRead, read_envelope, reader_of, ended_address}
use Rattle.script_disks.specs.declared.routes.Lanes.{Lanes}
use Rattle.script_disks.specs.Routes.{AreLanes, routes_in}
use Rattle.script_disks.proofs.Envelopes.{Holds, HeldBefore, Turn, turned, turn_other, held_start, recipient_held, held_whole, held_none, recipients_within}
use Rattle.script_disks.proofs.routes.routes_of.Goals as goal
use Rattle.script_disks.proofs.routes.routes_of.Goals.{in-Recipient+in_ok-add-in-Recipient, in-More}

pub loop-byte-init : goal.loop-byte-init
loop-byte-init c = record {
  read = c.new-reader.ensures;
  held = held_start (λ recipients. AreLanes c.args.controls.now recipients c.new-lanes.result) (record { local = c.new-lanes.ensures.local; remote = c.new-lanes.ensures.remote; routed = c.new-lanes.ensures.routed });
}

pub returns-in-End : goal.returns-in-End
returns-in-End c =
    let bytes : List ℕ = take c.min.result c.args.envelope.now in
    let i : ℕ = c.loop-byte.byte-index in
    let lanes : List (List ℕ) → Type 0 = λ recipients. AreLanes c.args.controls.now recipients c.loop-byte.lanes in
    let within = recipients_within c.args.envelope.now bytes c.min.result refl c.min.ensures in
    let whole = held_whole lanes bytes i c.feed.result c.loop-byte-test.true c.loop-byte.invariant.held (c.feed.ensures.step (take i bytes) c.loop-byte.invariant.read) c.in-End.is in
    ap (λ v. v.items) c.into_routed.ensures ∙ whole.routed ∙ ap (routes_in c.args.controls.now) within

pub loop-byte-preserved : goal.loop-byte-preserved
loop-byte-preserved c =
    let bytes : List ℕ = take c.min.result c.args.envelope.now in
    let i : ℕ = c.loop-byte.byte-index in
    let before : List (List ℕ) → Type 0 = λ recipients. AreLanes c.args.controls.now recipients c.loop-byte.lanes in
    let now : List ℕ = take (i + 1) bytes in
    let turn = turned before bytes i c.feed.result c.loop-byte-test.true c.loop-byte.invariant.held (c.feed.ensures.step (take i bytes) c.loop-byte.invariant.read) in
    let read : HasRead now c.feed.new.self = subst (λ l. HasRead l c.feed.new.self) (sym (take_more bytes i 0 c.loop-byte-test.true)) (c.feed.ensures.read (take i bytes) c.loop-byte.invariant.read) in
    let holds : Lanes → Type 0 = λ lanes. Holds (λ recipients. AreLanes c.args.controls.now recipients lanes) (read_envelope now) in
    elim c.match-feed.branch [
      | in-Recipient+in_ok-add-in-Recipient w ↦
          record {
            read = read;
            held = subst holds (sym w.lanes-is)
                (recipient_held before (λ recipients. AreLanes c.args.controls.now recipients w.add.new.self) (read_envelope now)
                (subst (λ did. Turn before did (read_envelope now)) w.in-Recipient.is turn)
                (λ recipients are. subst (λ a. AreLanes c.args.controls.now (recipients ++ a ∷ []) w.add.new.self) (w.text.ensures ∙ ap ended_address read) (w.in_ok-add-in-Recipient.ensures recipients are)));
          }
      | in-More w ↦ record { read = read; held = subst holds (sym w.lanes-is) (turn_other before c.feed.result (read_envelope now) w.in-More.is turn) }
    ]

pub returns : goal.returns
returns c =
    let bytes : List ℕ = take c.min.result c.args.envelope.now in
    let lanes : List (List ℕ) → Type 0 = λ recipients. AreLanes c.args.controls.now recipients c.loop-byte.lanes in
    let within = recipients_within c.args.envelope.now bytes c.min.result refl c.min.ensures in
    let none = held_none lanes bytes c.loop-byte.byte-index c.loop-byte-test.false c.loop-byte.invariant.held in
    c.new.ensures.items ∙ ap (routes_in c.args.controls.now) (sym none ∙ within)
