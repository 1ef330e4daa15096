use Rattle.std.proofs.Common.{◌≡◌, ◌-◌, min, List, ℕ, ◌++◌, length, take, drop, ap, ◌∙◌}
use Rattle.queue_clean.specs.Inside.{intake_of}
use Rattle.queue_clean.specs.Machine.{Intake, kept}
use Rattle.queue_clean.proofs.Parts.{kept_is}
use Rattle.queue_clean.proofs.intake.Intake.read.Goals as goal

pub returns : goal.returns
returns c =
    let i : Intake = intake_of c.self.inside in
    let count : ℕ = c.args.count in
    let room : c.min-room.result ≡ min count (100 - length i.word) =
    c.min-room.ensures ∙ ap (λ (w : List ℕ). min count (100 - length w)) c.as_slice.ensures.name in
    let word : c.put.new.into ≡ kept i.word (take count i.pending) =
    c.put.ensures ∙ ap (λ (p : List ℕ). i.word ++ take c.min-room.result p) c.as_slice-2.ensures
    ∙ kept_is i.word i.pending count c.min-room.result c.self.invariant.short room in
    let read : record { word = c.put.new.into; pending = c.pass.new.self; turn = i.turn } ≡ record i { word = kept i.word (take count i.pending); pending = drop count i.pending } =
    λ j. record { word = word j; pending = c.pass.ensures j; turn = i.turn } in
    read ∙ ap (λ (n : Intake). record n { word = kept n.word (take count n.pending); pending = drop count n.pending }) c.self.view_is
