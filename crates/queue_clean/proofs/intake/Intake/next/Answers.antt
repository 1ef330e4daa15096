use Rattle.std.proofs.Common.{◌≡◌, ℕ, ◌+◌, ◌%◌, List, [], take, drop, Some, sym, ap, ◌∙◌}
use Rattle.std.proofs.lemmas.List.{drop-drop}
use Rattle.queue_clean.specs.Machine.{Intake, kept, read_by, next_nul, after_next}
use Rattle.queue_clean.proofs.intake.Intake.next.Goals as goal

taken_up : (i read up : Intake) (k : ℕ) → next_nul i ≡ Some k → read ≡ record i { word = kept i.word (take k i.pending); pending = drop k i.pending }
    → up ≡ record { word = []; pending = drop 1 read.pending; turn = (read.turn + 1) % 31 } → up ≡ after_next i
taken_up i read up k nul read_is up_is =
    up_is
    ∙ ap (λ (r : Intake). record { word = []; pending = drop 1 r.pending; turn = (r.turn + 1) % 31 }) read_is
    ∙ ap (λ (p : List ℕ). record { word = []; pending = p; turn = (i.turn + 1) % 31 }) (drop-drop 1 k i.pending)
    ∙ ap (λ o. read_by o i) (sym nul)

pub returns-in-Some-clause-rest : goal.returns-in-Some-clause-rest
returns-in-Some-clause-rest c = taken_up c.args.self.now _ _ c.in-Some.count (sym c.in-Some.ensures) c.read-in-Some.ensures c.take_up.ensures.rest
