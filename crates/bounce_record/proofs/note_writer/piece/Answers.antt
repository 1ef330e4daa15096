use Rattle.std.proofs.Common.{◌≡◌, ℕ, ◌-◌, min, List, length, take, drop, arith, ap, ◌∙◌, length-drop, drop_of_length-le}
use Rattle.std.proofs.lemmas.List.{take_all, take_min}
use Rattle.std.proofs.Math.Nat.{min_comm}
use Rattle.bounce_record.proofs.note_writer.piece.Goals as goal

drop_min : (xs : List ℕ) (n : ℕ) → drop (min n (length xs)) xs ≡ drop n xs
drop_min xs n = grind (arith, drop_of_length-le {A = ℕ})

pub returns : goal.returns
returns c =
    let text : List ℕ = c.args.text.now in
    let from = c.min.result in
    let whole : take (length text - from) (drop from text) ≡ drop c.args.done text =
    take_all _ _ (omega (arith, length-drop from text)) ∙ ap (λ n. drop n text) c.min.ensures ∙ drop_min text c.args.done in
    ap (λ n. take n (take (length text - from) (drop from text))) c.min-2.ensures
    ∙ ap (λ (r : List ℕ). take (min (length r) 8192) r) whole
    ∙ ap (λ n. take n (drop c.args.done text)) (min_comm _ _) ∙ take_min 8192 _
