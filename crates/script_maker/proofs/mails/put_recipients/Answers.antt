use Rattle.std.proofs.Common.{◌≡◌, ℕ, ◌+◌, ◌*◌, List, [], ◌∷◌, ◌++◌, ap, ◌∙◌, arith, append_assoc}
use Rattle.call_fs.specs.Choices.{drawn}
use Rattle.script_maker.specs.Mails.{draw, recipient, recipients_after}
use Rattle.script_maker.proofs.Drawn.{iterate_more, recipients_more}
use Rattle.script_maker.proofs.mails.put_recipients.Goals as goal

pub loop-place-preserved : goal.loop-place-preserved
loop-place-preserved c =
    let x : ℕ = c.args.draws.now in
    let k : ℕ = c.loop-place.place in
    let base : List ℕ = c.args.text.now.items ++ recipients_after x k in
    let drawn_so : c.loop-place.draws ≡ draw x (2 * k) = c.loop-place.invariant.draws in
    let once : drawn c.loop-place.draws ≡ draw x (1 + 2 * k) = ap drawn drawn_so ∙ iterate_more drawn (2 * k) (1 + 2 * k) x (omega arith) in
    let first : c.draw-first.result ≡ draw x (1 + 2 * k) = c.draw-first.ensures.value ∙ once in
    let twice : drawn c.draw-first.new.self ≡ draw x (2 + 2 * k) = ap drawn (c.draw-first.ensures.last ∙ once) ∙ iterate_more drawn (1 + 2 * k) (2 + 2 * k) x (omega arith) in
    let second : c.draw-second.result ≡ draw x (2 + 2 * k) = c.draw-second.ensures.value ∙ twice in
    let on : 2 + 2 * k ≡ 2 * (k + 1) = omega arith in
    record {
      text = c.in_ok-put_recipient.ensures
          ∙ ap (λ (t : List ℕ). t ++ recipient c.draw-first.result c.draw-second.result) (c.in_ok-push.ensures.items ∙ ap (λ (t : List ℕ). t ++ 32 ∷ []) c.loop-place.invariant.text)
          ∙ append_assoc base (32 ∷ []) (recipient c.draw-first.result c.draw-second.result)
          ∙ ap (λ (d : ℕ). base ++ 32 ∷ recipient d c.draw-second.result) first
          ∙ ap (λ (e : ℕ). base ++ 32 ∷ recipient (draw x (1 + 2 * k)) e) second
          ∙ recipients_more c.args.text.now.items x k;
      draws = c.draw-second.ensures.last ∙ twice ∙ ap (draw x) on;
    }
