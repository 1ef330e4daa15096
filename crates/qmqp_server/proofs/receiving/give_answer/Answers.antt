use Rattle.std.proofs.Common.{◌≡◌, ◌≤◌, ◌++◌, ℕ, List, inl, inr, length, refl, subst, take, ◌∙◌}
use Rattle.mail_bytes.specs.Told.{Meets}
use Rattle.qmqp_server.proofs.receiving.give_answer.Goals as goal

pub returns-in-Done : goal.returns-in-Done
returns-in-Done g c =
    inl (refl, subst (λ (t : List ℕ). Meets (g.O.Sink.taken c.args.out.now) (g.O.Sink.taken c.give.new.self) (λ before after. after ≡ before ++ t)) (c.as_slice.ensures.name ∙ c.answer_of.ensures) c.in-Done.ensures.told)

pub returns-in-Failed : goal.returns-in-Failed
returns-in-Failed g c = inr (
  refl,
  c.give.ensures.cause.rose c.in-Failed.is,
  subst (λ (t : List ℕ). Meets (g.O.Sink.taken c.args.out.now) (g.O.Sink.taken c.give.new.self) (λ before after. (count : ℕ) × (count ≤ length t) × (after ≡ before ++ take count t)))
      (c.as_slice.ensures.name ∙ c.answer_of.ensures) c.in-Failed.ensures.told,
)
