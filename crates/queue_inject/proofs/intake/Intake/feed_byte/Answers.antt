use Rattle.std.proofs.Common.{ℕ, ◌+◌, ◌++◌, ◌∷◌, [], refl, sym, ◌∙◌, subst, true, false}
use Rattle.queue_inject.specs.declared.intake.Intake.TheInside.{Inside}
use Rattle.queue_inject.specs.inside.Fields.{heard_of}
use Rattle.queue_inject.specs.Stands.{Reads}
use Rattle.queue_inject.proofs.Feeding.{reads_open, reads_closed}
use Rattle.queue_inject.proofs.intake.Intake.feed_byte.Goals as goal
use Rattle.queue_inject.proofs.intake.Intake.feed_byte.Goals.{then-is_open+then-is_open-2, then-is_open+else-is_open-2, else-is_open}

pub returns-clause-reads : goal.returns-clause-reads
returns-clause-reads c = λ done head read r.
    let b : ℕ = c.args.byte in
    let Goal : Inside → Type 0 = λ i. Reads (heard_of (record i { fed = i.fed + 1 })) done head (read ++ b ∷ []) in
    let old : Reads (heard_of c.self.inside) done head read = subst (λ h. Reads h done head read) (sym c.self.view_is) r in
    elim c.if-is_open.branch [
      | then-is_open+then-is_open-2 w ↦ subst Goal (sym w.self-inside-is) (reads_open (heard_of c.self.inside) _ done head read b w.feed-step.result old (sym c.is_open.ensures ∙ w.if-is_open.true)
          (w.feed-step.ensures.read read) (w.feed-step.ensures.step read) refl w.verdict_after-self-inside.ensures true (sym w.is_open-then-is_open.ensures ∙ w.if-is_open-2.true) w.push.ensures)
      | then-is_open+else-is_open-2 w ↦ subst Goal (sym w.self-inside-is) (reads_open (heard_of c.self.inside) _ done head read b w.feed-step.result old (sym c.is_open.ensures ∙ w.if-is_open.true)
          (w.feed-step.ensures.read read) (w.feed-step.ensures.step read) refl w.verdict_after-self-inside.ensures false (sym w.is_open-then-is_open.ensures ∙ w.if-is_open-2.false) refl)
      | else-is_open w ↦ subst Goal (sym w.self-inside-is) (reads_closed (heard_of c.self.inside) _ done head read b old (sym c.is_open.ensures ∙ w.if-is_open.false) refl refl refl)
    ]
