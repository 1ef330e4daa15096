use Rattle.std.proofs.Common.{◌≡◌, true, false, bytes_eq, Contains, refl, sym, subst, ◌∙◌, ap, rules, tests}
use Rattle.std.specs.Prelude.{codes}
use Rattle.std.proofs.lemmas.Bool.{false≢true}
use Rattle.std.proofs.lemmas.Result.{on_ok_weaker}
use Rattle.actor_names.specs.MailNames.{members}
use Rattle.scenario.specs.Fates.{is_delivery_name}
use Rattle.scenario.proofs.Followed.{apart_by, follows_delivery, follows_mail, follows_member}
use Rattle.scenario.proofs.fates.Following.act.Goals as goal
use Rattle.scenario.proofs.fates.Following.act.Goals.{then-is_member, else-is_member}

pub returns-then-is_delivery : goal.returns-then-is_delivery
returns-then-is_delivery c =
    let differs : bytes_eq c.args.actor.now (codes "sender") ≡ false = search (rules, tests) in
    elim c.if-is_member.branch [
      | then-is_member w ↦
          (let member : Contains members c.args.actor.now = subst (Contains members) c.as_slice-name.ensures (c.is_member.ensures.0 w.if-is_member.true) in
          λ s wrote named moment does h. follows_member c.args.self.now s c.args.actor.now c.args.own.now wrote named (apart_by c.args.actor.now differs) member h)
      | else-is_member w ↦
          (let alone : ¬ (Contains members c.args.actor.now) = λ m. false≢true (sym w.if-is_member.false ∙ c.is_member.ensures.1 (subst (Contains members) (sym c.as_slice-name.ensures) m)) in
          let delivers : is_delivery_name c.args.actor.now ≡ true = ap is_delivery_name (sym c.as_slice-name.ensures) ∙ sym w.is_delivery.ensures ∙ sym w.value-is ∙ c.if-is_delivery.true in
          λ s wrote named moment does h. follows_delivery c.args.self.now s c.args.actor.now c.args.own.now wrote named (apart_by c.args.actor.now differs) alone delivers h)
    ]

pub returns-else-is_delivery : goal.returns-else-is_delivery
returns-else-is_delivery c =
    elim c.if-is_member.branch [
      | then-is_member w ↦ absurd (false≢true (sym c.if-is_delivery.false ∙ w.value-is ∙ w.if-is_member.true))
      | else-is_member w ↦
          (let alone : ¬ (Contains members c.args.actor.now) = λ m. false≢true (sym w.if-is_member.false ∙ c.is_member.ensures.1 (subst (Contains members) (sym c.as_slice-name.ensures) m)) in
          let injects : is_delivery_name c.args.actor.now ≡ false = ap is_delivery_name (sym c.as_slice-name.ensures) ∙ sym w.is_delivery.ensures ∙ sym w.value-is ∙ c.if-is_delivery.false in
          on_ok_weaker c.link.result
          (λ link s wrote named moment does h.
          follows_mail c.args.self.now (record { fates = c.link.new.self; sender = c.args.self.now.sender }) s c.args.actor.now c.args.own.now wrote named alone injects refl link does h)
          c.link.ensures)
    ]
