use Rattle.std.proofs.Common.{◌≡◌, ◌≢◌, ◌⊎◌, inl, inr, ◌-◌, ℕ, sym, ap, ◌∙◌, subst, arith}
use mathlib.Core.Bool.{false≢true}
use Rattle.mem_files.proofs.Idle.{AreBusyUpTo, busy_up_to_none, busy_up_to_more, candidate_idle, candidate_positive, candidate_below_all, higher_busy}
use Rattle.mem_files.proofs.files.greatest_idle.Goals as goal
use Rattle.mem_files.proofs.files.greatest_idle.Goals.{then-entry-number-via-then-entry-number, then-entry-number-via-else-entry-number+then-is_idle}

pub loop-at-init : goal.loop-at-init
loop-at-init c = busy_up_to_none c.args.files.now

pub loop-at-preserved : goal.loop-at-preserved
loop-at-preserved c =
    let above = c.requires.positive (c.loop-at.at - 1) c.index-files-at.result (omega (arith, c.loop-at.invariant.within)) in
    let key = ap (λ (e : ℕ × _). e.0) c.index-files-at.is in
    busy_up_to_more c.args.files.now c.loop-at.at c.loop-at.number c.index-files-at.result (omega arith) (omega (arith, above, key, c.if-entry-number.false)) c.index-files-at.is c.if-entry-number.false
    (λ idle. false≢true (sym c.if-is_idle.false ∙ c.is_idle.ensures.1 idle)) c.loop-at.invariant

pub returns-then-entry-number-clause-some : goal.returns-then-entry-number-clause-some
returns-then-entry-number-clause-some c =
    let e = c.index-files-at.result in
    let why : (e.0 ≢ c.loop-at.number) ⊎ ((e.1.links ≡ 0) × (e.1.opens ≡ 0)) = elim c.then-entry-number.branch [
      | then-entry-number-via-then-entry-number w ↦ inl w.if-entry-number.true
      | then-entry-number-via-else-entry-number+then-is_idle w ↦ inr (w.is_idle.ensures.0 w.if-is_idle.true)
    ] in (
      candidate_positive c.args.files.now c.requires c.loop-at.at c.loop-at.number e (omega arith) c.loop-at.invariant,
      candidate_idle c.args.files.now c.requires c.loop-at.at c.loop-at.number e (omega arith) c.index-files-at.is (omega arith) c.loop-at.invariant why,
      higher_busy c.args.files.now c.requires c.loop-at.at c.loop-at.number c.loop-at.invariant,
    )

pub returns-else-number-eq0-clause-some : goal.returns-else-number-eq0-clause-some
returns-else-number-eq0-clause-some c =
    let end : c.loop-at.at ≡ 0 = omega arith in
    let so_far = subst (λ i. AreBusyUpTo c.args.files.now i c.loop-at.number) end c.loop-at.invariant in
    (omega arith, candidate_below_all c.args.files.now c.requires c.loop-at.number so_far, higher_busy c.args.files.now c.requires 0 c.loop-at.number so_far)
