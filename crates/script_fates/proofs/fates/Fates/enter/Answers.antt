use Rattle.std.proofs.Common.{◌≡◌, ℕ, ◌+◌, ◌<◌, ◌≤◌, List, drop, length, take, Some, None, sym, subst, arith, rules}
use Rattle.std.specs.Prelude.{slice_get}
use Rattle.std.proofs.lemmas.Option.{get_or_from_slice_get}
use Rattle.queue_law.specs.Books.{Books}
use Rattle.send_jobs.specs.declared.attempts.Mark.{Mark}
use Rattle.script_fates.specs.declared.fates.Fates.{Fates}
use Rattle.script_fates.specs.Fates.{AreFates}
use Rattle.script_fates.specs.Entering.{entered_of}
use Rattle.script_fates.proofs.Takings.{entered_more, not_past}
use Rattle.script_fates.proofs.fates.Fates.enter.Goals as goal
use Rattle.script_fates.proofs.fates.Fates.enter.Goals.{in-Some+in_ok-enter_mark, in_default}

pub loop-at-preserved : goal.loop-at-preserved
loop-at-preserved c =
    let at : ℕ = c.loop-at.at in
    let marks : List Mark = c.args.marks.now in
    let before : ℕ = c.args.before in
    let low : before ≤ at = omega (arith, c.loop-at.auto.at) in
    let high : at < length marks = omega (arith, c.loop-at-test.true, c.len-at-end.ensures) in
    elim c.match-get.branch [
      | in-Some+in_ok-enter_mark w ↦
          let m : Mark = w.in-Some.mark.now in
          let there : slice_get marks at ≡ Some m = search rules in
          λ books h.
          subst (λ (f : Fates). AreFates f (entered_of c.args.channel (drop before (take (at + 1) marks)) books)) (sym w.self-is)
          (subst (λ (b : Books). AreFates w.enter_mark.new.self b) (sym (entered_more c.args.channel marks before at m books low high (sym (get_or_from_slice_get marks at m m there))))
          (w.in_ok-enter_mark.ensures (entered_of c.args.channel (drop before (take at marks)) books) (c.loop-at.invariant books h)))
      | in_default w ↦
          let none : slice_get marks at ≡ None = search rules in
          absurd (not_past marks at high none)
    ]
