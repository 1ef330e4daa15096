use Rattle.std.proofs.Common.{◌≡◌, ℕ, false, Result, Ok, Err, sym, ap, ◌∙◌, arith}
use Rattle.std.specs.Prelude.{codes, OnOk}
use Rattle.std.specs.Result.{is_err}
use Rattle.mail_world.specs.Generations.{reported_world}
use Rattle.mail_world.specs.Known.{known}
use Rattle.scenario.proofs.TurnRuns.{reports_begin}
use Rattle.scenario.proofs.TurnSteps.{report_on, reports_over, reports_full, no_earlier, slot_small}
use Rattle.scenario.proofs.turning.report_all.Goals as goal

if_no_err : {T E P : Type 0} (r : Result T E) → is_err r ≡ false → OnOk r P → P
if_no_err (Ok x) none p = p
if_no_err (Err e) none p = absurd (let other = none in cc)

pub loop-slot-init : goal.loop-slot-init
loop-slot-init c = λ d plan h playing. reports_begin d h c.args.letter c.args.world.now plan playing

pub returns-in_default : goal.returns-in_default
returns-in_default c = λ d plan h playing.
    reports_over d h c.args.letter c.loop-slot.world plan c.loop-slot.from (c.loop-slot.invariant d plan h playing) (sym c.in_default.is ∙ c.unreported.ensures)

pub loop-slot-preserved : goal.loop-slot-preserved
loop-slot-preserved c = λ d plan h playing.
    let ok = sym c.is_err.ensures.value ∙ c.if-is_err.false in
    report_on d h c.args.letter c.loop-slot.world c.report-told.new.self plan c.loop-slot.from c.in-Some.slot c.in-Some-checked_add.next (c.loop-slot.invariant d plan h playing) c.in-Some.ensures
    (if_no_err c.report-told.result ok c.report-told.ensures.reported ∙ ap (λ (b : ℕ). reported_world c.loop-slot.world c.in-Some.slot b (codes "settled")) c.byte.ensures)
    (if_no_err c.report-told.result ok c.report-told.ensures.goes_on) c.in-Some-checked_add.ensures.1

pub loop-slot-smaller : goal.loop-slot-smaller
loop-slot-smaller c =
    let low = no_earlier c.loop-slot.from c.in-Some.slot (known c.loop-slot.world.events) c.in-Some.ensures in
    let next = c.in-Some-checked_add.ensures in
    omega arith

pub returns-in-None : goal.returns-in-None
returns-in-None c = λ d plan h playing.
    let ok = sym c.is_err.ensures.value ∙ c.if-is_err.false in
    let high = c.in-None.ensures in
    let low = slot_small c.loop-slot.from c.in-Some.slot (known c.loop-slot.world.events) c.in-Some.ensures in
    reports_full d h c.args.letter c.report-told.new.self plan
    (report_on d h c.args.letter c.loop-slot.world c.report-told.new.self plan c.loop-slot.from c.in-Some.slot 256 (c.loop-slot.invariant d plan h playing) c.in-Some.ensures
    (if_no_err c.report-told.result ok c.report-told.ensures.reported ∙ ap (λ (b : ℕ). reported_world c.loop-slot.world c.in-Some.slot b (codes "settled")) c.byte.ensures)
    (if_no_err c.report-told.result ok c.report-told.ensures.goes_on) (omega arith))
