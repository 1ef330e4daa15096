use Rattle.std.proofs.Common.{◌≡◌, ◌+◌, ◌<◌, ◌^◌, length, ◌++◌, ◌∷◌, [], List, reverse, take, drop, refl, sym, ap, ◌∙◌, subst, arith, append_assoc}
use Rattle.std.specs.List.{AllByRecursion, AllZip}
use Rattle.std.proofs.lemmas.List.{append-nil, take-append-drop, take_all}
use Rattle.std.proofs.lemmas.Result.{err_from_is_err_and}
use Rattle.crash_fs.specs.Crash.{Crash, crash_disk, crash_plan}
use Rattle.call_fs.specs.Plan.{no_plan}
use Rattle.mail_bytes.specs.Told.{Rose}
use Rattle.mem_fs.proofs.InTurn.{told_weaker}
use Rattle.world_events.specs.declared.event.Event.{Event as Kept}
use Rattle.mail_world.specs.Wired.{AreWholeGivings}
use Rattle.mail_world.specs.World.{Seen}
use Rattle.script_words.specs.declared.entry.Entry.{Entry}
use Rattle.script_lines.specs.declared.line.Line.{Line}
use Rattle.script_lines.specs.Contents.{HaveEntryPaths}
use Rattle.scenario.specs.Deeds.{TellsDeed}
use Rattle.scenario.specs.Fates.{IsFedSo}
use Rattle.script_disks.specs.FirstDisk.{IsFirstDisk}
use Rattle.scenario.specs.Text.{HaveFewDeeds, IsPlayed}
use Rattle.scenario.specs.Traced.{traced_after}
use Rattle.scenario.specs.Playing.{IsPlaying}
use Rattle.scenario.proofs.Deeds.{told_long}
use Rattle.scenario.proofs.OneText.{few_played}
use Rattle.scenario.proofs.Openings.{first_opens}
use Rattle.scenario.proofs.ScriptLines.{nothing_begun, nothing_played, play_goes_on, is_played, is_begun, took_more, took_none, with_next}
use Rattle.scenario.proofs.TakenLines.{append_empty}
use Rattle.scenario.proofs.playing.play.Goals as goal

pub returns-in_err-first_disk-clause-begun : goal.returns-in_err-first_disk-clause-begun
returns-in_err-first_disk-clause-begun g c =
    let p = err_from_is_err_and c.from_residual.result c.from_residual.ensures.1 in
    let entries = c.opening.ensures in
    let begun = nothing_begun c.args.script.opening c.args.script.lines (subst HaveEntryPaths entries.value entries.paths)
    (subst (λ (l : List Entry). length l < 2 ^ 64) entries.value entries.few) in
    rw p.1 (took_none (g.O.Sink.taken c.args.out.now) _ (λ x. ([], begun, sym (append-nil x))))

pub loop-line-init : goal.loop-line-init
loop-line-init g c =
    let world = c.in_ok-world.ensures.world in
    let d = crash_disk c.in_ok-first_disk.field-0 in
    let entries = c.opening.ensures in
    let first = subst (λ (l : List Entry). IsFirstDisk l d) entries.value c.in_ok-first_disk.ensures.disk in
    let playing : IsPlaying d c.in_ok-world.world no_plan [] = record {
      is = c.in_ok-world.ensures.begun (first_opens c.args.script.opening d (subst HaveEntryPaths entries.value entries.paths) first);
      told = subst (λ (l : List Kept). AllZip TellsDeed (reverse l) []) (sym (ap (λ (w : Seen Crash). w.events) world)) tt;
      planned = ap (λ (w : Seen Crash). crash_plan w.disk) world ∙ c.in_ok-first_disk.ensures.plan;
      whole = subst (λ (l : List Kept). AreWholeGivings (reverse l)) (sym (ap (λ (w : Seen Crash). w.events) world)) tt;
      starts = tt;
      fed = subst (λ (l : List Kept). AllByRecursion IsFedSo (reverse l)) (sym (ap (λ (w : Seen Crash). w.events) world)) tt;
    } in (
      refl,
      nothing_played c.args.script.opening d c.in_ok-world.world first playing,
      took_none (g.O.Sink.taken c.args.out.now) _ (λ x. sym (append-nil x)),
      λ none. refl,
    )

pub returns-in_err-text-clause-begun : goal.returns-in_err-text-clause-begun
returns-in_err-text-clause-begun g c =
    let p = err_from_is_err_and c.from_residual-in_err-text.result c.from_residual-in_err-text.ensures.1 in
    let so = c.loop-line.invariant.1 in
    let items = c.lines-line-items.result.now in
    let i = c.loop-line.line-index in
    rw p.1
    (told_weaker (g.O.Sink.taken c.args.out.now) (g.O.Sink.taken c.loop-line.out)
    (λ x y e. (
      so.text,
      is_begun c.args.script.opening c.args.script.lines (take i items) (drop i items) so.text [] so.text (sym c.lines-line-items.ensures ∙ sym (take-append-drop i items))
          (is_played c.args.script.opening (take i items) c.loop-line.world c.loop-line.traced so) (sym (append-nil so.text)),
      e,
    ))
    c.loop-line.invariant.2)

pub returns-clause-played : goal.returns-clause-played
returns-clause-played g c =
    let so = c.loop-line.invariant.1 in
    let items = c.lines-line-items.result.now in
    let i = c.loop-line.line-index in
    told_weaker (g.O.Sink.taken c.args.out.now) (g.O.Sink.taken c.loop-line.out)
    (λ x y e. (
      so.text,
      subst (λ (l : List Line). IsPlayed c.args.script.opening l so.text) (take_all i items c.loop-line-test.false ∙ c.lines-line-items.ensures)
          (is_played c.args.script.opening (take i items) c.loop-line.world c.loop-line.traced so),
      e,
    ))
    c.loop-line.invariant.2

pub returns-in_err-give-clause-cause : goal.returns-in_err-give-clause-cause
returns-in_err-give-clause-cause g c =
    let p = err_from_is_err_and c.from_residual-in_err-give.result c.from_residual-in_err-give.ensures.1 in
    rw p.1
    (λ is. subst (λ faults. Rose faults (g.O.Sink.faults c.give.new.out)) c.loop-line.invariant.0 c.in_err-give.ensures.failed.1)

pub returns-in_err-give-clause-begun : goal.returns-in_err-give-clause-begun
returns-in_err-give-clause-begun g c =
    let p = err_from_is_err_and c.from_residual-in_err-give.result c.from_residual-in_err-give.ensures.1 in
    let so = c.loop-line.invariant.1 in
    let items = c.lines-line-items.result.now in
    let i = c.loop-line.line-index in
    let one = c.line-item.result in
    let own = c.in_ok-text.text.items in
    let first = take i items ++ one ∷ [] in
    let printed = c.in_ok-text.ensures so.disk so.left so.deeds so.playing in
    let next = play_goes_on c.args.script.opening (take i items) first one c.loop-line.world c.printed.new.world c.loop-line.traced (traced_after c.loop-line.traced one) own so printed refl refl in
    let whole : c.args.script.lines ≡ first ++ drop (i + 1) items =
    sym c.lines-line-items.ensures ∙ sym (take-append-drop (i + 1) items) ∙ ap (λ l. l ++ drop (i + 1) items) (with_next items i one c.loop-line-test.true c.line-item.is) in
    rw p.1
    (took_more (g.O.Sink.taken c.args.out.now) (g.O.Sink.taken c.loop-line.out) (g.O.Sink.taken c.give.new.out) so.text _
    (λ x y z took more. (
      so.text ++ take more.0 own,
      is_begun c.args.script.opening c.args.script.lines first (drop (i + 1) items) (so.text ++ take more.0 own) (drop more.0 own) (so.text ++ own) whole
          (is_played c.args.script.opening first c.printed.new.world (traced_after c.loop-line.traced one) next)
          (ap (λ t. so.text ++ t) (sym (take-append-drop more.0 own)) ∙ sym (append_assoc so.text (take more.0 own) (drop more.0 own))),
      more.1 ∙ ap (λ t. t ++ take more.0 c.deref.result.now) took ∙ append_assoc x so.text (take more.0 c.deref.result.now) ∙ ap (λ t. x ++ (so.text ++ take more.0 t)) c.deref.ensures.value,
    ))
    c.loop-line.invariant.2 c.in_err-give.ensures.err)

pub loop-line-preserved : goal.loop-line-preserved
loop-line-preserved g c =
    let so = c.loop-line.invariant.1 in
    let items = c.lines-line-items.result.now in
    let i = c.loop-line.line-index in
    let one = c.line-item.result in
    let printed = c.in_ok-text.ensures so.disk so.left so.deeds so.playing in
    let own = c.in_ok-text.text.items in (
      c.in_ok-give.ensures.unfailed ∙ c.loop-line.invariant.0,
      play_goes_on c.args.script.opening (take i items) (take (i + 1) items) one c.loop-line.world c.printed.new.world c.loop-line.traced c.traced_after-traced.result own so printed
          (with_next items i one c.loop-line-test.true c.line-item.is) c.traced_after-traced.ensures,
      took_more (g.O.Sink.taken c.args.out.now) (g.O.Sink.taken c.loop-line.out) (g.O.Sink.taken c.give.new.out) so.text _
          (λ x y z took more. more ∙ ap (λ t. t ++ c.deref.result.now) took ∙ append_assoc x so.text c.deref.result.now ∙ ap (λ t. x ++ (so.text ++ t)) c.deref.ensures.value)
          c.loop-line.invariant.2 c.in_ok-give.ensures.ok,
      λ none.
          let each = append_empty so.text own none in
          (c.in_ok-give.ensures.nothing (c.deref.ensures.value ∙ each.1)).0 ∙ c.loop-line.invariant.3 each.0,
    )

pub returns-clause-silent : goal.returns-clause-silent
returns-clause-silent g c =
    let so = c.loop-line.invariant.1 in
    let items = c.lines-line-items.result.now in
    let i = c.loop-line.line-index in (
      so.text,
      subst (λ (l : List Line). IsPlayed c.args.script.opening l so.text) (take_all i items c.loop-line-test.false ∙ c.lines-line-items.ensures)
          (is_played c.args.script.opening (take i items) c.loop-line.world c.loop-line.traced so),
      c.loop-line.invariant.3,
    )

-- with so many events it is out of memory
pub returns-then-len-ge-TOO_MANY-clause-begun : goal.returns-then-len-ge-TOO_MANY-clause-begun
returns-then-len-ge-TOO_MANY-clause-begun g c =
    let so = c.loop-line.invariant.1 in
    let items = c.lines-line-items.result.now in
    let i = c.loop-line.line-index in
    let all = take_all i items c.loop-line-test.false ∙ c.lines-line-items.ensures in
    told_weaker (g.O.Sink.taken c.args.out.now) (g.O.Sink.taken c.loop-line.out)
    (λ x y e. (
      so.text,
      is_begun c.args.script.opening c.args.script.lines (take i items) [] so.text [] so.text (sym all ∙ sym (append-nil (take i items)))
          (is_played c.args.script.opening (take i items) c.loop-line.world c.loop-line.traced so) (sym (append-nil so.text)),
      e,
    ))
    c.loop-line.invariant.2

pub returns-clause-few : goal.returns-clause-few
returns-clause-few g c =
    let so = c.loop-line.invariant.1 in
    let items = c.lines-line-items.result.now in
    let i = c.loop-line.line-index in
    let long = told_long c.loop-line.world.events so.deeds so.playing.told in
    let kept = ap length c.history.ensures.events in
    let count = c.len.ensures in
    let low = c.if-len-ge-TOO_MANY.false in
    let few : length so.deeds < 2 ^ 63 = omega (arith, long, kept, count, low) in
    subst (λ (l : List Line). HaveFewDeeds c.args.script.opening l) (take_all i items c.loop-line-test.false ∙ c.lines-line-items.ensures)
    (few_played c.args.script.opening (take i items) so.text (is_played c.args.script.opening (take i items) c.loop-line.world c.loop-line.traced so) few)
