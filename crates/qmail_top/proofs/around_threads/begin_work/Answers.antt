use Rattle.std.proofs.Common.{[], List, reverse, take, sym, ap, ◌∙◌, subst, refl}
use Rattle.std.specs.List.{AllByRecursion, AllZip}
use Rattle.std.proofs.lemmas.List.{take_all}
use Rattle.crash_fs.specs.Crash.{crash_disk, crash_plan}
use Rattle.call_fs.specs.Plan.{no_plan}
use Rattle.world_events.specs.declared.event.Event.{Event as Kept}
use Rattle.mail_world.specs.LivingMails.{AreLivingMails}
use Rattle.mail_world.specs.Wired.{AreWholeGivings}
use Rattle.mail_world.specs.World.{Seen}
use Rattle.mail_world.proofs.LivingMails.{no_mails}
use Rattle.crash_fs.specs.Crash.{Crash}
use Rattle.script_words.specs.declared.entry.Entry.{Entry}
use Rattle.script_lines.specs.declared.line.Line.{Line}
use Rattle.script_lines.specs.declared.line.Line.TheVariants as line
use Rattle.script_lines.specs.declared.keyword.Alone.TheVariants as alone
use Rattle.script_lines.specs.Contents.{HaveEntryPaths}
use Rattle.scenario.specs.Deeds.{TellsDeed}
use Rattle.scenario.specs.Fates.{IsFedSo}
use Rattle.script_disks.specs.FirstDisk.{IsFirstDisk}
use Rattle.scenario.specs.Playing.{IsPlaying}
use Rattle.scenario.specs.Working.{is_mail_line, mail_lines, HasBegun}
use Rattle.scenario.proofs.Openings.{first_opens}
use Rattle.scenario.proofs.ScriptLines.{with_next}
use Rattle.scenario.proofs.WorkedLines.{nothing_begun, begun_with_line, met}
use Rattle.qmail_top.proofs.around_threads.begin_work.Goals as goal

pub loop-line-init : goal.loop-line-init
loop-line-init c =
    let world = c.in_ok-world.ensures.world in
    let d = crash_disk c.in_ok-first_disk.field-0 in
    let entries = c.opening.ensures in
    let first = subst (λ (l : List Entry). IsFirstDisk l d) entries.value c.in_ok-first_disk.ensures.disk in
    let events = ap (λ (w : Seen Crash). w.events) world in
    let playing : IsPlaying d c.in_ok-world.world no_plan [] = record {
      is = c.in_ok-world.ensures.begun (first_opens c.args.script.now.opening d (subst HaveEntryPaths entries.value entries.paths) first);
      told = subst (λ (l : List Kept). AllZip TellsDeed (reverse l) []) (sym events) tt;
      planned = ap (λ (w : Seen Crash). crash_plan w.disk) world ∙ c.in_ok-first_disk.ensures.plan;
      whole = subst (λ (l : List Kept). AreWholeGivings (reverse l)) (sym events) tt;
      starts = tt;
      fed = subst (λ (l : List Kept). AllByRecursion IsFedSo (reverse l)) (sym events) tt;
    } in (nothing_begun c.args.script.now.opening d c.in_ok-world.world first playing, rw c.new-mails.ensures.items (subst (λ (l : List Kept). AreLivingMails l []) (sym events) no_mails))

pub loop-line-preserved : goal.loop-line-preserved
loop-line-preserved c =
    let so = c.loop-line.invariant.0 in
    let items = c.lines-line-items.result.now in
    let i = c.loop-line.line-index in
    let one = c.line-item.result in
    let done = c.in_ok-add_line.ensures in (
      subst (λ (l : List Line). HasBegun c.args.script.now.opening (mail_lines l) c.add_line.new.world) (sym (with_next items i one c.loop-line-test.true c.line-item.is))
          (met c.args.script.now.opening (take i items) one c.loop-line.world c.add_line.new.world so (is_mail_line one) refl (λ mail. done.played mail so.disk so.left so.deeds so.playing) done.other),
      done.mails,
    )

pub returns-clause-begun : goal.returns-clause-begun
returns-clause-begun c =
    let items = c.lines-line-items.result.now in
    let i = c.loop-line.line-index in
    let lines = c.args.script.now.lines in
    let so = subst (λ (l : List Line). HasBegun c.args.script.now.opening (mail_lines l) c.loop-line.world) (take_all i items c.loop-line-test.false ∙ c.lines-line-items.ensures) c.loop-line.invariant.0 in
    begun_with_line c.args.script.now.opening (mail_lines lines) (line.Alone alone.Sender) c.loop-line.world c.add_generation.new.world so
    (c.in_ok-add_generation.ensures.played so.disk so.left so.deeds so.playing)

pub add_generation-requires : goal.add_generation-requires
add_generation-requires c = rw c.deref.ensures.value c.loop-line.invariant.1

pub returns-clause-mails : goal.returns-clause-mails
returns-clause-mails c = rw c.deref.ensures.value at c.in_ok-add_generation.ensures.mails
