use Rattle.std.proofs.Common.{Bor, ◌∙◌, ap, sym, subst, List, [], ℕ, take}
use Rattle.mem_fs.specs.MemDisk.{disk_of}
use Rattle.queue_states.specs.Listing.{AreNamesIn}
use Rattle.script_disks.proofs.Gathered.{texts, Gathering, gathered_all, gathering_none, passed_at, more_at, seen_all}
use Rattle.script_disks.proofs.numbers.gather.Goals as goal
use Rattle.script_disks.proofs.numbers.gather.Goals.{in-Some+in_ok-push, in_default}

pub loop-name-init : goal.loop-name-init
loop-name-init c = gathering_none (disk_of c.args.disk.now.held) c.args.dir.now c.args.numbers.now.items

pub loop-name-preserved : goal.loop-name-preserved
loop-name-preserved c =
    let d = disk_of c.args.disk.now.held in
    let names = c.deref-name-items.result.now in
    let i = c.loop-name.name-index in
    let b : Bor (List ℕ) = record { ref_ptr = (0, 0); now = [] } in
    let old = c.args.numbers.now.items in
    let new = c.loop-name.numbers.items in
    let are = subst (λ t. AreNamesIn d c.args.dir.now (texts t)) (sym c.deref-name-items.ensures.value) c.in_ok-names_of.ensures in
    elim c.match-branch-3.branch [
      | in-Some+in_ok-push w ↦
          more_at d c.args.dir.now names i b old new c.match-branch-3.numbers.items c.in_ok-number.field-0 w.in-Some.number are
          c.loop-name.invariant c.loop-name-test.true c.in_ok-number.ensures w.in-Some.is (ap (λ v. v.items) w.numbers-is ∙ w.in_ok-push.ensures.items)
      | in_default w ↦
          passed_at d c.args.dir.now names i b old c.match-branch-3.numbers.items c.in_ok-number.field-0
          (subst (λ t. Gathering d c.args.dir.now (texts (take i names)) old t) (ap (λ v. v.items) (sym w.numbers-is)) c.loop-name.invariant)
          c.loop-name-test.true c.in_ok-number.ensures w.in_default.is
    ]

pub returns : goal.returns
returns c =
    let d = disk_of c.args.disk.now.held in
    let all = subst (λ seen. Gathering d c.args.dir.now seen c.args.numbers.now.items c.loop-name.numbers.items)
    (seen_all c.deref-name-items.result.now c.loop-name.name-index c.loop-name-test.false ∙ ap texts c.deref-name-items.ensures.value) c.loop-name.invariant in
    record {
      kept = all.kept;
      only = all.only;
      all = gathered_all d c.args.dir.now (texts c.in_ok-names_of.field-0.items) c.args.numbers.now.items c.loop-name.numbers.items all c.in_ok-names_of.ensures;
    }
