use Rattle.std.proofs.Common.{◌≡◌, Contains, List, ℕ, refl, sym, ap, subst, rules}
use Rattle.std.proofs.lemmas.Result.{err_from_is_err_and}
use Rattle.call_fs.specs.Apply.{IsLastName, IsNextName}
use Rattle.mem_fs.specs.MemDisk.{Held, Planned, disk_of}
use Rattle.call_runs.specs.Lists.{held_of}
use Rattle.call_runs.proofs.Planned.{failed}
use Rattle.call_runs.proofs.plain_fs.PlainFsCallFs.next_name.Goals.{in-Some, in-None}
use Rattle.call_runs.proofs.plain_fs.PlainFsCallFs.next_name.Goals as goal

-- a planned fault was counted, and left all as it was
pub returns-in_err-begin-clause-counts : goal.returns-in_err-begin-clause-counts
returns-in_err-begin-clause-counts c =
    let p = err_from_is_err_and c.from_residual.result c.from_residual.ensures.1 in
    let why = c.in_err-begin.ensures.fault in
    let was = c.self.inside in
    let now = c.begin.new.self in
    rw (p.1, p.2, why)
    (failed c.args.self.now (held_of was.lists) was.picks.items was.plan.at.items now.at.items was.plan.made now.made was.plan.faults now.faults c.self.view_is
    c.in_err-begin.ensures.plan c.in_err-begin.ensures.made (c.in_err-begin.ensures.planned.0 refl) c.in_err-begin.ensures.faults)

pub returns-clause-went : goal.returns-clause-went
returns-clause-went c =
    let same : held_of c.self.inside.lists ≡ c.args.self.now.held = ap (λ (m : Planned). m.held) c.self.view_is in
    let dir = c.args.dir.now in
    let after = c.args.after.now in
    let listed : Contains c.args.self.now.held.dirs dir = subst (λ (h : Held). Contains h.dirs dir) same (c.is_dir.ensures.0 c.if-not-is_dir.false) in
    elim c.match-next_name.branch [
      | in-Some w ↦ rw (w.self-inside-is, w.result-is, w.into-is) (record {
        told = (
          0,
          (listed, subst (λ (h : Held). IsNextName (disk_of h) dir after w.fill.new.into) same (subst (λ (x : List ℕ). IsNextName (disk_of (held_of c.self.inside.lists)) dir after x) (sym w.fill.ensures) w.in-Some.ensures.some)),
          ap (λ (h : Held). disk_of h) same,
        );
        read = refl;
        recorded = tt;
        kind = tt;
        number = tt;
        moment = tt;
        plan = search rules;
        cause = search rules;
      })
      | in-None w ↦ rw (w.self-inside-is, w.result-is) (record {
        told = (0, (listed, subst (λ (h : Held). IsLastName (disk_of h) dir after) same w.in-None.ensures.none), ap (λ (h : Held). disk_of h) same);
        read = refl;
        recorded = tt;
        kind = tt;
        number = tt;
        moment = tt;
        plan = search rules;
        cause = search rules;
      })
    ]
