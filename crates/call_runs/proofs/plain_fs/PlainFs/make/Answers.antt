use Rattle.std.proofs.Common.{◌≡◌, true, IsSome, is_some, refl, sym, ap, subst, ◌∙◌}
use Rattle.std.proofs.lemmas.Result.{err_from_is_err_and}
use Rattle.call_fs.specs.declared.calls.CallData.TheVariants.{CreateExcl}
use Rattle.call_fs.specs.declared.calls.Answer.TheVariants.{Created}
use Rattle.call_fs.specs.Apply.{IsNew, effect}
use Rattle.call_fs.specs.Disk.{HasDir}
use Rattle.mem_fs.specs.MemDisk.{Held, Planned, disk_of}
use Rattle.mem_fs.proofs.Steps.{none_of}
use Rattle.call_runs.specs.Lists.{held_of}
use Rattle.call_runs.proofs.Planned.{failed}
use Rattle.call_runs.proofs.plain_fs.PlainFs.make.Goals as goal

pub returns-clause-told : goal.returns-clause-told
returns-clause-told c =
    let fd = c.in-Some-least_descriptor.fd in
    let n = c.in-Some.number in
    let name = c.args.name.now in
    let same : held_of c.self.inside.lists ≡ c.args.self.now.held = ap (λ (m : Planned). m.held) c.self.view_is in (
      0,
      subst (λ (h : Held). IsNew (disk_of h) name fd.0 n) same (record {
        dir = c.has_dir.ensures.0 c.if-not-has_dir.false;
        free = sym c.number_of.ensures ∙ none_of c.number_of.result (sym c.is_some.ensures ∙ c.if-is_some.false);
        positive = c.in-Some.ensures.free.0;
        unused = c.in-Some.ensures.free.1;
        not_open = c.in-Some-least_descriptor.ensures.not_open;
      }),
      c.in_ok-create.ensures.ok ∙ ap (λ (h : Held). effect (disk_of h) c.args.now (CreateExcl name) (Created fd n) 0) same,
    )

-- a planned fault was counted, and left all as it was
pub returns-in_err-begin-clause-counts : goal.returns-in_err-begin-clause-counts
returns-in_err-begin-clause-counts c =
    let p = err_from_is_err_and c.from_residual.result c.from_residual.ensures.1 in
    let why = c.in_err-begin.ensures.fault in
    let was = c.self.inside in
    let now = c.begin.new.self in
    rw (p.1, p.2, why)
    (failed c.args.self.now (held_of was.lists) was.picks.items was.plan.at.items now.at.items was.plan.made now.made was.plan.faults now.faults c.self.view_is
    c.in_err-begin.ensures.plan c.in_err-begin.ensures.made (c.in_err-begin.ensures.planned.0 refl) c.in_err-begin.ensures.faults)

pub returns-then-not-has_dir-clause-told : goal.returns-then-not-has_dir-clause-told
returns-then-not-has_dir-clause-told c =
    let same : held_of c.self.inside.lists ≡ c.args.self.now.held = ap (λ (m : Planned). m.held) c.self.view_is in (
      0,
      λ has. let yes = c.has_dir.ensures.1 (subst (λ (h : Held). HasDir (disk_of h) c.args.name.now) (sym same) has) in let other = c.if-not-has_dir.true in absurd (cc),
      ap (λ (h : Held). disk_of h) same,
    )

pub returns-then-is_some-clause-told : goal.returns-then-is_some-clause-told
returns-then-is_some-clause-told c =
    let name = c.args.name.now in
    let same : held_of c.self.inside.lists ≡ c.args.self.now.held = ap (λ (m : Planned). m.held) c.self.view_is in
    let some : is_some c.number_of.result ≡ true = sym c.is_some.ensures ∙ c.if-is_some.true in (
      0,
      (
        subst (λ (h : Held). HasDir (disk_of h) name) same (c.has_dir.ensures.0 c.if-not-has_dir.false),
        subst (λ (h : Held). IsSome ((disk_of h).names name)) same (subst IsSome c.number_of.ensures some),
      ),
      ap (λ (h : Held). disk_of h) same,
    )
