use Rattle.std.proofs.Common.{◌≡◌, ◌⊎◌, inl, inr, true, None, not, IsSome, is_some, refl, sym, ap, subst, ◌∙◌, rules}
use Rattle.std.proofs.lemmas.Result.{err_from_is_err_and}
use Rattle.call_fs.specs.declared.calls.CallData.TheVariants.{Link}
use Rattle.call_fs.specs.declared.calls.Answer.TheVariants as answer
use Rattle.call_fs.specs.Apply.{IsLinkable, effect}
use Rattle.call_fs.specs.Disk.{HasDir}
use Rattle.mem_fs.specs.MemDisk.{Held, Planned, disk_of}
use Rattle.mem_fs.proofs.Steps.{none_of}
use Rattle.call_runs.specs.Lists.{held_of}
use Rattle.call_runs.proofs.Planned.{failed}
use Rattle.call_runs.proofs.plain_fs.PlainFsCallFs.link.Goals.{then-is_none-via-then-is_none, then-is_none-via-else-is_none+then-not-has_dir}
use Rattle.call_runs.proofs.plain_fs.PlainFsCallFs.link.Goals as goal

-- a planned fault was counted, and left all as it was
pub returns-in_err-begin-clause-counts : goal.returns-in_err-begin-clause-counts
returns-in_err-begin-clause-counts c =
    let p = err_from_is_err_and c.from_residual.result c.from_residual.ensures.1 in
    let why = c.in_err-begin.ensures.fault in
    let was = c.self.inside in
    let now = c.begin.new.self in
    rw (p.1, p.2, why)
    (failed c.args.self.now (held_of was.lists) was.picks.items was.plan.at.items now.at.items was.plan.made now.made was.plan.faults now.faults c.self.view_is
    c.in_err-begin.ensures.plan c.in_err-begin.ensures.made (c.in_err-begin.ensures.planned.0 refl) c.in_err-begin.ensures.faults)

pub returns-then-is_none-clause-went : goal.returns-then-is_none-clause-went
returns-then-is_none-clause-went c =
    let same : held_of c.self.inside.lists ≡ c.args.self.now.held = ap (λ (m : Planned). m.held) c.self.view_is in
    let missing : ((disk_of c.args.self.now.held).names c.args.old.now ≡ None) ⊎ (¬ (HasDir (disk_of c.args.self.now.held) c.args.new.now)) = elim c.then-is_none.branch [
      | then-is_none-via-then-is_none w ↦
          inl (subst (λ (h : Held). (disk_of h).names c.args.old.now ≡ None) same (sym c.number_of.ensures ∙ none_of c.number_of.result (c.is_none.ensures ∙ ap not w.if-is_none.true)))
      | then-is_none-via-else-is_none+then-not-has_dir w ↦
          inr (λ has. let yes = w.has_dir.ensures.1 (subst (λ (h : Held). HasDir (disk_of h) c.args.new.now) (sym same) has) in let other = w.if-not-has_dir.true in absurd (cc))
    ] in
    record {
      told = (0, missing, ap (λ (h : Held). disk_of h) same);
      read = refl;
      recorded = tt;
      kind = tt;
      number = tt;
      moment = tt;
      plan = search rules;
      cause = search rules;
    }

pub returns-then-is_some-clause-went : goal.returns-then-is_some-clause-went
returns-then-is_some-clause-went c =
    let same : held_of c.self.inside.lists ≡ c.args.self.now.held = ap (λ (m : Planned). m.held) c.self.view_is in
    let old : is_some c.number_of.result ≡ true = c.is_none.ensures ∙ ap not c.if-is_none.false in
    let new : is_some c.number_of-2.result ≡ true = sym c.is_some.ensures ∙ c.if-is_some.true in
    record {
      told = (
        0,
        (
          subst (λ (h : Held). IsSome ((disk_of h).names c.args.old.now)) same (subst IsSome c.number_of.ensures old),
          subst (λ (h : Held). HasDir (disk_of h) c.args.new.now) same (c.has_dir.ensures.0 c.if-not-has_dir.false),
          subst (λ (h : Held). IsSome ((disk_of h).names c.args.new.now)) same (subst IsSome c.number_of-2.ensures new),
        ),
        ap (λ (h : Held). disk_of h) same,
      );
      read = refl;
      recorded = tt;
      kind = tt;
      number = tt;
      moment = tt;
      plan = search rules;
      cause = search rules;
    }

pub returns-clause-went : goal.returns-clause-went
returns-clause-went c =
    let same : held_of c.self.inside.lists ≡ c.args.self.now.held = ap (λ (m : Planned). m.held) c.self.view_is in
    let old : is_some c.number_of.result ≡ true = c.is_none.ensures ∙ ap not c.if-is_none.false in
    record {
      told = (
        0,
        subst (λ (h : Held). IsLinkable (disk_of h) c.args.old.now c.args.new.now) same (record {
          there = subst IsSome c.number_of.ensures old;
          dir = c.has_dir.ensures.0 c.if-not-has_dir.false;
          free = sym c.number_of-2.ensures ∙ none_of c.number_of-2.result (sym c.is_some.ensures ∙ c.if-is_some.false);
        }),
        c.in_ok-link.ensures.ok ∙ ap (λ (h : Held). effect (disk_of h) 0 (Link c.args.old.now c.args.new.now) answer.Done 0) same,
      );
      read = refl;
      recorded = tt;
      kind = tt;
      number = tt;
      moment = tt;
      plan = search rules;
      cause = search rules;
    }
