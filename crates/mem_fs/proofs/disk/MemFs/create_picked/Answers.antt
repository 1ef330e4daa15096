use Rattle.std.proofs.Common.{◌≡◌, sym, ap, subst, ◌∙◌}
use Rattle.call_fs.specs.declared.calls.CallData.TheVariants.{CreateExcl}
use Rattle.call_fs.specs.declared.calls.Answer.TheVariants.{Created}
use Rattle.call_fs.specs.Apply.{IsNew, effect}
use Rattle.mem_fs.specs.MemDisk.{Held, Planned, disk_of}
use Rattle.mem_fs.proofs.Steps.{none_of}
use Rattle.mem_fs.proofs.disk.MemFs.create_picked.Goals as goal

pub returns-clause-told : goal.returns-clause-told
returns-clause-told c =
    let fd = c.in-Some-least_descriptor.fd in
    let n = c.in-Some.number in
    let name = c.args.name.now in
    let same : c.self.inside.store ≡ c.args.self.now.held = ap (λ (m : Planned). m.held) c.self.view_is in (
      0,
      subst (λ (h : Held). IsNew (disk_of h) name fd.0 n) same (record {
        dir = c.has_dir.ensures.0 c.if-not-has_dir.false;
        free = sym c.number_of.ensures ∙ none_of c.number_of.result (sym c.is_some.ensures ∙ c.if-is_some.false);
        positive = c.in-Some.ensures.free.0;
        unused = c.in-Some.ensures.free.1;
        not_open = c.in-Some-least_descriptor.ensures.some.not_open;
      }),
      c.in_ok-create.ensures.ok ∙ ap (λ (h : Held). effect (disk_of h) c.args.now (CreateExcl name) (Created fd n) 0) same,
    )
