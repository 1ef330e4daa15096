use Rattle.std.proofs.Common.{◌≡◌, ◌<◌, ◌++◌, ◌^◌, length, ap, subst, arith, rules}
use Rattle.call_fs.specs.Disk.{File}
use Rattle.call_fs.specs.Apply.{grown}
use Rattle.mem_files.specs.MemFile.{IsSurvivor}
use Rattle.mem_files.proofs.Survivors.{survivor-grown}
use Rattle.mem_files.proofs.file.FileData.append.Goals as goal

pub invariant_of-self-2 : goal.invariant_of-self-2
invariant_of-self-2 c =
    let old = c.self.inside in
    let before : File = record { bytes = old.bytes.items; kept = old.kept.items; given = old.given.items; least = old.least; greatest = old.greatest; moment = old.moment } in
    let made = c.extend_from_slice.new.self in
    let small : length (old.bytes.items ++ c.args.bytes.now) < 2 ^ 63 =
    let size = ap length c.in_ok-extend_from_slice.ensures.items in omega (arith, size, made.ok.0, made.ok.1, made.small) in
    let is : grown c.args.now c.args.bytes.now before ≡ record { bytes = made.items; kept = c.reserve_for.new.kept.items; given = c.give.new.given.items; least = old.least; greatest = c.max-self-inside.result; moment = c.args.now } = search rules in (
      search rules,
      c.requires,
      subst IsSurvivor is (survivor-grown c.args.now c.args.bytes.now before c.self.invariant.2 small),
    )
