use Rattle.std.proofs.Common.{◌≡◌, ◌++◌, length, take, drop, subst, rules}
use Rattle.std.proofs.lemmas.List.{take_at}
use Rattle.call_fs.specs.Disk.{File}
use Rattle.call_fs.specs.Apply.{overwritten}
use Rattle.mem_files.specs.MemFile.{IsSurvivor}
use Rattle.mem_files.proofs.Survivors.{survivor-overwritten}
use Rattle.mem_files.proofs.file.FileData.overwrite.Goals as goal

pub invariant_of-self-2 : goal.invariant_of-self-2
invariant_of-self-2 c =
    let old = c.self.inside in
    let before : File = record { bytes = old.bytes.items; kept = old.kept.items; given = old.given.items; least = old.least; greatest = old.greatest; moment = old.moment } in
    let all = c.put_over.new.all in
    let rest = drop (length all) old.bytes.items in
    let whole : take old.bytes.len (all ++ rest) ≡ all = take_at all rest old.bytes.len (search rules) in
    let is : overwritten c.args.now c.args.at c.args.bytes.now before ≡ record { bytes = all; kept = old.kept.items; given = c.give.new.given.items; least = old.least; greatest = old.greatest; moment = c.args.now } = search rules in
    (search rules, c.requires, rw whole (subst IsSurvivor is (survivor-overwritten c.args.now c.args.at c.args.bytes.now before c.self.invariant.2)))
