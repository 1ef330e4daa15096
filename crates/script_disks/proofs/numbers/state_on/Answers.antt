use Rattle.mem_fs.specs.MemDisk.{disk_of}
use Rattle.queue_states.proofs.States.{state_named}
use Rattle.script_disks.proofs.numbers.state_on.Goals as goal

pub returns : goal.returns
returns c =
    let mess = c.is_there.ensures in
    let intd = c.is_either.ensures in
    let todo = c.is_either-2.ensures in
    let info = c.is_there-2.ensures in
    let local = c.is_there-3.ensures in
    let remote = c.is_there-4.ensures in
    let bounce = c.is_there-5.ensures in
    let named = state_named (disk_of c.args.disk.now.held) c.args.number in
    let state = c.state_of.ensures in
    cc
