use Rattle.mem_files.proofs.NumberTable.{found_number}
use Rattle.mem_files.proofs.numbers.index_of.Goals as goal

pub unwrap-requires : goal.unwrap-requires
unwrap-requires g c = found_number c.args.entries.now c.requires.in_order c.args.number c.place_of.result c.place_of.ensures c.requires.there
