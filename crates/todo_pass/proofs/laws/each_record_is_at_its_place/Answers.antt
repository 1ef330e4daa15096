use Rattle.todo_pass.proofs.Places.{each_at_its_place}
use Rattle.todo_pass.proofs.laws.each_record_is_at_its_place.Goals as goal

pub returns : goal.returns
returns c = each_at_its_place
