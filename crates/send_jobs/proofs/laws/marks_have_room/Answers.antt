use Rattle.send_jobs.proofs.Rooms.{idle_roomy, sent_roomy, reported_roomy, marked_roomy, settled_roomy}
use Rattle.send_jobs.proofs.laws.marks_have_room.Goals as goal

pub returns : goal.returns
returns c = record {
  idle = idle_roomy;
  begun = λ lane n begun records dying h. h;
  sent = sent_roomy;
  reported = reported_roomy;
  marked = marked_roomy;
  settled = settled_roomy;
}
