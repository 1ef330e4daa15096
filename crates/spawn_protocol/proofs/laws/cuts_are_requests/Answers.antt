use Rattle.spawn_protocol.specs.Cut.Cut.{More, Whole, TooLong}
use Rattle.spawn_protocol.proofs.Cuts.{cut_is}
use Rattle.spawn_protocol.proofs.laws.cuts_are_requests.Goals as goal

pub returns : goal.returns
returns c = record {
  whole = λ bytes rest r. cut_is bytes (Whole r rest);
  more = λ bytes. cut_is bytes More;
  long = λ bytes. cut_is bytes TooLong;
}
