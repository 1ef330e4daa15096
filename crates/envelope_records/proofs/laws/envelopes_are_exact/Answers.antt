use Rattle.std.proofs.Common.{}
use Rattle.envelope_records.specs.Envelope.Reading.{Whole, Open, Broken}
use Rattle.envelope_records.proofs.Envelopes.{sound_as, read_whole, read_leads, read_fault, read_start, one_envelope, read_envelope-append}
use Rattle.envelope_records.proofs.laws.envelopes_are_exact.Goals as goal

pub returns : goal.returns
returns c = record {
  whole = λ bytes sender recipients. (sound_as bytes (Whole sender recipients), read_whole bytes sender recipients);
  leads = λ bytes stage. (sound_as bytes (Open stage), read_leads bytes stage);
  first_fault = λ bytes before fault. (sound_as bytes (Broken before fault), read_fault bytes before fault);
  start = read_start;
  one = one_envelope;
  pieces = read_envelope-append;
}
