use Rattle.command_words.proofs.Members.{clean_dir, lspawn_dir, rspawn_two, send_turns}
use Rattle.command_words.proofs.laws.words_of_members.Goals as goal

pub returns : goal.returns
returns c = record {
  send = send_turns;
  clean = clean_dir;
  lspawn = lspawn_dir;
  rspawn = rspawn_two;
}
