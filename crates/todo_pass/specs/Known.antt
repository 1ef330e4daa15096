-- What a sender knows of a message that was preprocessed.
use Rattle.send_known.specs.declared.known.Known.{Known}
use Rattle.todo_pass.specs.Sorting.{has}
use Rattle.todo_pass.specs.Table.{Pass}

-- it may be finished at once, and has a channel file of each channel that has recipients
abbrev pub known_of : Pass → Known
known_of p = record {
  n = p.n;
  birth = p.birth;
  finish_at = 0;
  local = has p.sorted.local;
  remote = has p.sorted.remote;
  sender = p.sorted.sender;
}
