-- What a local delivery is started with.
use Rattle.std.specs.Prelude.{ℕ}
use Rattle.call_fs.specs.declared.past.DeliveryWordsData.{DeliveryWordsData}
use Rattle.local_parts.specs.declared.arguments.LocalArgs.{LocalArgs}

-- The words of its command line, the user's number, and its own process number.
abbrev pub local_args : DeliveryWordsData → ℕ → ℕ → LocalArgs
local_args words uid pid = record {
  user = words.user;
  home = words.home;
  local = words.local;
  dash = words.dash;
  ext = words.ext;
  domain = words.domain;
  sender = words.sender;
  line = words.line;
  uid = uid;
  pid = pid;
}
