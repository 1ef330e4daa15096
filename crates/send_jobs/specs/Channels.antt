-- The schedule of a channel (qmail-send(8)).
use Rattle.std.specs.Prelude.{ℕ}
use Rattle.send_known.specs.declared.channel.Channel.{Channel}
use Rattle.send_known.specs.declared.channel.Channel.TheVariants.{Local, Remote}

-- by how much the root of a message's age grows from one try to the next
abbrev pub skip_of : Channel → ℕ
skip_of Local = 10
skip_of Remote = 20
