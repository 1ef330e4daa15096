-- The two channels (qmail-send(8)).
use Rattle.std.specs.Prelude.{ℕ}
use Rattle.call_fs.specs.declared.program.Port.{Port}
use Rattle.call_fs.specs.declared.program.Port.TheVariants as port
use Rattle.queue_paths.specs.declared.names.Name.{Name}
use Rattle.queue_paths.specs.declared.names.Name.TheVariants as name
use Rattle.send_known.specs.declared.channel.Channel.{Channel}
use Rattle.send_known.specs.declared.channel.Channel.TheVariants.{Local, Remote}

-- the link to its spawner
abbrev pub port_of : Channel → Port
port_of Local = port.Lspawn
port_of Remote = port.Rspawn

-- its file of a message
abbrev pub file_of : Channel → ℕ → Name
file_of Local n = name.Local n
file_of Remote n = name.Remote n
