-- The places that words name, the channels of a command, and as which member of a generation it runs.
use Rattle.std.specs.Prelude.{Option, Some, None}
use Rattle.command_words.specs.declared.command.Command.{Command}
use Rattle.command_words.specs.declared.command.Command.TheVariants.{Play, Make, Queue, Qmqpd, Send, Audit, Clean, Lspawn, Rspawn, Local, Work}
use Rattle.command_words.specs.declared.command.Channels.{Channels}
use Rattle.command_words.specs.declared.command.Channels.TheVariants.{Nothing, Children, InputAndChildren, Links}
use Rattle.command_words.specs.declared.command.Member.{Member}
use Rattle.command_words.specs.declared.command.Member.TheVariants as as_member
use Rattle.command_words.specs.declared.command.Places.{Places}

-- `queue` names the file of the envelope, except for `-`, and the directory; each other command but `play`, `make` and `work` the directory.
-- Words that are no command name none.
abbrev pub places_of : Option Command → Places
places_of None = record { env = None; dir = None }
places_of (Some Play) = record { env = None; dir = None }
places_of (Some (Make maker)) = record { env = None; dir = None }
places_of (Some (Work threads)) = record { env = None; dir = None }
places_of (Some (Queue queue)) = record { env = queue.env; dir = Some queue.dir }
places_of (Some (Qmqpd receiver)) = record { env = None; dir = Some receiver.dir }
places_of (Some (Send sender)) = record { env = None; dir = Some sender.dir }
places_of (Some (Audit dir)) = record { env = None; dir = Some dir }
places_of (Some (Clean dir)) = record { env = None; dir = Some dir }
places_of (Some (Lspawn dir)) = record { env = None; dir = Some dir }
places_of (Some (Rspawn spawner)) = record { env = None; dir = Some spawner.dir }
places_of (Some (Local delivery)) = record { env = None; dir = Some delivery.dir }

-- The spawners take requests of their input while their children run; `local` takes its input first. The sender has links. No other command
-- has channels, and words that are no command neither.
abbrev pub channels_of : Option Command → Channels
channels_of None = Nothing
channels_of (Some Play) = Nothing
channels_of (Some (Make maker)) = Nothing
channels_of (Some (Work threads)) = Nothing
channels_of (Some (Queue queue)) = Nothing
channels_of (Some (Qmqpd receiver)) = Nothing
channels_of (Some (Send sender)) = Links
channels_of (Some (Audit dir)) = Nothing
channels_of (Some (Clean dir)) = Nothing
channels_of (Some (Lspawn dir)) = InputAndChildren
channels_of (Some (Rspawn spawner)) = InputAndChildren
channels_of (Some (Local delivery)) = Children

-- which member of a generation it is, if it is one
abbrev pub member_of : Option Command → Option Member
member_of None = None
member_of (Some Play) = None
member_of (Some (Make maker)) = None
member_of (Some (Work threads)) = None
member_of (Some (Queue queue)) = None
member_of (Some (Qmqpd receiver)) = None
member_of (Some (Send sender)) = Some as_member.Send
member_of (Some (Audit dir)) = None
member_of (Some (Clean dir)) = Some as_member.Clean
member_of (Some (Lspawn dir)) = Some as_member.Lspawn
member_of (Some (Rspawn spawner)) = Some as_member.Rspawn
member_of (Some (Local delivery)) = None
