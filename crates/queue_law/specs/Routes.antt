-- What preprocessing makes of a message: the texts of its files, and where the record of each recipient stands.
use Rattle.std.specs.Prelude.{◌≡◌, ℕ, List, [], ◌∷◌, ◌++◌, take}
use Rattle.address_rules.specs.declared.controls.Controls.{Controls}
use Rattle.address_rules.specs.declared.rewriting.Route.{Route}
use Rattle.address_rules.specs.declared.rewriting.Route.TheVariants as route
use Rattle.address_rules.specs.Routes.{address_in, route_of}
use Rattle.envelope_records.specs.Envelope.{Reading, read_envelope}
use Rattle.envelope_records.specs.Envelope.Reading.{Whole, Open, Broken}
use Rattle.queue_inject.specs.declared.injection.Arguments.{Arguments}
use Rattle.queue_inject.specs.Texts.{limit, recipients_of}
use Rattle.queue_paths.specs.Names.{Part}
use Rattle.queue_paths.specs.Names.Part.{Local, Remote}
use Rattle.send_known.specs.declared.channel.Channel.{Channel}
use Rattle.send_known.specs.declared.channel.Channel.TheVariants as channel
use Rattle.todo_pass.specs.Places.{place_by}
use Rattle.todo_pass.specs.Sorting.{channel_text, info_text, locals_of, remotes_of}
use Rattle.todo_pass.specs.Todo.{Todo}
use Rattle.queue_law.specs.Ledgers.{Spot}

-- the sender of a reading
abbrev pub sender_read : Reading → List ℕ
sender_read (Whole sender recipients) = sender
sender_read (Open stage) = []
sender_read (Broken before fault) = []

-- the sender of a message that can be accepted
unfoldable pub sender_of : Arguments → List ℕ
sender_of args = sender_read (read_envelope (take limit args.envelope))

-- what the todo text of an accepted message says
abbrev pub todo_in : Arguments → Todo
todo_in args = record { uid = args.uid; pid = args.pid; sender = sender_of args; recipients = recipients_of args }

-- the info file of a message
abbrev pub info_of : Arguments → List ℕ
info_of args = info_text (sender_of args)

-- The file of a channel, as preprocessing writes it. A channel without recipients has none. Of recipients `a@x`, which is local, and
-- `b@y`, which isn't, the local one is `Ta@x`, NUL and the remote one `Tb@y`, NUL.
abbrev pub lane_text : Controls → Arguments → Channel → List ℕ
lane_text controls args channel.Local = channel_text (locals_of controls (recipients_of args))
lane_text controls args channel.Remote = channel_text (remotes_of controls (recipients_of args))

-- its name's part
abbrev pub lane_part : Channel → Part
lane_part channel.Local = Local
lane_part channel.Remote = Remote

-- a recipient of a message, with those before it and after it in the envelope
pub record Recipient (args : Arguments) : Type 0 where
  pub earlier : List (List ℕ)
  pub address : List ℕ
  pub later : List (List ℕ)
  pub split : recipients_of args ≡ earlier ++ address ∷ later

abbrev pub channel_of : Route → Channel
channel_of (route.Local address) = channel.Local
channel_of (route.Remote address) = channel.Remote

-- where the record of an address stands that comes after these in the envelope
abbrev pub spot_after : Controls → List (List ℕ) → List ℕ → Spot
spot_after controls earlier address = record {
  channel = channel_of (route_of controls address);
  place = place_by controls earlier (route_of controls address);
}

-- The channel of a recipient, and the place of its record there. Both `a@x` and `b@y` are at place 0 of their channels.
abbrev pub spot_of : Controls → (args : Arguments) → Recipient args → Spot
spot_of controls args r = spot_after controls r.earlier r.address

-- the address that its record has
abbrev pub routed : Controls → (args : Arguments) → Recipient args → List ℕ
routed controls args r = address_in (route_of controls r.address)

-- the record of a recipient stands there
abbrev pub IsSpot : Controls → Arguments → Spot → Type 0
IsSpot controls args s = (r : Recipient args) × (s ≡ spot_of controls args r)
