-- Where the record of each recipient of a mail stands once it is preprocessed.
use Rattle.std.specs.Prelude.{◌≡◌, ℕ, List, [], ◌∷◌, ◌++◌, take}
use Rattle.address_rules.specs.declared.controls.Controls.{Controls}
use Rattle.address_rules.specs.Names.{stripped}
use Rattle.address_rules.specs.Routes.{address_in, route_of}
use Rattle.bounce_record.specs.Notes.{note_name}
use Rattle.envelope_records.specs.Envelope.{read_envelope, record_of}
use Rattle.queue_inject.specs.Texts.{limit, recipients_read}
use Rattle.queue_law.specs.Routes.{channel_of}
use Rattle.send_known.specs.declared.channel.Channel.{Channel}
use Rattle.todo_pass.specs.Places.{place_by}
use Rattle.todo_pass.specs.Sorting.{channel_text, locals_of, remotes_of}
use Rattle.script_disks.specs.declared.routes.Lanes.{Lanes}
use Rattle.script_disks.specs.declared.routes.Routed.{Routed}

-- the record of a routed address at this place of a channel's file: `T`, the address, NUL; and the name by which a note tells it
abbrev pub put_there : Controls → Channel → ℕ → List ℕ → Routed
put_there controls c place address = record { channel = c; place = place; text = record_of address; name = note_name (stripped controls.virtual_domains address) }

-- That of an address that comes after these in the envelope, in the file of its channel. Both `a@x`, which is local, and `b@y`, which
-- isn't, are at place 0.
abbrev pub routed_after : Controls → List (List ℕ) → List ℕ → Routed
routed_after controls earlier address =
    let way = route_of controls address in put_there controls (channel_of way) (place_by controls earlier way) (address_in way)

-- those of these recipients, which come after the others
abbrev pub routes_after : Controls → List (List ℕ) → List (List ℕ) → List Routed
routes_after controls earlier [] = []
routes_after controls earlier (address ∷ later) = routed_after controls earlier address ∷ routes_after controls (earlier ++ address ∷ []) later

-- the recipients of an envelope that can be accepted
abbrev pub recipients_in : List ℕ → List (List ℕ)
recipients_in envelope = recipients_read (read_envelope (take limit envelope))

-- those of all recipients, in the order of the envelope
abbrev pub routes_in : Controls → List (List ℕ) → List Routed
routes_in controls recipients = routes_after controls [] recipients

-- the files of these recipients, and their records
pub record AreLanes (controls : Controls) (recipients : List (List ℕ)) (lanes : Lanes) : Type 0 where
  pub local : lanes.local.items ≡ channel_text (locals_of controls recipients)
  pub remote : lanes.remote.items ≡ channel_text (remotes_of controls recipients)
  pub routed : lanes.routed.items ≡ routes_in controls recipients
