-- The requests of a pass over a channel file (qmail-lspawn(8), qmail-rspawn(8)), as they lie ready, and the link to a spawner.
use Rattle.std.specs.Prelude.{ℕ, List, [], ◌∷◌, Option, Some, None, if◌then◌else◌}
use Rattle.std.specs.List.{filter_map}
use Rattle.address_rules.specs.Names.{verp_of}
use Rattle.envelope_records.specs.declared.channel.Record.{Record}
use Rattle.queue_paths.specs.Names.{split_text}
use Rattle.send_links.specs.declared.link.Link.{Link}
use Rattle.spawn_protocol.specs.Report.Reader.{AtBegin}
use Rattle.spawn_protocol.specs.Request.{request_text}

-- The request for a recipient of message n, which has this sender: the recipient's VERP is the sender that it sees. Its slot
-- is 0 until it comes first.
abbrev pub request_of : ℕ → List ℕ → List ℕ → List ℕ
request_of n sender recipient =
    request_text (record { slot = 0; mess = split_text n; sender = verp_of sender recipient; recipient = recipient })

-- if its record reads `T`
abbrev pub request_for : ℕ → List ℕ → Record → Option (List ℕ)
request_for n sender r = if r.done then None else Some (request_of n sender r.address)

abbrev pub requests_of : ℕ → List ℕ → List Record → List (List ℕ)
requests_of n sender records = filter_map (request_for n sender) records

abbrev pub first_text : List (List ℕ) → List ℕ
first_text [] = []
first_text (text ∷ texts) = text

-- a request is for this slot: that is its first byte
abbrev pub to_slot : ℕ → List ℕ → List ℕ
to_slot slot [] = []
to_slot slot (b ∷ bs) = slot ∷ bs

-- the first request is for this slot, if there is a slot
abbrev pub addressed : Option ℕ → List (List ℕ) → List (List ℕ)
addressed None texts = texts
addressed (Some slot) [] = []
addressed (Some slot) (text ∷ texts) = to_slot slot text ∷ texts

-- of the link to a spawner: nothing has come of a report, and there is no request to give
abbrev pub quiet : Link
quiet = record { reader = AtBegin; requests = [] }
