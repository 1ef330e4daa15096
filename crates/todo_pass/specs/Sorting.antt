-- What a todo text says, sorted by channel: the texts of the files that a pass makes (INTERNALS, "How messages are
-- preprocessed").
use Rattle.std.specs.Prelude.{ℕ, ◌+◌, List, [], ◌∷◌, ◌++◌, length, flat_map, Option, Some, None, Bool, true, false, Result, Ok, Err}
use Rattle.std.specs.List.{filter_map}
use Rattle.address_rules.specs.declared.controls.Controls.{Controls}
use Rattle.address_rules.specs.declared.rewriting.Route.{Route}
use Rattle.address_rules.specs.declared.rewriting.Route.TheVariants as route
use Rattle.address_rules.specs.Routes.{route_of}
use Rattle.envelope_records.specs.Envelope.{record_of}
use Rattle.todo_pass.specs.declared.part.Target.{Target}
use Rattle.todo_pass.specs.declared.part.Target.TheVariants.{Info, Local, Remote}
use Rattle.todo_pass.specs.declared.sorted.Sorted.{Sorted}
use Rattle.todo_pass.specs.Todo.{Todo, read_todo}

-- the address that a route has in a channel's file; none of the other channel
abbrev pub local_of : Route → Option (List ℕ)
local_of (route.Local address) = Some address
local_of (route.Remote address) = None

abbrev pub remote_of : Route → Option (List ℕ)
remote_of (route.Local address) = None
remote_of (route.Remote address) = Some address

-- the routed addresses of a channel, in the order of the envelope
abbrev pub locals_of : Controls → List (List ℕ) → List (List ℕ)
locals_of controls recipients = filter_map (λ r. local_of (route_of controls r)) recipients

abbrev pub remotes_of : Controls → List (List ℕ) → List (List ℕ)
remotes_of controls recipients = filter_map (λ r. remote_of (route_of controls r)) recipients

-- `F`, the sender, NUL
abbrev pub info_text : List ℕ → List ℕ
info_text sender = 70 ∷ (sender ++ 0 ∷ [])

-- `T`, the address, NUL for each address
abbrev pub channel_text : List (List ℕ) → List ℕ
channel_text addresses = flat_map record_of addresses

-- a todo text, sorted
abbrev pub sorted_of : Controls → Todo → Sorted
sorted_of controls it = record {
  uid = it.uid;
  pid = it.pid;
  sender = it.sender;
  info = info_text it.sender;
  local = channel_text (locals_of controls it.recipients);
  remote = channel_text (remotes_of controls it.recipients);
  locals = length (locals_of controls it.recipients);
  remotes = length (remotes_of controls it.recipients);
}

-- bytes that are read as a todo text, sorted; or the place of the first byte that no todo text has there
abbrev pub sorted_by : Controls → Result Todo ℕ → Result Sorted ℕ
sorted_by controls (Ok it) = Ok (sorted_of controls it)
sorted_by controls (Err at) = Err at

unfoldable pub sort_todo : Controls → List ℕ → Result Sorted ℕ
sort_todo controls bytes = sorted_by controls (read_todo bytes)

-- the text of a file
abbrev pub text_of : Sorted → Target → List ℕ
text_of s Info = s.info
text_of s Local = s.local
text_of s Remote = s.remote

-- there is a record in it
abbrev pub has : List ℕ → Bool
has [] = false
has (b ∷ bs) = true

-- Step by step

-- nothing yet
abbrev pub none_sorted : ℕ → ℕ → Sorted
none_sorted uid pid = record { uid = uid; pid = pid; sender = []; info = []; local = []; remote = []; locals = 0; remotes = 0 }

abbrev pub with_sender : Sorted → List ℕ → Sorted
with_sender s sender = record s { sender = sender; info = info_text sender }

abbrev pub with_route : Sorted → Route → Sorted
with_route s (route.Local address) = record s { local = s.local ++ record_of address; locals = s.locals + 1 }
with_route s (route.Remote address) = record s { remote = s.remote ++ record_of address; remotes = s.remotes + 1 }

abbrev pub with_recipient : Controls → Sorted → List ℕ → Sorted
with_recipient controls s recipient = with_route s (route_of controls recipient)
