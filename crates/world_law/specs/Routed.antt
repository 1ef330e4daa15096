-- By which controls a message is routed, and by which a recipient of it is named in its note, told by what senders asked for: by those that the
-- sender had read by its past which asked for it last, in the life of the message, whatever came of that.
use Rattle.std.specs.Option.{option_and_then, option_map_or, option_or}
use Rattle.std.specs.Prelude.{◌≡◌, ℕ, List, [], ◌∷◌, ◌++◌, Bool, false, ◌&&◌, ◌==◌, Option, Some, None, if◌then◌else◌, unwrap_or, bytes_eq}
use Rattle.address_rules.specs.declared.controls.Controls.{Controls}
use Rattle.call_fs.specs.Disk.{Disk}
use Rattle.call_fs.specs.declared.calls.CallData.TheVariants.{Open, WriteAt}
use Rattle.call_fs.specs.declared.calls.How.TheVariants.{Write}
use Rattle.call_fs.specs.declared.past.NeedData.{NeedData}
use Rattle.call_fs.specs.declared.past.NeedData.TheVariants as needs
use Rattle.call_fs.specs.declared.past.Own.{Own}
use Rattle.call_fs.specs.declared.program.Port.TheVariants.{Clean}
use Rattle.queue_inject.specs.declared.injection.Arguments.{Arguments}
use Rattle.queue_inject.specs.Texts.{recipients_of}
use Rattle.queue_paths.specs.Names.{path, todo_command}
use Rattle.queue_paths.specs.Names.Name.{Of}
use Rattle.queue_law.specs.Books.{Injection}
use Rattle.queue_law.specs.Ledgers.{Spot, unrouted}
use Rattle.queue_law.specs.Notes.{counted_among, namer, told_name}
use Rattle.queue_law.specs.Routes.{Recipient, lane_part, routed, spot_of}
use Rattle.send_core.specs.Papers.{controls_told}
use Rattle.send_known.specs.declared.channel.Channel.{Channel}
use Rattle.world_events.specs.declared.event.Program.{Program}
use Rattle.world_events.specs.declared.event.Program.TheVariants.{Sender}
use Rattle.mail_world.specs.History.{Actor, Event, Legal, State, after}
use Rattle.mail_world.specs.History.Event.{Act}
use Rattle.world_law.specs.Lives.{IsLifeOf, begun_in}

-- What is asked for

-- that the cleaner ends the preprocessing of this message: its todo command is given
abbrev pub is_routing : ℕ → List Own → NeedData → Bool
is_routing n past (needs.Give Clean text) = bytes_eq text (todo_command n ++ 0 ∷ [])
is_routing n past due = false

abbrev pub opens_lane : ℕ → Channel → NeedData → Bool
opens_lane n ch (needs.File (Open name Write)) = bytes_eq name (path (Of (lane_part ch) n))
opens_lane n ch due = false

-- that this record is written over: the file of its channel was opened to be written directly before
abbrev pub is_marking : ℕ → Spot → List Own → NeedData → Bool
is_marking n s (opened ∷ before) (needs.File (WriteAt fd place bytes)) = opens_lane n s.channel opened.due && (place == s.place)
is_marking n s past due = false

-- Who asked for it last

abbrev pub asker : (List Own → NeedData → Bool) → Program → List Own → NeedData → Option Controls
asker such (Sender start) past due = if such past due then Some (controls_told past) else None
asker such program past due = None

abbrev pub asked_in : (List Own → NeedData → Bool) → State → Event → Option Controls
asked_in such s (Act a own wrote) = option_and_then (λ (x : Actor). asker such x.program x.past own.due) (s.actors a)
asked_in such s event = None

-- By which controls such a thing was asked for last, in the life of this number that lasts after these events. When a sender that had read one `me`
-- gave todo/1, and after it one that had read another, it is the other's; and none once mess/1 is linked anew.
abbrev pub last_asked : (List Own → NeedData → Bool) → Disk → ℕ → List Event → Option Controls
last_asked such d n [] = None
last_asked such d n (event ∷ before) = let s = after d before in option_or (asked_in such s event) (if option_map_or (λ m. m == n) (begun_in s event) false then None else last_asked such d n before)

-- Who routes and who names

-- by which controls a message is routed after these events; before the first todo command by none
abbrev pub routes_told : Disk → List Event → ℕ → Controls
routes_told d h n = unwrap_or (last_asked (is_routing n) d n h) unrouted

-- by which a recipient of it is named; before its record was written over by those that route it
abbrev pub namer_told : Disk → List Event → ℕ → Spot → Controls
namer_told d h n s = unwrap_or (last_asked (is_marking n s) d n h) (routes_told d h n)

-- how a note names a recipient, and how many recipients are such and have this name, by who routes and who names
abbrev pub name_by : Controls → (Spot → Controls) → (args : Arguments) → Recipient args → List ℕ
name_by routes namer args r = told_name (namer (spot_of routes args r)) (routed routes args r)

abbrev pub counted_by : Controls → (Spot → Controls) → Arguments → (Spot → Bool) → List ℕ → ℕ
counted_by routes namer args such name = counted_among routes (λ s address. such s && bytes_eq (told_name (namer s) address) name) [] (recipients_of args)

-- The ledgers have just that: each injection is routed, and each of its recipients named, as the events of its life tell.
abbrev pub LedgersAreRouted : Type 0
LedgersAreRouted = (d : Disk) (h : List Event) → Legal d h → (i : Injection) (life : List Event) → IsLifeOf d h life i
    → (i.ledger.routes ≡ routes_told d life i.number) × ((s : Spot) → namer i.ledger.routes i.ledger.marked s ≡ namer_told d life i.number s)
