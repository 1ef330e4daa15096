-- The books: the injections that the calls of injectors began and accepted; and what a call makes of readings and descriptors.
use Rattle.std.specs.Prelude.{◌≡◌, ◌⊎◌, ℕ, List, [], ◌∷◌, ◌++◌, Bool, true, false, Option, Some, None, option_map, option_to_list, if◌then◌else◌, bytes_eq}
use Rattle.call_fs.specs.declared.calls.CallData.{CallData}
use Rattle.call_fs.specs.declared.calls.CallData.TheVariants.{Close, Link}
use Rattle.call_fs.specs.declared.calls.Answer.{Answer}
use Rattle.call_fs.specs.declared.calls.Answer.TheVariants.{Created, Opened, Done}
use Rattle.call_fs.specs.declared.calls.Told.{Told}
use Rattle.call_fs.specs.declared.program.Ready.{Ready}
use Rattle.call_fs.specs.declared.past.GotData.TheVariants.{Answered}
use Rattle.call_fs.specs.declared.past.NeedData.TheVariants as needs
use Rattle.call_fs.specs.declared.past.Own.{Own}
use Rattle.call_fs.specs.Disk.{Among}
use Rattle.call_fs.specs.Maps.{put}
use Rattle.queue_paths.specs.Names.{Name, path, parse}
use Rattle.queue_paths.specs.Names.Name.{Of}
use Rattle.queue_paths.specs.Names.Part.{Mess, Intd, Todo, SplitIntd, SplitTodo}
use Rattle.queue_inject.specs.declared.injection.Arguments.{Arguments}
use Rattle.queue_inject.specs.Texts.{message_text, intd_text}
use Rattle.send_known.specs.declared.channel.Channel.{Channel}
use Rattle.queue_law.specs.Ledgers.{Ledger, Line, Spot, HasGrown, line_in, no_ledger}
use Rattle.queue_law.specs.Routes.{Recipient, lane_text, routed, spot_of}

-- a file call and what was told, as an event of a program's own past
abbrev pub own_call : ℕ → Ready → CallData → Told → Own
own_call read ready call told = record { read = read; ready = ready; due = needs.File call; came = Answered told }

-- the last moment that a program read which started at this one
abbrev pub last_read : ℕ → List Own → ℕ
last_read start [] = start
last_read start (event ∷ before) = event.read

-- An injection: an Ok link by an injector to the name of a message. It is accepted if that injector's link of intd
-- to todo answered Ok. Its ledger says what senders did with it, and by which controls its recipients are routed.
pub record Injection : Type 0 where
  pub number : ℕ
  pub actor : List ℕ
  pub args : Arguments
  pub accepted : Bool
  pub ledger : Ledger

-- The injections: of each number the one whose life lasts, and those whose life is over. A life lasts until the next
-- link to the name of that number.
pub record Books : Type 0 where
  pub living : ℕ → Option Injection
  pub over : List Injection

abbrev pub begun : List ℕ → Arguments → ℕ → Injection
begun a args n = record { number = n; actor = a; args = args; accepted = false; ledger = no_ledger }

-- the injection of that actor is accepted
abbrev pub accept : List ℕ → Option Injection → Option Injection
accept a None = None
accept a (Some q) =
    if bytes_eq q.actor a then Some (record q { accepted = true }) else Some q

-- what an Ok link to this name means
abbrev pub linked : Books → List ℕ → Arguments → List ℕ → Option Name → Books
linked b a args old (Some (Of Mess n)) =
    record { living = put b.living n (Some (begun a args n)); over = option_to_list (b.living n) ++ b.over }
linked b a args old (Some (Of Todo n)) =
    if bytes_eq old (path (Of Intd n)) then record { living = put b.living n (accept a (b.living n)); over = b.over } else b
linked b a args old (Some (Of SplitTodo n)) =
    if bytes_eq old (path (Of SplitIntd n)) then record { living = put b.living n (accept a (b.living n)); over = b.over } else b
linked b a args old name = b

-- what the books say after a call of an injector
abbrev pub booked : Books → List ℕ → Arguments → CallData → Answer → Books
booked b a args (Link old new) Done = linked b a args old (parse new)
booked b a args call answer = b

-- who holds each descriptor after a call
abbrev pub held_by : (ℕ → Option (List ℕ)) → List ℕ → CallData → Answer → ℕ → Option (List ℕ)
held_by holder a call (Created fd n) = put holder fd.0 (Some a)
held_by holder a call (Opened fd) = put holder fd.0 (Some a)
held_by holder a (Close fd) Done = put holder fd.0 None
held_by holder a call answer = holder

-- an injection with a line more in its ledger
abbrev pub with_line : Line → Injection → Injection
with_line line i = record i { ledger = line_in line i.ledger }

-- the books when a line is entered for the message with this number
abbrev pub entered_in : Books → ℕ → Line → Books
entered_in b n line = record { living = put b.living n (option_map (with_line line) (b.living n)); over = b.over }

-- By the controls that route its recipients: where the record of one stands, which address it has, and what preprocessing makes of a channel's file.
abbrev pub spot_in : (i : Injection) → Recipient i.args → Spot
spot_in i r = spot_of i.ledger.routes i.args r

abbrev pub routed_in : (i : Injection) → Recipient i.args → List ℕ
routed_in i r = routed i.ledger.routes i.args r

abbrev pub lane_in : Injection → Channel → List ℕ
lane_in i ch = lane_text i.ledger.routes i.args ch

-- the same injection later on: its ledger may have grown, and all else is as it was
pub record IsLater (i j : Injection) : Type 0 where
  pub number_is : j.number ≡ i.number
  pub actor_is : j.actor ≡ i.actor
  pub args_are : j.args ≡ i.args
  pub accepted_is : j.accepted ≡ i.accepted
  pub grown : HasGrown i.ledger j.ledger

-- an injection, whether its life lasts or is over
abbrev pub IsInjected : Books → Injection → Type 0
IsInjected b q = (b.living q.number ≡ Some q) ⊎ Among q b.over

-- the message was read to its end, and a prefix of the envelope's bytes is an envelope
pub record IsValid (args : Arguments) : Type 0 where
  pub message : (message_text args).fault ≡ None
  pub envelope : (intd_text args).fault ≡ None

-- an accepted injection of that actor, with its arguments
abbrev pub HasQueued : Books → List ℕ → Arguments → Type 0
HasQueued b a args = (q : Injection) × IsInjected b q × (q.actor ≡ a) × (q.args ≡ args) × (q.accepted ≡ true)
