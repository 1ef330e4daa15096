-- What local deliveries did: the injections of their forwards, which were accepted; what each carried out that ended with 0; and of which
-- files they make links.
use Rattle.std.specs.Prelude.{◌≡◌, ℕ, List, [], ◌∷◌, ◌++◌, Some}
use Rattle.call_fs.specs.Disk.{Disk, IsWhole}
use Rattle.call_fs.specs.declared.calls.CallData.TheVariants.{Link}
use Rattle.call_fs.specs.declared.past.GotData.TheVariants as got
use Rattle.call_fs.specs.declared.past.NeedData.TheVariants as needs
use Rattle.call_fs.specs.declared.past.Own.{Own}
use Rattle.call_fs.specs.declared.program.Port.TheVariants as port
use Rattle.queue_inject.specs.declared.injection.Arguments.{Arguments}
use Rattle.queue_inject.specs.declared.injection.InputEnd.TheVariants.{Whole}
use Rattle.queue_inject.specs.Texts.{recipients_of}
use Rattle.queue_law.specs.Books.{Books, HasQueued}
use Rattle.queue_law.specs.Routes.{sender_of}
use Rattle.local_deliver.specs.Carried.{IsCarried}
use Rattle.local_deliver.specs.Deeds.{feeds, statuses, told_names}
use Rattle.call_fs.specs.Past.{taken}
use Rattle.local_deliver.specs.Forwards.{HasGiven}
use Rattle.local_parts.specs.declared.arguments.LocalArgs.{LocalArgs}
use Rattle.local_parts.specs.Forwarding.{forward_sender, forwards}
use Rattle.local_parts.specs.Inputs.{message_in}
use Rattle.local_parts.specs.Texts.{forward_text, maildir_text}
use Rattle.mail_world.specs.History.{Actor, Event, Legal, after, netstring}
use Rattle.mail_world.specs.History.Event.{Act}
use Rattle.mail_world.specs.History.Life.{Over}
use Rattle.world_events.specs.declared.event.Program.TheVariants.{Delivery}

-- An injection was accepted whose message and envelope are just this input: `3:abc,` and the envelope as a netstring are that of `abc`.
pub record IsForwarded (b : Books) (input : List ℕ) : Type 0 where
  pub actor : List ℕ
  pub args : Arguments
  pub accepted : HasQueued b actor args
  pub input_is : input ≡ netstring args.message ++ netstring args.envelope
  pub message_end : args.message_end ≡ Whole
  pub envelope_end : args.envelope_end ≡ Whole

-- what was given last, after this past, was accepted
pub record HasForwarded (b : Books) (past : List Own) : Type 0 where
  pub input : List ℕ
  pub given : HasGiven input past
  pub forwarded : IsForwarded b input

-- each time the status of a program was taken, and it was 0
abbrev pub AreForwarded : Books → List Own → Type 0
AreForwarded b [] = Unit {0}
AreForwarded b (own ∷ before) = AreForwarded b before × ((slot : ℕ) → own.due ≡ needs.Take (port.Status slot) → own.came ≡ got.Ended 0 → HasForwarded b before)

-- A delivery with this past has carried out its instructions, in its own past; and if there were forwards, that is, if one input was given
-- and the status that was taken is 0, then their injection was accepted.
pub record IsCarriedOut (b : Books) (args : LocalArgs) (past : List Own) : Type 0 where
  pub carried : IsCarried args past
  pub forwarded : (input : List ℕ) → feeds past ≡ input ∷ [] → statuses past ≡ 0 ∷ [] → IsForwarded b input

-- An injection of a delivery's forwards: it was accepted; it is from whom the delivery forwards, that is the sender of the message, or the owner
-- of the address; to just these addresses, in this order; and its message is this one with the Delivered-To line.
pub record IsForwardOf (b : Books) (args : LocalArgs) (past : List Own) (message : List ℕ) (addresses : List (List ℕ)) : Type 0 where
  pub actor : List ℕ
  pub words : Arguments
  pub accepted : HasQueued b actor words
  pub message_is : words.message ≡ forward_text args message
  pub from : sender_of words ≡ forward_sender args (told_names args.home past)
  pub to : recipients_of words ≡ addresses

-- there is one, if there are any addresses
abbrev pub IsForwardedTo : Books → LocalArgs → List Own → List ℕ → List (List ℕ) → Type 0
IsForwardedTo b args past message [] = Unit {0}
IsForwardedTo b args past message (address ∷ more) = IsForwardOf b args past message (address ∷ more)

-- So it is of each delivery that ended with 0, with the addresses of the lines that it reached.
abbrev pub ForwardsAreAddressed : Type 0
ForwardsAreAddressed = (d : Disk) (before : List Event) → Legal d before → (a : List ℕ) (x : Actor) → (after d before).actors a ≡ Some x
    → (start : ℕ) (args : LocalArgs) → x.program ≡ Delivery start args → x.life ≡ Over 0
    → (carried : IsCarried args x.past) × IsForwardedTo (after d before).books args x.past carried.message (forwards carried.reached)

-- A delivery makes a link only of a file that holds the lines of a maildir and the message that it took, whole and on the disk: as the disk
-- is then, whatever others did.
abbrev pub DropsAreWhole : Type 0
DropsAreWhole = (d : Disk) (a : List ℕ) (own : Own) (wrote : ℕ) (before : List Event)
    → Legal d (Act a own wrote ∷ before) → (x : Actor) → (after d before).actors a ≡ Some x → (start : ℕ) (args : LocalArgs) → x.program ≡ Delivery start args
    → (from to : List ℕ) → own.due ≡ needs.File (Link from to)
    → (message : List ℕ) × (message_in (taken x.past) ≡ Some message) × IsWhole (after d before).disk from (maildir_text args message)
