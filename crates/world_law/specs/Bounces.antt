-- The bounces that senders entered in ledgers: each was accepted, and returns the message of its ledger. So a recipient that was returned is
-- named in an accepted bounce.
use Rattle.std.specs.Prelude.{◌≡◌, ◌≢◌, ◌⊎◌, ℕ, ◌≤◌, List, [], ◌∷◌, true, Some, None, codes}
use Rattle.address_rules.specs.declared.controls.Controls.{Controls}
use Rattle.address_rules.specs.Nuls.{HaveNoNul}
use Rattle.bounce_record.specs.declared.bounces.Bounce.{Bounce}
use Rattle.bounce_record.specs.Bounces.{bounce_of}
use Rattle.bounce_record.specs.Notes.{count}
use Rattle.bounce_record.specs.Returning.{envelope_of}
use Rattle.call_fs.specs.Disk.{Among, Disk}
use Rattle.call_fs.specs.declared.calls.CallData.TheVariants as call
use Rattle.call_fs.specs.declared.calls.How.TheVariants as how
use Rattle.call_fs.specs.declared.past.NeedData.TheVariants as needs
use Rattle.call_fs.specs.declared.past.Own.{Own}
use Rattle.queue_inject.specs.declared.injection.Arguments.{Arguments}
use Rattle.queue_inject.specs.declared.injection.InputEnd.TheVariants.{Whole}
use Rattle.queue_inject.specs.Texts.{entered, recipients_of}
use Rattle.queue_law.specs.Accounts.{Accounted, is_lost}
use Rattle.queue_law.specs.Accounts.Accounted.{Returned}
use Rattle.queue_law.specs.Books.{Books, HasQueued, Injection, IsInjected}
use Rattle.queue_law.specs.Ledgers.{Bounced, NotesRead}
use Rattle.queue_law.specs.Notes.{counted_as, name_in}
use Rattle.queue_law.specs.Routes.{Recipient, lane_part, sender_of}
use Rattle.queue_paths.specs.Names.{path}
use Rattle.queue_paths.specs.Names.Name.{Of}
use Rattle.queue_paths.specs.Names.Part.{Bounce as BounceFile}
use Rattle.send_known.specs.declared.channel.Channel.{Channel}
use Rattle.received_line.specs.declared.line.Invoked.TheVariants as invoking
use Rattle.mail_world.specs.History.{Actor, Event, Legal, after}
use Rattle.mail_world.specs.History.Event.{Act}
use Rattle.world_events.specs.declared.event.Program.TheVariants.{Sender}

-- an injection that the books have, under whatever number
abbrev pub IsKept : Books → Injection → Type 0
IsKept b i = ((n : ℕ) × (b.living n ≡ Some i)) ⊎ Among i b.over

-- An injector with these arguments injects the bounce of a message: the one that comes at some moment, by what the controls say of bounces, of
-- its sender, of these notes, and of the message as entered. The injector's message is the text of that bounce, whole, and its envelope is
-- that of the bounce. Of a message from `a@x` whose notes name `b@y` it is from nobody and to `a@x`, and its text has the notes and the message.
pub record IsBounceOf (controls : Controls) (message : Arguments) (notes : List ℕ) (args : Arguments) : Type 0 where
  pub moment : ℕ
  pub bounce : Bounce
  pub made : bounce_of controls.bounce_from controls.bounce_host controls.double_bounce_to controls.double_bounce_host (sender_of message) notes (entered message) moment ≡ Some bounce
  pub invoked : args.invoked ≡ invoking.Bounce
  pub message_is : args.message ≡ bounce.text
  pub envelope_is : args.envelope ≡ envelope_of bounce
  pub message_end : args.message_end ≡ Whole
  pub envelope_end : args.envelope_end ≡ Whole

-- The envelope of an injector reads as that of a bounce: it is from whom the bounce is, and to its recipient alone.
pub record IsAddressed (bounce : Bounce) (args : Arguments) : Type 0 where
  pub from : sender_of args ≡ bounce.sender
  pub to : recipients_of args ≡ bounce.recipient ∷ []

-- A bounce in the ledger of an injection was accepted: there is an accepted injection of its injector, with its arguments; and those are of the
-- bounce of the message with the notes that the ledger tells, by the controls of the sender that read them, which have no NUL.
pub record IsReturned (b : Books) (i : Injection) (x : Bounced) : Type 0 where
  pub accepted : HasQueued b x.actor x.args
  pub no_nul : HaveNoNul x.read.by
  pub carries : IsBounceOf x.read.by i.args x.read.notes x.args

-- so was each bounce in a ledger
abbrev pub BouncesAreQueued : Books → Type 0
BouncesAreQueued b = (i : Injection) → IsKept b i → (x : Bounced) → Among x i.ledger.bounced → IsReturned b i x

-- So it is of each injection after each legal history, and the accepted injection of the bounce has the bounce's sender and recipient.
abbrev pub BouncesAreAccepted : Type 0
BouncesAreAccepted = (d : Disk) (before : List Event) → Legal d before
    → (i : Injection) → IsInjected (after d before).books i → (x : Bounced) → Among x i.ledger.bounced
    → (returned : IsReturned (after d before).books i x) × IsAddressed returned.carries.bounce x.args

-- A recipient is named in an accepted bounce: bytes that were read of the bounce file, in the life of the message's injection, have as many
-- notes under that name as recipients of that name failed for good and weren't delivered to; and an accepted injection is that of the bounce
-- of the message with those bytes, by the controls of the sender that read them, from its sender and to its recipient alone.
pub record IsNamedInBounce (b : Books) (i : Injection) (name : List ℕ) : Type 0 where
  pub read : NotesRead
  pub among : Among read i.ledger.reads
  pub named : counted_as (is_lost i.ledger) i name ≤ count read.notes name
  pub bounce : Injection
  pub injected : IsInjected b bounce
  pub accepted : bounce.accepted ≡ true
  pub carries : IsBounceOf read.by i.args read.notes bounce.args
  pub addressed : IsAddressed carries.bounce bounce.args
  -- and the message is no double bounce
  pub single : sender_of i.args ≢ codes "#@[]"

-- a recipient is accounted for by a bounce
abbrev pub IsByBounce : {d : Disk} {b : Books} {i : Injection} {r : Recipient i.args} → Accounted d b i r → Type 0
IsByBounce (Returned failed x bounced read named) = Unit {0}
IsByBounce other = ⊥

-- After each legal history each recipient that is so accounted for is named in an accepted bounce.
abbrev pub ReturnedRecipientsAreNamed : Type 0
ReturnedRecipientsAreNamed = (d : Disk) (before : List Event) → Legal d before
    → (i : Injection) → IsInjected (after d before).books i → (r : Recipient i.args) → (account : Accounted (after d before).disk (after d before).books i r)
    → IsByBounce account → IsNamedInBounce (after d before).books i (name_in i r)

-- A sender opens a bounce file to return what it holds only where no channel file is left: whether the open goes well or not.
abbrev pub BouncesAreReadLast : Type 0
BouncesAreReadLast = (d : Disk) (a : List ℕ) (own : Own) (wrote : ℕ) (before : List Event)
    → Legal d (Act a own wrote ∷ before) → (x : Actor) → (after d before).actors a ≡ Some x → (start : ℕ) → x.program ≡ Sender start
    → (n : ℕ) → own.due ≡ needs.File (call.Open (path (Of BounceFile n)) how.Read) → (ch : Channel) → (after d before).disk.names (path (Of (lane_part ch) n)) ≡ None
