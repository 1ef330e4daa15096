-- What senders did with a message, in the life of its injection. But for its routes a ledger only grows.
use Rattle.std.specs.Prelude.{◌≡◌, ℕ, List, [], ◌∷◌, Bool, true, false}
use Rattle.address_rules.specs.declared.controls.Controls.{Controls}
use Rattle.call_fs.specs.Disk.{Among}
use Rattle.queue_inject.specs.declared.injection.Arguments.{Arguments}
use Rattle.send_known.specs.declared.channel.Channel.{Channel}

-- a recipient: its channel, and the place of its record in that channel's file
pub record Spot : Type 0 where
  pub channel : Channel
  pub place : ℕ

-- a recipient, and the controls that name it in a note
pub record Named : Type 0 where
  pub spot : Spot
  pub by : Controls

-- what was read of a bounce file, and the controls of the sender that read it
pub record NotesRead : Type 0 where
  pub notes : List ℕ
  pub by : Controls

-- A bounce whose injector ended with 0: that injector with its arguments, and the notes that it carries, with who read them. It is told by
-- these, and not by its injection, since ledgers grow.
pub record Bounced : Type 0 where
  pub actor : List ℕ
  pub args : Arguments
  pub read : NotesRead

pub record Ledger : Type 0 where
  -- those of the sender that last gave the todo command, which route its recipients: whatever came of it, as the cleaner may have all of a failed one
  pub routes : Controls
  -- the recipients of which a report came that was final: delivered, or failed for good
  pub delivered : List Spot
  pub failed : List Spot
  -- those whose note is synced in the bounce file, and whose controls named them there
  pub noted : List Named
  -- those whose record a sender with these controls wrote a mark over, whatever came of that; the newest first
  pub marked : List Named
  -- what was read of the bounce file once both channel files were gone
  pub reads : List NotesRead
  pub bounced : List Bounced
  -- whether the notes were dropped, as those of a bounce of a bounce are
  pub dropped : Bool

-- before the first todo command: no controls
abbrev pub unrouted : Controls
unrouted = record { me = []; locals = []; percent_hack = []; virtual_domains = []; env_no_at_host = []; bounce_from = []; bounce_host = []; double_bounce_to = []; double_bounce_host = []; concurrency_local = 0; concurrency_remote = 0; queue_lifetime = 0 }

-- nothing was done with the message except that it was routed
abbrev pub routed_by : Controls → Ledger
routed_by routes = record { routes = routes; delivered = []; failed = []; noted = []; marked = []; reads = []; bounced = []; dropped = false }

-- that of an injection that has just begun
abbrev pub no_ledger : Ledger
no_ledger = routed_by unrouted

-- so it is of a ledger
abbrev pub IsFresh : Ledger → Type 0
IsFresh l = l ≡ routed_by l.routes

-- a line that a sender enters in a ledger
pub data Line : Type 0 where
  -- it gave the todo command
  Routes : (by : Controls) → Line
  -- a recipient was delivered to, or failed for good
  Delivers : (spot : Spot) → Line
  Fails : (spot : Spot) → Line
  -- its note is synced in the bounce file
  Notes : (it : Named) → Line
  -- its record was written over
  Marks : (it : Named) → Line
  -- this was read of the bounce file
  Reads : (it : NotesRead) → Line
  -- a bounce was accepted
  Returns : (bounce : Bounced) → Line
  -- the notes were dropped
  Drops : Line

abbrev pub line_in : Line → Ledger → Ledger
line_in (Routes by) l = record l { routes = by }
line_in (Delivers s) l = record l { delivered = s ∷ l.delivered }
line_in (Fails s) l = record l { failed = s ∷ l.failed }
line_in (Notes it) l = record l { noted = it ∷ l.noted }
line_in (Marks it) l = record l { marked = it ∷ l.marked }
line_in (Reads it) l = record l { reads = it ∷ l.reads }
line_in (Returns b) l = record l { bounced = b ∷ l.bounced }
line_in Drops l = record l { dropped = true }

-- a ledger that has all the lines of another
pub record HasGrown (l m : Ledger) : Type 0 where
  pub delivered : (s : Spot) → Among s l.delivered → Among s m.delivered
  pub failed : (s : Spot) → Among s l.failed → Among s m.failed
  pub noted : (it : Named) → Among it l.noted → Among it m.noted
  pub marked : (it : Named) → Among it l.marked → Among it m.marked
  pub reads : (it : NotesRead) → Among it l.reads → Among it m.reads
  pub bounced : (b : Bounced) → Among b l.bounced → Among b m.bounced
  pub dropped : l.dropped ≡ true → m.dropped ≡ true

-- no bounce of its notes was accepted, and they weren't dropped
pub record IsUnreturned (l : Ledger) : Type 0 where
  pub none : l.bounced ≡ []
  pub kept : l.dropped ≡ false
