-- What senders enter in ledgers: after what a sender did, the books have it in the ledger of the message whose life lasts.
use Rattle.std.specs.Prelude.{ℕ, List, [], ◌∷◌, Bool, true, false, Option, Some, None}
use Rattle.address_rules.specs.declared.controls.Controls.{Controls}
use Rattle.queue_inject.specs.declared.injection.Arguments.{Arguments}
use Rattle.send_jobs.specs.Bookings.{Booking}
use Rattle.send_jobs.specs.Bookings.Booking.{Dropped, Noted, Overwritten, ReadNotes, Reported, Returned, Routed}
use Rattle.send_known.specs.declared.channel.Channel.{Channel}
use Rattle.queue_law.specs.Ledgers.{Line, Named, NotesRead, Spot, unrouted}
use Rattle.queue_law.specs.Ledgers.Line.{Delivers, Drops, Fails, Marks, Notes, Reads, Returns, Routes}
use Rattle.queue_law.specs.Books.{Books, Injection, entered_in}

-- the injector that a sender has started: its name and its arguments
pub record Child : Type 0 where
  pub actor : List ℕ
  pub args : Arguments

-- what was read last of the bounce file
abbrev pub nothing_read : NotesRead
nothing_read = record { notes = []; by = unrouted }

abbrev pub first_of : List NotesRead → NotesRead
first_of [] = nothing_read
first_of (it ∷ earlier) = it

abbrev pub notes_read : Option Injection → NotesRead
notes_read None = nothing_read
notes_read (Some i) = first_of i.ledger.reads

-- the line of a recipient of which a final report was taken
abbrev pub line_said : Bool → Spot → Line
line_said true s = Delivers s
line_said false s = Fails s

-- a bounce is that of the child, with the notes that were read last
abbrev pub returned_in : Option Child → Books → ℕ → Books
returned_in None b n = b
returned_in (Some child) b n = entered_in b n (Returns (record { actor = child.actor; args = child.args; read = notes_read (b.living n) }))

-- a recipient as these controls name it
abbrev pub named_by : Controls → Channel → ℕ → Named
named_by by c place = record { spot = record { channel = c; place = place }; by = by }

-- the books after something that a sender did which has this child, and has read these controls
abbrev pub booked_on : Option Child → Controls → Booking → Books → Books
booked_on child by (Routed n) b = entered_in b n (Routes by)
booked_on child by (Reported delivered c n place) b = entered_in b n (line_said delivered (record { channel = c; place = place }))
booked_on child by (Noted c n place) b = entered_in b n (Notes (named_by by c place))
booked_on child by (Overwritten c n place) b = entered_in b n (Marks (named_by by c place))
booked_on child by (ReadNotes n notes) b = entered_in b n (Reads (record { notes = notes; by = by }))
booked_on child by (Returned n) b = returned_in child b n
booked_on child by (Dropped n) b = entered_in b n Drops

-- and after these, one after the other
abbrev pub booked_all : Option Child → Controls → List Booking → Books → Books
booked_all child by [] b = b
booked_all child by (e ∷ es) b = booked_all child by es (booked_on child by e b)
