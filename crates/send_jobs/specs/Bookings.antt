-- What a sender did of which its books tell.
use Rattle.std.specs.Prelude.{ℕ, List, Bool}
use Rattle.send_known.specs.declared.channel.Channel.{Channel}

pub data Booking : Type 0 where
  -- the todo command of a message was given to the cleaner, whatever came of that
  Routed : (n : ℕ) → Booking
  -- A final report was taken of the recipient at this place: that it was delivered to, or that it failed for good.
  Reported : (delivered : Bool) (c : Channel) (n place : ℕ) → Booking
  -- its note was synced in the bounce file
  Noted : (c : Channel) (n place : ℕ) → Booking
  -- its record was written over, whatever came of that
  Overwritten : (c : Channel) (n place : ℕ) → Booking
  -- the bounce file of a message was read, to return it
  ReadNotes : (n : ℕ) (notes : List ℕ) → Booking
  -- the injector of a bounce of these notes ended with 0
  Returned : (n : ℕ) → Booking
  -- the notes were dropped
  Dropped : (n : ℕ) → Booking
