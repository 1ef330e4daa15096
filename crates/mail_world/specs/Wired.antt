-- The pipes that a world keeps, and that no giving of one failed.
use Rattle.std.specs.Prelude.{List, [], ◌∷◌}
use Rattle.call_fs.specs.declared.past.GotData.{GotData}
use Rattle.call_fs.specs.declared.past.GotData.TheVariants.{Failed}
use Rattle.call_fs.specs.declared.past.NeedData.{NeedData}
use Rattle.call_fs.specs.declared.past.NeedData.TheVariants.{Give}
use Rattle.world_events.specs.declared.event.Event.{Event as Kept}
use Rattle.world_events.specs.declared.event.Event.TheVariants as kept
-- the pipes of actors, against those of the model
pub use Rattle.world_pipes.specs.Wired.{seat, pipe_in, tenant_in, kept_at, slot_in, IsOwnPort, AreWired, HasOwnPlace, IsSlotOf, HasWires, MayRunIn, HaveChildren, AreOver, slots_at, HaveSlots}

-- What failed was no giving: how much of one was given is told by nothing.

abbrev pub GivesWhole : NeedData → GotData → Type 0
GivesWhole (Give port bytes) Failed = ⊥
GivesWhole due came = Unit {0}

abbrev pub IsWholeGiving : Kept → Type 0
IsWholeGiving (kept.Act a own) = GivesWhole own.due own.came
IsWholeGiving (kept.Child a own c program) = GivesWhole own.due own.came
IsWholeGiving (kept.Feed a own c message envelope) = GivesWhole own.due own.came
IsWholeGiving other = Unit {0}

abbrev pub AreWholeGivings : List Kept → Type 0
AreWholeGivings [] = Unit {0}
AreWholeGivings (k ∷ events) = IsWholeGiving k × AreWholeGivings events
