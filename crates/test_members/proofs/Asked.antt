-- What the programs of these tests ask for: neither of them uses what it doesn't hold, and each asks for what is carried.
use Rattle.std.proofs.Common.{ℕ, Option}
use Rattle.call_fs.specs.declared.modes.Mode.{Mode}
use Rattle.call_fs.specs.declared.past.NeedData.{NeedData}
use Rattle.call_fs.specs.Past.{UsesHeld}
use Rattle.program_runner.specs.Members.{IsCarried}
use Rattle.queue_clean.specs.Asked.{IsAsked}
use Rattle.queue_clean.specs.Asked.IsAsked.{Searches, Stats, Unlinks, Takes, Gives, Ends}
use Rattle.test_members.specs.declared.errand.Kind.{Kind}
use Rattle.test_members.specs.declared.errand.Row.{Row}
use Rattle.test_members.specs.declared.errand.Row.TheVariants.{Start, Give, Take, Ask, Ended}
use Rattle.test_members.specs.Errands.{due_at}

-- an errand makes no file call
pub uses : (h : ℕ → Option Mode) (kind : Kind) (row : Row) → UsesHeld h (due_at kind row)
uses h kind Start = tt
uses h kind Give = tt
uses h kind Take = tt
uses h kind Ask = tt
uses h kind (Ended status) = tt

pub is_carried : (kind : Kind) (row : Row) → IsCarried (due_at kind row)
is_carried kind Start = tt
is_carried kind Give = tt
is_carried kind Take = tt
is_carried kind Ask = tt
is_carried kind (Ended status) = tt

-- a cleaner starts no child
pub is_carried_of : (due : NeedData) → IsAsked due → IsCarried due
is_carried_of _ (Searches dir after) = tt
is_carried_of _ (Stats name) = tt
is_carried_of _ (Unlinks name) = tt
is_carried_of _ Takes = tt
is_carried_of _ (Gives bytes) = tt
is_carried_of _ (Ends status) = tt
