-- What `settle` promises over a queue in which nothing fails, and of which facts it comes.
use Rattle.std.specs.Prelude.{◌≡◌, ℕ, List, [], ◌++◌, false, Some, None, codes}
use Rattle.call_fs.specs.Disk.{Disk}
use Rattle.call_fs.specs.Plan.{Plan}
use Rattle.call_fs.specs.declared.program.Ready.{Ready}
use Rattle.mail_world.specs.Generations.{CanNot, lowest_unreported}
use Rattle.mail_world.specs.History.{Actor, State, next_of}
use Rattle.mail_world.specs.History.Life.{Alive}
use Rattle.mail_world.specs.Readiness.{found_in}
use Rattle.world_events.specs.Searches.{searches}
use Rattle.script_words.specs.declared.letter.Letter.{Letter}
use Rattle.scenario.specs.Deeds.{Deed, after, history_of}
use Rattle.scenario.specs.Turns.{IsSettled, Round, events_in}
use Rattle.settle_law.specs.Ends.{AreIdleTurns, Turn, deeds_of}
use Rattle.settle_law.specs.Settled.{AllGone, Settled}
use Rattle.settle_law.specs.Well.{TodoIsEmpty, AllSucceed, GoesWell, MayDeliver}
use Rattle.settle_law.specs.Suffices.{HasRest}

-- What is promised

-- `settle` with this letter made these rounds and printed nothing, and all went well until its end. The first disk had no name in `todo`, as an
-- opening one may that is no number.
pub record HasSettled (d : Disk) (h : List Deed) (letter : Letter) (rounds : List Round) : Type 0 where
  pub plan : Plan
  pub settles : IsSettled d h plan letter rounds []
  pub empty : TodoIsEmpty d
  pub well : GoesWell d (history_of (events_in letter rounds ++ h))
  pub may : MayDeliver (after d (events_in letter rounds ++ h))

-- Then the state is settled.
abbrev pub SettlesEnd : Type 0
SettlesEnd = (d : Disk) (h : List Deed) (letter : Letter) (rounds : List Round) → HasSettled d h letter rounds
    → Settled (after d (events_in letter rounds ++ h))

-- And if each report was of a success no message is left.
abbrev pub SuccessesEnd : Type 0
SuccessesEnd = (d : Disk) (h : List Deed) (letter : Letter) (rounds : List Round) → HasSettled d h letter rounds
    → AllSucceed (history_of (events_in letter rounds ++ h)) → AllGone (after d (events_in letter rounds ++ h))

-- Of which facts

-- Nobody has anything to do but who searches: each other living actor waits, and the living remote spawner has no program without a report.
pub record OthersWait (s : State) : Type 0 where
  pub waits : (a : List ℕ) (x : Actor) → s.actors a ≡ Some x → x.life ≡ Alive → searches a ≡ false → CanNot s a (next_of x.program x.past s.now (found_in s a))
  pub reported : lowest_unreported 0 s ≡ None

-- The first disk had no name in `todo`, all went well, the sender may run deliveries, the newest deeds are whole idle turns, one of each actor that
-- searches at least. And nobody else has anything to do.
pub record IsRest (d : Disk) (turns : List Turn) (before : List Deed) : Type 0 where
  pub empty : TodoIsEmpty d
  pub well : GoesWell d (history_of (deeds_of turns ++ before))
  pub may : MayDeliver (after d (deeds_of turns ++ before))
  pub idle : AreIdleTurns d before turns
  pub others : OthersWait (after d (deeds_of turns ++ before))

-- At each such rest the facts hold of which a settled state comes, by what the sender keeps then.
abbrev pub RestsHold : Type 0
RestsHold = (d : Disk) (turns : List Turn) (before : List Deed) → IsRest d turns before → (x : Actor)
    → (after d (deeds_of turns ++ before)).actors (codes "sender") ≡ Some x → (ready : Ready) × HasRest (after d (deeds_of turns ++ before)) x.past ready
