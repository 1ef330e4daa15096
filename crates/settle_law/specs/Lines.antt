-- What each `settle` line leads to of a script that is played.
use Rattle.std.specs.Prelude.{◌≡◌, ℕ, List, [], ◌∷◌, ◌++◌, Bool, true, false, not}
use Rattle.std.specs.List.{list_all}
use Rattle.call_fs.specs.Disk.{Disk}
use Rattle.call_fs.specs.Plan.{Plan, no_plan}
use Rattle.mail_world.specs.History.{Event}
use Rattle.mail_world.specs.History.Event.{Start, Act, Child, Generation, Report, End, Stop, Moment, Halt}
use Rattle.script_words.specs.declared.letter.Letter.{Letter}
use Rattle.script_lines.specs.declared.line.Line.{Line}
use Rattle.script_lines.specs.declared.line.Line.TheVariants as line
use Rattle.script_lines.specs.declared.keyword.OfLetter.TheVariants as of_letter
use Rattle.scenario.specs.Deeds.{Deed, after, history_of}
use Rattle.scenario.specs.Played.{PlaysAll}
use Rattle.scenario.specs.Text.{HasFewDeeds, Prints}
use Rattle.scenario.specs.Traced.{traced_after, traced_text}
use Rattle.scenario.specs.Turns.{IsSettled, Round, events_in}
use Rattle.scenario.specs.Working.{has_failed}
use Rattle.settle_law.specs.Ends.{StopsSo}
use Rattle.settle_law.specs.Settled.{AllGone, Settled}
use Rattle.settle_law.specs.Well.{AllSucceed, MayDeliver, is_well_ended}

-- Where nothing troubles a queue

-- Nothing failed by this event and no memory was missing, nobody was stopped, nor was the machine, and no injector ended with 31, 52 or 63.
abbrev pub is_untroubled : Event → Bool
is_untroubled (Start a program) = true
is_untroubled (Act a own wrote) = not (has_failed own.came)
is_untroubled (Child parent own a program) = true
is_untroubled (Generation crew) = true
is_untroubled (Report slot output) = true
is_untroubled (End a read ready status) = is_well_ended status
is_untroubled (Stop a) = false
is_untroubled (Moment m) = true
is_untroubled (Halt how contents) = false

-- So it was all the while, and the sender may run a delivery on both channels by the controls that it has read.
pub record IsUntroubled (d : Disk) (deeds : List Deed) : Type 0 where
  pub may : MayDeliver (after d deeds)
  pub well : list_all is_untroubled (history_of deeds) ≡ true

-- The line

-- whether events are traced after these lines
abbrev pub traced_past : Bool → List Line → Bool
traced_past traced [] = traced
traced_past traced (one ∷ lines) = traced_past (traced_after traced one) lines

-- The `settle` line after these lines, as it is played: what they did and printed, and what is chosen of the disk then; its rounds, and what it
-- prints, after the lines of its deeds if events are traced; and what is done and printed after it.
pub record IsPlayedThere (d : Disk) (first : List Line) (letter : Letter) (deeds : List Deed) (text : List ℕ) : Type 0 where
  pub before : List Deed
  pub plan : Plan
  pub printed : List ℕ
  pub plays : PlaysAll d [] no_plan false first before plan printed
  pub rounds : List Round
  pub own : List ℕ
  pub settles : IsSettled d before plan letter rounds own
  pub later : List Deed
  pub deeds_are : deeds ≡ later ++ (events_in letter rounds ++ before)
  pub rest : List ℕ
  pub text_is : text ≡ printed ++ ((traced_text (traced_past false first) (events_in letter rounds) ++ own) ++ rest)

-- what was done until then, and by it
abbrev pub deeds_then : (d : Disk) (first : List Line) (letter : Letter) (deeds : List Deed) (text : List ℕ) → IsPlayedThere d first letter deeds text → List Deed
deeds_then d first letter deeds text there = events_in letter there.rounds ++ there.before

-- It prints that an actor made the most steps of one run, or that it made just the most rounds, or nothing. If it prints nothing, and nothing
-- troubled the queue until then, it leaves a settled state; and no message if each report was of a success.
pub record SettlesThere (d : Disk) (first : List Line) (letter : Letter) (deeds : List Deed) (text : List ℕ) : Type 0 where
  pub there : IsPlayedThere d first letter deeds text
  pub stops : StopsSo d there.before letter there.rounds there.own
  pub settled : there.own ≡ [] → IsUntroubled d (deeds_then d first letter deeds text there) → Settled (after d (deeds_then d first letter deeds text there))
  pub gone : there.own ≡ [] → IsUntroubled d (deeds_then d first letter deeds text there)
      → AllSucceed (history_of (deeds_then d first letter deeds text there)) → AllGone (after d (deeds_then d first letter deeds text there))

-- So does each `settle` line of a script that is played with fewer than 2^63 deeds, as each is to its end. Each deed makes one file at most, so that each file has a number
-- that a program can name.
abbrev pub LinesSettle : Type 0
LinesSettle = (script text : List ℕ) (prints : Prints script text) → HasFewDeeds script → (first lines : List Line) (letter : Letter)
    → prints.content.lines ≡ first ++ line.Letter of_letter.Settle letter ∷ lines
    → SettlesThere prints.played.disk first letter prints.played.deeds text
