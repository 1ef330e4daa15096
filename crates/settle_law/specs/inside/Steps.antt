-- Steps of the proof whose words are those of the promise.
use Rattle.std.specs.Prelude.{◌≡◌, ℕ, List, [], ◌∷◌, ◌++◌, true}
use Rattle.call_fs.specs.Disk.{Disk}
use Rattle.call_fs.specs.Plan.{Plan}
use Rattle.call_fs.specs.declared.past.Own.{Own}
use Rattle.mail_world.specs.History.{State}
use Rattle.script_words.specs.declared.letter.Letter.{Letter}
use Rattle.scenario.specs.Deeds.{Deed, after, history_of}
use Rattle.scenario.specs.Turns.{IsSettled, Round, events_in, is_idle}
use Rattle.call_fs.specs.declared.program.Ready.{Ready}
use Rattle.settle_law.specs.Ends.{StopsSo, Turn, deeds_of}
use Rattle.settle_law.specs.Promised.{IsRest, OthersWait}
use Rattle.settle_law.specs.Settled.{AllGone, Settled, SettledBy}
use Rattle.settle_law.specs.Suffices.{HasRest}
use Rattle.settle_law.specs.Well.{AllSucceed}

-- `settle` ends in one of these three ways.
abbrev pub SettleStops : Type 0
SettleStops = (d : Disk) (h : List Deed) (plan : Plan) (letter : Letter) (rounds : List Round) (text : List ℕ)
    → IsSettled d h plan letter rounds text → StopsSo d h letter rounds text

-- A state of which these facts hold, with what the sender keeps, is settled.
abbrev pub RestsSuffice : Type 0
RestsSuffice = (s : State) (past : List Own) (ready : Ready) → HasRest s past ready → SettledBy s past

-- After an idle round of `settle` nobody else has anything to do, whatever failed before.
abbrev pub IdleRoundsRest : Type 0
IdleRoundsRest = (d : Disk) (h : List Deed) (plan : Plan) (letter : Letter) (round : Round) (before : List Round)
    → IsSettled d h plan letter (round ∷ before) [] → is_idle d (events_in letter before ++ h) letter round ≡ true
    → OthersWait (after d (events_in letter (round ∷ before) ++ h))

-- Such a rest is settled.
abbrev pub RestsAreSettled : Type 0
RestsAreSettled = (d : Disk) (turns : List Turn) (before : List Deed) → IsRest d turns before → Settled (after d (deeds_of turns ++ before))

-- And if each report was of a success no message is left.
abbrev pub RestsAreEmpty : Type 0
RestsAreEmpty = (d : Disk) (turns : List Turn) (before : List Deed) → IsRest d turns before
    → AllSucceed (history_of (deeds_of turns ++ before)) → AllGone (after d (deeds_of turns ++ before))
