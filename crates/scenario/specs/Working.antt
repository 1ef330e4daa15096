-- What `work` does with a script: its mails and a generation start, then actors are stepped in some order, each mail to its end, and at
-- last `settle K` is played. It prints a line for each event, and what `show` prints then.
use Rattle.std.specs.Prelude.{◌≡◌, ℕ, List, [], ◌∷◌, ◌++◌, reverse, Bool, true, false, not, filter, flat_map, All, bytes_eq}
use Rattle.std.specs.List.{list_any}
use Rattle.call_fs.specs.Disk.{Disk}
use Rattle.call_fs.specs.Plan.{Plan, no_plan}
use Rattle.call_fs.specs.declared.past.GotData.{GotData}
use Rattle.call_fs.specs.declared.past.GotData.TheVariants as got
use Rattle.call_fs.specs.declared.calls.Answer.{Answer}
use Rattle.call_fs.specs.declared.calls.Answer.TheVariants.{Refused}
use Rattle.call_fs.specs.declared.calls.FsError.TheVariants.{Fault, Memory}
use Rattle.crash_fs.specs.Crash.{Crash}
use Rattle.mail_world.specs.History.{Event, Legal}
use Rattle.mail_world.specs.History.Event.{Start, Act, Child, Generation, Report, End, Stop, Moment, Halt}
use Rattle.mail_world.specs.World.{Seen}
use Rattle.script_words.specs.declared.entry.Entry.{Entry}
use Rattle.script_words.specs.declared.letter.Letter.TheVariants.{Success}
use Rattle.script_lines.specs.declared.line.Line.{Line}
use Rattle.script_lines.specs.declared.line.Line.TheVariants as line
use Rattle.script_lines.specs.declared.keyword.Alone.TheVariants as alone
use Rattle.script_lines.specs.declared.keyword.OfLetter.TheVariants as of_letter
use Rattle.script_lines.specs.Contents.{Content}
use Rattle.script_lines.specs.Lines.{IsScript}
use Rattle.scenario.specs.Chains.{EachFollows}
use Rattle.scenario.specs.Deeds.{Deed, event_in, history_of}
use Rattle.script_disks.specs.FirstDisk.{IsFirstDisk}
use Rattle.scenario.specs.Played.{Plays, PlaysAll}
use Rattle.scenario.specs.Playing.{IsPlaying, HasPlayed}
use Rattle.scenario.specs.Shown.{IsShown}
use Rattle.scenario.specs.Steps.{StepsTo, plan_through}
use Rattle.scenario.specs.Steps.Outcome.{Happens}
use Rattle.scenario.specs.Traced.{deed_line}
-- whether an event is a call that found no memory
pub use Rattle.scenario.specs.inside.Playing.{lacked_memory}

-- The beginning

abbrev pub is_mail_line : Line → Bool
is_mail_line (line.Mail name message envelope) = true
is_mail_line other = false

-- The mails of a script, in their order; and with a generation after them, the lines that are played before threads start.
abbrev pub mail_lines : List Line → List Line
mail_lines lines = filter is_mail_line lines

abbrev pub first_lines : List Line → List Line
first_lines lines = mail_lines lines ++ line.Alone alone.Sender ∷ []

-- a line is played, and what it prints is dropped
abbrev pub HasPlayedSilently : Disk → Seen Crash → Line → Plan → List Deed → Type 0
HasPlayedSilently d new line plan h = (text : List ℕ) × HasPlayed d new line [] text plan h

-- these lines were played from the disk with these entries, and what they print is dropped
pub record HasBegun (opening : List Entry) (lines : List Line) (w : Seen Crash) : Type 0 where
  pub disk : Disk
  pub is_first : IsFirstDisk opening disk
  pub deeds : List Deed
  pub left : Plan
  pub text : List ℕ
  pub plays : PlaysAll disk [] no_plan false lines deeds left text
  pub playing : IsPlaying disk w left deeds

-- Steps in some order

-- after these deeds some actor made a step that came to this deed
abbrev pub IsSomeStep : Disk → List Deed → Plan → List Deed → Deed → Type 0
IsSomeStep d h plan before deed = (a : List ℕ) × StepsTo d (before ++ h) (plan_through plan before) a (Happens deed)

-- these deeds, newest first, are steps of actors in some order
abbrev pub AreSomeSteps : Disk → List Deed → Plan → List Deed → Type 0
AreSomeSteps d h plan deeds = EachFollows (IsSomeStep d h plan) deeds

-- whatever happened before, steps of actors happened then
pub record HasWorked (d : Disk) (new : Seen Crash) (plan : Plan) (h : List Deed) : Type 0 where
  pub deeds : List Deed
  pub are_steps : AreSomeSteps d h plan deeds
  pub playing : IsPlaying d new (plan_through plan deeds) (deeds ++ h)

-- The end

-- `settle K` came after these deeds, and this is printed: a line for each event, and what `show` prints
pub record HasSettled (d : Disk) (h : List Deed) (plan : Plan) (text : List ℕ) : Type 0 where
  pub settled : List Deed
  pub dropped : List ℕ
  pub settles : Plays d h plan (line.Letter of_letter.Settle Success) settled dropped
  pub legal : Legal d (history_of (settled ++ h))
  pub shown : List ℕ
  pub shows : IsShown d (history_of (settled ++ h)) shown
  pub text_is : text ≡ flat_map deed_line (reverse (settled ++ h)) ++ shown

-- the end of that actor
abbrev pub is_end_of : List ℕ → Event → Bool
is_end_of a (End b read ready status) = bytes_eq b a
is_end_of a other = false

abbrev pub is_end_by : List ℕ → Deed → Bool
is_end_by a deed = is_end_of a (event_in deed)

-- the mail that an event starts, and those that deeds start, in their order
abbrev pub mail_of : Event → List (List ℕ)
mail_of (Start a program) = a ∷ []
mail_of other = []

abbrev pub mails_of : List Deed → List (List ℕ)
mails_of deeds = flat_map (λ deed. mail_of (event_in deed)) deeds

-- an error of a file call
abbrev pub is_error : Answer → Bool
is_error (Refused Fault) = true
is_error (Refused Memory) = true
is_error other = false

abbrev pub has_failed : GotData → Bool
has_failed (got.Answered told) = is_error told.answer
has_failed got.Failed = true
has_failed got.Memory = true
has_failed other = false

-- no moment, no stop and no machine stop came, nothing failed, and memory never ran out
abbrev pub is_quiet : Event → Bool
is_quiet (Start a program) = true
is_quiet (Act a own wrote) = not (has_failed own.came)
is_quiet (Child parent own a program) = not (has_failed own.came)
is_quiet (Generation crew) = true
is_quiet (Report slot output) = true
is_quiet (End a read ready status) = true
is_quiet (Stop a) = false
is_quiet (Moment m) = false
is_quiet (Halt how contents) = false

-- What `work` prints of a script with these entries and lines.
pub record IsWorked (opening : List Entry) (lines : List Line) (text : List ℕ) : Type 0 where
  pub disk : Disk
  pub is_first : IsFirstDisk opening disk
  pub begun : List Deed
  pub left : Plan
  pub dropped : List ℕ
  pub begins : PlaysAll disk [] no_plan false (first_lines lines) begun left dropped
  pub worked : List Deed
  pub are_steps : AreSomeSteps disk begun left worked
  pub ended : All (λ a. list_any (is_end_by a) (reverse worked) ≡ true) (mails_of (reverse begun))
  pub end : HasSettled disk (worked ++ begun) (plan_through left worked) text

-- all that happened, the newest first
abbrev pub deeds_of : (opening : List Entry) (lines : List Line) (text : List ℕ) → IsWorked opening lines text → List Deed
deeds_of opening lines text p = p.end.settled ++ (p.worked ++ p.begun)

-- `work` prints this of the script with these bytes
pub record PrintsWorked (script text : List ℕ) : Type 0 where
  pub content : Content
  pub says : IsScript script content
  pub worked : IsWorked content.opening content.lines text
