-- Why a local delivery has ended as it did, by its past alone.
use Rattle.std.specs.Prelude.{◌≡◌, ◌⊎◌, ℕ, List, [], ◌∷◌, Bool, true, false, ◌==◌, Some, None, Contains}
use Rattle.call_fs.specs.declared.calls.Answer.TheVariants.{NoName, Refused}
use Rattle.call_fs.specs.declared.calls.CallData.{CallData}
use Rattle.call_fs.specs.declared.calls.CallData.TheVariants.{Close, NextName, Open}
use Rattle.call_fs.specs.declared.calls.Fd.{Fd}
use Rattle.call_fs.specs.declared.calls.FsError.{FsError}
use Rattle.call_fs.specs.declared.calls.FsError.TheVariants as error
use Rattle.call_fs.specs.declared.calls.How.TheVariants as how
use Rattle.call_fs.specs.declared.calls.Told.{Told}
use Rattle.call_fs.specs.declared.past.ChildData.{ChildData}
use Rattle.call_fs.specs.declared.past.GotData.{GotData}
use Rattle.call_fs.specs.declared.past.GotData.TheVariants as came
use Rattle.call_fs.specs.declared.past.NeedData.{NeedData}
use Rattle.call_fs.specs.declared.past.NeedData.TheVariants as needs
use Rattle.call_fs.specs.declared.past.Own.{Own}
use Rattle.call_fs.specs.declared.program.Port.{Port}
use Rattle.call_fs.specs.declared.program.Port.TheVariants as port
use Rattle.dot_qmail.specs.declared.choice.Chosen.TheVariants as chosen
use Rattle.dot_qmail.specs.declared.line.Line.{Line}
use Rattle.dot_qmail.specs.declared.line.Line.TheVariants.{Mailbox}
use Rattle.local_parts.specs.declared.arguments.LocalArgs.{LocalArgs}
use Rattle.local_parts.specs.declared.endings.TheConstants.{PERMANENT, TEMPORARY}
use Rattle.local_parts.specs.Choosing.{chosen_by, file_name}
use Rattle.local_parts.specs.Endings.{is_lasting_command, is_lasting_injection}
use Rattle.local_parts.specs.Inputs.{message_in}
use Rattle.local_parts.specs.Looping.{is_looping}
use Rattle.local_parts.specs.Texts.{delivered_to}
use Rattle.maildir_drop.specs.Causes.{IsDeferred}
use Rattle.maildir_drop.specs.Names.{is_name, names_of}
use Rattle.queue_limits.specs.declared.statuses.TheConstants.{DONE, MEMORY}
use Rattle.local_deliver.specs.Carried.{IsCarried, instructions}
use Rattle.local_deliver.specs.Deeds.{host_read, last_opened, me_name, read_of, told_names}
use Rattle.local_deliver.specs.Deeds.FileText.{Whole}
use Rattle.call_fs.specs.Past.{taken}
use Rattle.local_deliver.specs.Drops.{drop_arguments}

-- what came last, and of which need
abbrev pub LastIs : NeedData → GotData → List Own → Type 0
LastIs due got [] = ⊥
LastIs due got (event ∷ before) = (event.due ≡ due) × (event.came ≡ got)

-- a call answered so, just now
abbrev pub Refuses : CallData → FsError → List Own → Type 0
Refuses c why past = (bytes : List ℕ) × LastIs (needs.File c) (came.Answered (record { answer = Refused why; bytes = bytes })) past

-- at some moment of a past
abbrev pub Once : (List Own → Type 0) → List Own → Type 0
Once P [] = P []
Once P (event ∷ before) = P (event ∷ before) ⊎ Once P before

-- how a command or the injector ended: not well, and not so that no later try will go well
pub data IsPassingEnd (is_lasting : ℕ → Bool) : GotData → Type 0 where
  OtherStatus : (code : ℕ) → (code == 0) ≡ false → is_lasting code ≡ false → IsPassingEnd is_lasting (came.Ended code)
  Crashed : IsPassingEnd is_lasting came.Crashed
  Unknown : IsPassingEnd is_lasting came.Failed

-- the file of this name, which was opened last and read to its end, was closed just now
pub record WasReadWhole (name : List ℕ) (past : List Own) : Type 0 where
  pub fd : Fd
  pub told : Told
  pub bytes : List ℕ
  pub closed : LastIs (needs.File (Close fd)) (came.Answered told) past
  pub opened : last_opened past ≡ name
  pub whole : read_of name past ≡ Whole bytes

-- Just now the instructions became known: all names of the home were told, and the default ones count; or the file that is chosen
-- among these names was read to its end and closed.
pub data AreKnown (args : LocalArgs) (past : List Own) : Type 0 where
  ByDefault : (after bytes : List ℕ) → LastIs (needs.File (NextName args.home after)) (came.Answered (record { answer = NoName; bytes = bytes })) past
      → chosen_by args (told_names args.home past) ≡ Some chosen.Default → AreKnown args past
  ByFile : (place : ℕ) → chosen_by args (told_names args.home past) ≡ Some (chosen.File place)
      → WasReadWhole (file_name args (told_names args.home past) place) past → AreKnown args past

-- What no later try would mend: the message has its Delivered-To line already; of the names of the home, all of which were told,
-- none is of a file for the address; a command or the injector exited with such a status.
pub data IsLasting (args : LocalArgs) (past : List Own) : Type 0 where
  IsLoop : (message : List ℕ) → message_in (taken past) ≡ Some message → is_looping (delivered_to args) message ≡ true → IsLasting args past
  HasNoMailbox : (after bytes : List ℕ) → LastIs (needs.File (NextName args.home after)) (came.Answered (record { answer = NoName; bytes = bytes })) past
      → chosen_by args (told_names args.home past) ≡ None → IsLasting args past
  CommandExited : (text : List ℕ) (code : ℕ) → LastIs (needs.Command text) (came.Ended code) past → is_lasting_command code ≡ true → IsLasting args past
  InjectorExited : (code : ℕ) → LastIs (needs.Take (port.Status 0)) (came.Ended code) past → is_lasting_injection code ≡ true → IsLasting args past

-- what a later try may not meet
pub data IsPassing (args : LocalArgs) (past : List Own) : Type 0 where
  -- the input has ended and isn't one netstring, or couldn't be taken
  IsNoMessage : LastIs (needs.Take port.Input) came.End past → message_in (taken past) ≡ None → IsPassing args past
  InputFailed : LastIs (needs.Take port.Input) came.Failed past → IsPassing args past
  -- a call failed
  CallFailed : (c : CallData) → Refuses c error.Fault past → IsPassing args past
  -- the home isn't of the form of a name, or is missing, or the chosen file is
  HomeHasNoForm : is_name args.home ≡ false → IsPassing args past
  HomeIsMissing : (after : List ℕ) → Refuses (NextName args.home after) error.NotThere past → IsPassing args past
  FileIsMissing : (place : ℕ) → chosen_by args (told_names args.home past) ≡ Some (chosen.File place)
      → Refuses (Open (file_name args (told_names args.home past) place) how.Read) error.NotThere past → IsPassing args past
  -- control/me was read to its end, and is no good control file
  HostIsBad : WasReadWhole me_name past → host_read past ≡ None → IsPassing args past
  -- the instructions begin with a blank line, or have a line of a mailbox file
  FirstIsBlank : AreKnown args past → instructions args past ≡ None → IsPassing args past
  HasMailbox : (lines : List Line) (path : List ℕ) → AreKnown args past → instructions args past ≡ Some lines → Contains lines (Mailbox path) → IsPassing args past
  -- a drop into a maildir was deferred
  DropDeferred : (moment : ℕ) (path host message : List ℕ) → IsDeferred (names_of (drop_arguments args moment path host message)) past → IsPassing args past
  -- a command or the injector ended so, or couldn't be started
  CommandFailed : (text : List ℕ) (got : GotData) → LastIs (needs.Command text) got past → IsPassingEnd is_lasting_command got → IsPassing args past
  InjectorFailed : (got : GotData) → LastIs (needs.Take (port.Status 0)) got past → IsPassingEnd is_lasting_injection got → IsPassing args past
  StartFailed : (child : ChildData) → LastIs (needs.Start child) came.Failed past → IsPassing args past
  -- nothing could be given
  GiveFailed : (to : Port) (bytes : List ℕ) → LastIs (needs.Give to bytes) came.Failed past → IsPassing args past

-- a call, a command or a start found no memory
pub data FoundNoMemory (past : List Own) : Type 0 where
  ByCall : (c : CallData) → Refuses c error.Memory past → FoundNoMemory past
  ByCommand : (text : List ℕ) → LastIs (needs.Command text) came.Memory past → FoundNoMemory past
  ByStart : (child : ChildData) → LastIs (needs.Start child) came.Memory past → FoundNoMemory past

-- The causes of each exit status: 0, the instructions were carried out; 100 and 111, something that no later try would mend, or
-- that a later try may not meet; 51, memory.
pub data IsCausedBy (args : LocalArgs) (past : List Own) : ℕ → Type 0 where
  Success : IsCarried args past → IsCausedBy args past DONE
  Lasting : Once (IsLasting args) past → IsCausedBy args past PERMANENT
  Passing : Once (IsPassing args) past → IsCausedBy args past TEMPORARY
  NoMemory : Once FoundNoMemory past → IsCausedBy args past MEMORY
