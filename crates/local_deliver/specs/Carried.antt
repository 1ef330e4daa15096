-- When the instructions were carried out (dot-qmail(5), qmail-local(8)).
use Rattle.std.specs.Prelude.{◌≡◌, ℕ, List, [], ◌∷◌, Option, Some, None}
use Rattle.call_fs.specs.declared.calls.CallData.TheVariants.{Link}
use Rattle.call_fs.specs.declared.calls.Answer.TheVariants.{Done}
use Rattle.call_fs.specs.declared.calls.Told.{Told}
use Rattle.call_fs.specs.declared.past.ChildData.TheVariants.{Forward as ForwardChild}
use Rattle.call_fs.specs.declared.past.GotData.TheVariants.{Answered}
use Rattle.call_fs.specs.declared.past.NeedData.TheVariants.{File}
use Rattle.call_fs.specs.declared.past.Own.{Own}
use Rattle.call_fs.specs.Disk.{Disk, IsWhole}
use Rattle.call_fs.specs.Past.{LeadsTo, taken}
use Rattle.dot_qmail.specs.declared.choice.Chosen.{Chosen}
use Rattle.dot_qmail.specs.declared.choice.Chosen.TheVariants as chosen
use Rattle.dot_qmail.specs.declared.line.Line.{Line}
use Rattle.dot_qmail.specs.declared.line.Line.TheVariants as line
use Rattle.dot_qmail.specs.Lines.{plan_of}
use Rattle.local_parts.specs.declared.arguments.LocalArgs.{LocalArgs}
use Rattle.local_parts.specs.declared.forwarding.Injection.{Injection}
use Rattle.local_parts.specs.Choosing.{chosen_by, file_name}
use Rattle.local_parts.specs.Course.{default_text}
use Rattle.local_parts.specs.Forwarding.{injection_of}
use Rattle.local_parts.specs.Inputs.{message_in}
use Rattle.local_parts.specs.Texts.{maildir_text}
use Rattle.maildir_drop.specs.declared.row.Attempt.{Attempt}
use Rattle.maildir_drop.specs.Names.{names_of, pair_at}
use Rattle.local_deliver.specs.Deeds.{Exited, FileText, LinkMade, exits, feeds, host_read, links, read_of, starts, statuses, told_names}
use Rattle.local_deliver.specs.Deeds.FileText.{Whole}
use Rattle.local_deliver.specs.Drops.{drop_arguments}

-- The instructions, by the names of the home and what was read of each file: those of the file that is chosen among these names, once
-- all of it was read, or the default ones

abbrev pub of_file : LocalArgs → List ℕ → Option (List Line)
of_file args [] = plan_of (default_text args)
of_file args (b ∷ bytes) = plan_of (b ∷ bytes)

abbrev pub of_read : LocalArgs → FileText → Option (List Line)
of_read args (Whole bytes) = of_file args bytes
of_read args other = None

abbrev pub of_choice : LocalArgs → (names : List (List ℕ)) → Option Chosen → (read : List ℕ → FileText) → Option (List Line)
of_choice args names None read = None
of_choice args names (Some chosen.Default) read = plan_of (default_text args)
of_choice args names (Some (chosen.File place)) read = of_read args (read (file_name args names place))

abbrev pub plan_by : LocalArgs → (names : List (List ℕ)) → (read : List ℕ → FileText) → Option (List Line)
plan_by args names read = of_choice args names (chosen_by args names) read

-- by the names that the home told, and what was read of the home's file of the chosen name
abbrev pub instructions : LocalArgs → List Own → Option (List Line)
instructions args past = plan_by args (told_names args.home past) (λ name. read_of name past)

-- Which of the lines are reached, if the commands among them exit like this: all of them, or those up to the first command that
-- exits with 99. Every other command exits with 0.
pub data Reaches : List Line → List Exited → List Line → Type 0 where
  AtEnd : Reaches [] [] []
  PastForward : (address : List ℕ) (more : List Line) (exited : List Exited) (reached : List Line) → Reaches more exited reached
      → Reaches (line.Forward address ∷ more) exited (line.Forward address ∷ reached)
  PastMaildir : (path : List ℕ) (more : List Line) (exited : List Exited) (reached : List Line) → Reaches more exited reached
      → Reaches (line.Maildir path ∷ more) exited (line.Maildir path ∷ reached)
  PastCommand : (text : List ℕ) (more : List Line) (exited : List Exited) (reached : List Line) → Reaches more exited reached
      → Reaches (line.Command text ∷ more) ((text, 0) ∷ exited) (line.Command text ∷ reached)
  AtStop : (text : List ℕ) (more : List Line) → Reaches (line.Command text ∷ more) ((text, 99) ∷ []) (line.Command text ∷ [])

-- the link of a drop into the maildir to which this path leads, at some moment, under one of its three names
pub record IsDropLink (args : LocalArgs) (host message path : List ℕ) (it : LinkMade) : Type 0 where
  pub moment : ℕ
  pub attempt : Attempt
  pub from : it.0 ≡ (pair_at (names_of (drop_arguments args moment path host message)) attempt).tmp
  pub to : it.1 ≡ (pair_at (names_of (drop_arguments args moment path host message)) attempt).new

-- these links are, in order, those of the maildirs among the lines
pub data AreDrops (args : LocalArgs) (host message : List ℕ) : List Line → List LinkMade → Type 0 where
  NoDrops : AreDrops args host message [] []
  ByForward : (address : List ℕ) (more : List Line) (made : List LinkMade) → AreDrops args host message more made → AreDrops args host message (line.Forward address ∷ more) made
  ByCommand : (text : List ℕ) (more : List Line) (made : List LinkMade) → AreDrops args host message more made → AreDrops args host message (line.Command text ∷ more) made
  ByMaildir : (path : List ℕ) (more : List Line) (it : LinkMade) (made : List LinkMade) → IsDropLink args host message path it → AreDrops args host message more made
      → AreDrops args host message (line.Maildir path ∷ more) (it ∷ made)

-- Just before each link that was made, the file that is linked holds the lines of a maildir and the message that was taken, and
-- all of that is on the disk, if the delivery's calls alone were made on a disk.
abbrev pub AreWhole : LocalArgs → List Own → Type 0
AreWhole args [] = Unit {0}
AreWhole args (event ∷ before) = AreWhole args before × ((from to message : List ℕ) (told : Told) (first last : Disk) → event.due ≡ File (Link from to) → event.came ≡ Answered told
    → told.answer ≡ Done → message_in (taken before) ≡ Some message → LeadsTo first before last → IsWhole last from (maildir_text args message))

-- one injection with this text, which went well; without one, none was started
abbrev pub IsInjected : LocalArgs → Option Injection → List Own → Type 0
IsInjected args None past = starts past ≡ []
IsInjected args (Some it) past =
    (starts past ≡ ForwardChild args.uid it.room ∷ []) × ((feeds past ≡ it.text ∷ []) × (statuses past ≡ 0 ∷ []))

-- The instructions were carried out: each maildir line up to the first command with status 99, or to the end, has its link, in
-- order, under the name of the host that control/me names; each command there exited with 0 or 99; and the forwards there are the
-- recipients of one injection of the message that went well.
pub record IsCarried (args : LocalArgs) (past : List Own) : Type 0 where
  pub message : List ℕ
  pub host : List ℕ
  pub lines : List Line
  pub reached : List Line
  pub input : message_in (taken past) ≡ Some message
  pub host_is : host_read past ≡ Some host
  pub told : instructions args past ≡ Some lines
  pub reaches : Reaches lines (exits past) reached
  pub drops : AreDrops args host message reached (links past)
  pub injected : IsInjected args (injection_of args (told_names args.home past) message reached) past
