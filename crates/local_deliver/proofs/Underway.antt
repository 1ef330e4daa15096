-- What a delivery has done and knows at each of its rows
use Rattle.std.proofs.Common.{◌≡◌, ℕ, List, [], ◌∷◌, ◌++◌, Option, Some, None}
use Rattle.call_fs.specs.declared.past.ChildData.TheVariants.{Forward as ForwardChild}
use Rattle.dot_qmail.specs.declared.choice.Chosen.TheVariants as chosen
use Rattle.dot_qmail.specs.declared.line.Line.{Line}
use Rattle.local_parts.specs.declared.arguments.LocalArgs.{LocalArgs}
use Rattle.local_parts.specs.declared.forwarding.Injection.{Injection}
use Rattle.local_parts.specs.Choosing.{chosen_by, file_name}
use Rattle.local_parts.specs.Course.{Course, lines_of, work_of}
use Rattle.local_parts.specs.Course.Work.{ToCommand, ToMaildir}
use Rattle.local_parts.specs.Forwarding.{injection_of}
use Rattle.local_parts.specs.Inputs.{message_in}
use Rattle.maildir_drop.specs.declared.names.DropNames.{DropNames}
use Rattle.maildir_drop.specs.declared.row.Outcome.TheVariants.{Dropped, Failed}
use Rattle.maildir_drop.specs.declared.row.Row.{Row as DropRow}
use Rattle.maildir_drop.specs.declared.row.Row.TheVariants as drop
use Rattle.maildir_drop.specs.Names.{names_of, pair_at}
use Rattle.local_deliver.specs.declared.place.Place.{Place}
use Rattle.local_deliver.specs.declared.row.Reading.{Reading}
use Rattle.local_deliver.specs.declared.row.Reading.TheVariants as reading
use Rattle.local_deliver.specs.declared.row.Row.{Row}
use Rattle.local_deliver.specs.declared.row.Row.TheVariants as at
use Rattle.local_deliver.specs.declared.row.Wanted.TheVariants as wanted
use Rattle.local_deliver.specs.Carried.{AreDrops, Reaches, plan_by}
use Rattle.local_deliver.specs.Deeds.{Exited, FileText, LinkMade, host_of, me_name}
use Rattle.local_deliver.specs.Deeds.FileText.{SoFar, Unopened, Whole}
use Rattle.local_deliver.specs.Drops.{Drop, drop_arguments, end_drop}
use Rattle.local_deliver.proofs.Deeds.{Deeds}

-- What was done

-- no line was done
pub record Clean (d : Deeds) : Type 0 where
  pub links : d.links ≡ []
  pub exits : d.exits ≡ []
  pub starts : d.starts ≡ []
  pub feeds : d.feeds ≡ []
  pub statuses : d.statuses ≡ []

-- no injector was started
pub record Alone (d : Deeds) : Type 0 where
  pub starts : d.starts ≡ []
  pub feeds : d.feeds ≡ []
  pub statuses : d.statuses ≡ []

-- what is known of the message and of the instructions; the rest of a place makes no difference to it
pub record Facts : Type 0 where
  pub message : List ℕ
  pub host : List ℕ
  pub names : List (List ℕ)
  pub course : Course

abbrev pub facts : Place → Facts
facts p = record { message = p.message; host = p.host; names = p.names; course = p.course }

-- the message is known, and no line was done
pub record Known (args : LocalArgs) (d : Deeds) (p : Facts) : Type 0 where
  pub input : message_in d.taken ≡ Some p.message
  pub names : d.names args.home ≡ p.names
  pub clean : Clean d

-- nothing was read yet
pub record Early (args : LocalArgs) (d : Deeds) (p : Facts) (read : List ℕ) : Type 0 where
  pub input : message_in d.taken ≡ Some p.message
  pub names : d.names args.home ≡ p.names
  pub clean : Clean d
  pub me : d.read me_name ≡ Unopened
  pub none : read ≡ []

-- control/me is read
pub record AtHost (args : LocalArgs) (d : Deeds) (p : Facts) (text : FileText) : Type 0 where
  pub input : message_in d.taken ≡ Some p.message
  pub names : d.names args.home ≡ p.names
  pub clean : Clean d
  pub me : d.read me_name ≡ text
  pub opened : d.opened ≡ me_name

-- the host is known too
pub record Before (args : LocalArgs) (d : Deeds) (p : Facts) : Type 0 where
  pub input : message_in d.taken ≡ Some p.message
  pub names : d.names args.home ≡ p.names
  pub clean : Clean d
  pub host : host_of (d.read me_name) ≡ Some p.host

-- the instructions are known
pub record Instructed (args : LocalArgs) (d : Deeds) (p : Facts) (lines : List Line) : Type 0 where
  pub input : message_in d.taken ≡ Some p.message
  pub host : host_of (d.read me_name) ≡ Some p.host
  pub names : d.names args.home ≡ p.names
  pub told : plan_by args (d.names args.home) d.read ≡ Some lines

-- the lines that are done were reached, with just these links
pub record Under (args : LocalArgs) (d : Deeds) (p : Facts) (lines : List Line) (made : List LinkMade) : Type 0 where
  pub known : Instructed args d p lines
  pub more : (exited : List Exited) (reached : List Line) → Reaches p.course.ahead exited reached → Reaches lines (d.exits ++ exited) (p.course.done ++ reached)
  pub drops : AreDrops args p.host p.message p.course.done made
  pub alone : Alone d

-- all lines are done
pub record Over (args : LocalArgs) (d : Deeds) (p : Facts) (lines : List Line) : Type 0 where
  pub known : Instructed args d p lines
  pub reaches : Reaches lines d.exits (lines_of p.course)
  pub drops : AreDrops args p.host p.message (lines_of p.course) d.links

-- what is injected for them
abbrev pub injection : LocalArgs → Place → Option Injection
injection args p = injection_of args p.names p.message (lines_of p.course)

abbrev pub WasInjected : LocalArgs → Option Injection → Deeds → Type 0
WasInjected args None d = d.starts ≡ []
WasInjected args (Some it) d = (d.starts ≡ ForwardChild args.uid it.room ∷ []) × ((d.feeds ≡ it.text ∷ []) × (d.statuses ≡ 0 ∷ []))

-- all was carried out
pub record Carried (args : LocalArgs) (d : Deeds) : Type 0 where
  pub message : List ℕ
  pub host : List ℕ
  pub lines : List Line
  pub reached : List Line
  pub input : message_in d.taken ≡ Some message
  pub host_is : host_of (d.read me_name) ≡ Some host
  pub told : plan_by args (d.names args.home) d.read ≡ Some lines
  pub reaches : Reaches lines d.exits reached
  pub drops : AreDrops args host message reached d.links
  pub injected : WasInjected args (injection_of args (d.names args.home) message reached) d

-- At each row

-- at a drop: where it stands, and what was linked
abbrev pub LinksAt : List LinkMade → DropNames → DropRow → List LinkMade → Type 0
LinksAt made names (drop.Unlink attempt Dropped) all = all ≡ made ++ ((pair_at names attempt).tmp, (pair_at names attempt).new) ∷ []
LinksAt made names (drop.Unlink attempt (Failed reason)) all = all ≡ made
LinksAt made names (drop.Create attempt) all = all ≡ made
LinksAt made names (drop.Append attempt fd) all = all ≡ made
LinksAt made names (drop.Sync attempt fd) all = all ≡ made
LinksAt made names (drop.Close attempt fd) all = all ≡ made
LinksAt made names (drop.Link attempt) all = all ≡ made
LinksAt made names (drop.Shut attempt fd reason) all = all ≡ made
LinksAt made names (drop.Ended attempt outcome) all = Unit {0}

pub record AtDrop (args : LocalArgs) (d : Deeds) (p : Place) (it : Drop) : Type 0 where
  pub lines : List Line
  pub made : List LinkMade
  pub path : List ℕ
  pub moment : ℕ
  pub under : Under args d (facts p) lines made
  pub work : work_of p.course.ahead ≡ ToMaildir path
  pub names : it.names ≡ names_of (drop_arguments args moment path p.host p.message)
  pub linked : LinksAt made it.names it.place.row d.links

abbrev pub AtSome : LocalArgs → Deeds → Place → Option Drop → Type 0
AtSome args d p None = Unit {0}
AtSome args d p (Some it) = AtDrop args d p it × (end_drop it ≡ None)

pub record AtRun (args : LocalArgs) (d : Deeds) (p : Place) : Type 0 where
  pub lines : List Line
  pub under : Under args d (facts p) lines d.links
  pub work : work_of p.course.ahead ≡ ToCommand p.text

pub record AtInjection (args : LocalArgs) (d : Deeds) (p : Place) : Type 0 where
  pub lines : List Line
  pub over : Over args d (facts p) lines
  pub it : Injection
  pub is : injection args p ≡ Some it
  pub text : p.text ≡ it.text
  pub room : p.room ≡ it.room

pub record AtStart (args : LocalArgs) (d : Deeds) (p : Place) : Type 0 where
  pub injects : AtInjection args d p
  pub alone : Alone d

pub record AtFeed (args : LocalArgs) (d : Deeds) (p : Place) : Type 0 where
  pub injects : AtInjection args d p
  pub starts : d.starts ≡ ForwardChild args.uid injects.it.room ∷ []
  pub feeds : d.feeds ≡ []
  pub statuses : d.statuses ≡ []

pub record AtStatus (args : LocalArgs) (d : Deeds) (p : Place) : Type 0 where
  pub injects : AtInjection args d p
  pub starts : d.starts ≡ ForwardChild args.uid injects.it.room ∷ []
  pub feeds : d.feeds ≡ injects.it.text ∷ []
  pub statuses : d.statuses ≡ []

-- the `.qmail` file was chosen
pub record AtFile (args : LocalArgs) (d : Deeds) (p : Facts) : Type 0 where
  pub before : Before args d p
  pub place : ℕ
  pub chosen : chosen_by args p.names ≡ Some (chosen.File place)

pub record AtName (args : LocalArgs) (d : Deeds) (p : Facts) (name read : List ℕ) : Type 0 where
  pub file : AtFile args d p
  pub is : name ≡ file_name args p.names file.place
  pub none : read ≡ []

pub record AtBytes (args : LocalArgs) (d : Deeds) (p : Facts) (text : FileText) : Type 0 where
  pub file : AtFile args d p
  pub bytes : d.read (file_name args p.names file.place) ≡ text
  pub opened : d.opened ≡ file_name args p.names file.place

-- what was read of the file at work, when its reading went so
abbrev pub read_so : Reading → List ℕ → FileText
read_so reading.Whole bytes = Whole bytes
read_so went bytes = SoFar bytes

abbrev pub Inv : LocalArgs → Deeds → Row → Place → Type 0
Inv args d at.TakeInput p = (d.taken ≡ p.message) × (d.names args.home ≡ p.names) × Clean d × (d.read me_name ≡ Unopened) × (p.read ≡ [])
Inv args d (at.Open wanted.Host) p = Early args d (facts p) p.read
Inv args d (at.Open wanted.Instructions) p = AtName args d (facts p) p.name p.read
Inv args d (at.Read wanted.Host fd) p = AtHost args d (facts p) (SoFar p.read)
Inv args d (at.Read wanted.Instructions fd) p = AtBytes args d (facts p) (SoFar p.read)
Inv args d (at.Close wanted.Host fd went) p = AtHost args d (facts p) (read_so went p.read)
Inv args d (at.Close wanted.Instructions fd went) p = AtBytes args d (facts p) (read_so went p.read)
Inv args d at.NextName p = Before args d (facts p)
Inv args d at.Drop p = AtSome args d p p.dropping
Inv args d at.Run p = AtRun args d p
Inv args d at.Start p = AtStart args d p
Inv args d at.Feed p = AtFeed args d p
Inv args d at.TakeStatus p = AtStatus args d p
Inv args d (at.Report status) p = status ≡ 0 → Carried args d
Inv args d (at.Fail reason) p = Unit {0}
Inv args d (at.Ended status) p = status ≡ 0 → Carried args d

abbrev pub Holds : LocalArgs → Deeds → Place → Type 0
Holds args d p = Inv args d p.row p
