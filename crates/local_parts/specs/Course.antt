-- Instructions, line by line (dot-qmail(5)).
use Rattle.std.specs.Prelude.{ℕ, List, [], ◌∷◌, ◌++◌, Option}
use Rattle.std.specs.Option.{option_map}
use Rattle.dot_qmail.specs.declared.line.Line.{Line}
use Rattle.dot_qmail.specs.declared.line.Line.TheVariants as line
use Rattle.dot_qmail.specs.Lines.{plan_of}
use Rattle.local_parts.specs.declared.arguments.LocalArgs.{LocalArgs}
use Rattle.local_parts.specs.declared.course.Work.{Work as Lent}
use Rattle.local_parts.specs.declared.course.Work.TheVariants as lent

-- the lines that are done, and those ahead
pub record Course : Type 0 where
  pub done : List Line
  pub ahead : List Line

-- what is to be done next
pub data Work : Type 0 where
  Nothing : Work
  ToCommand : List ℕ → Work
  ToMaildir : List ℕ → Work
  ToMailbox : List ℕ → Work

abbrev pub work_data : Lent → Work
work_data lent.Nothing = Nothing
work_data (lent.Command text) = ToCommand text.now
work_data (lent.Maildir path) = ToMaildir path.now
work_data (lent.Mailbox path) = ToMailbox path.now

-- what a line has to be done; nothing at a forward
abbrev pub work_at : Line → Work
work_at (line.Forward address) = Nothing
work_at (line.Command text) = ToCommand text
work_at (line.Maildir path) = ToMaildir path
work_at (line.Mailbox path) = ToMailbox path

-- The first line that is no forward. Forwards go last, so nothing is done at their lines.
abbrev pub work_of : List Line → Work
work_of [] = Nothing
work_of (line.Forward address ∷ more) = work_of more
work_of (line.Command text ∷ more) = ToCommand text
work_of (line.Maildir path ∷ more) = ToMaildir path
work_of (line.Mailbox path ∷ more) = ToMailbox path

-- the lines up to that one, and it
abbrev pub up_to_work : List Line → List Line
up_to_work [] = []
up_to_work (line.Forward address ∷ more) = line.Forward address ∷ up_to_work more
up_to_work (line.Command text ∷ more) = line.Command text ∷ []
up_to_work (line.Maildir path ∷ more) = line.Maildir path ∷ []
up_to_work (line.Mailbox path ∷ more) = line.Mailbox path ∷ []

-- the lines after it
abbrev pub after_work : List Line → List Line
after_work [] = []
after_work (line.Forward address ∷ more) = after_work more
after_work (line.Command text ∷ more) = more
after_work (line.Maildir path ∷ more) = more
after_work (line.Mailbox path ∷ more) = more

-- once that was done
abbrev pub passed : Course → Course
passed c = record { done = c.done ++ up_to_work c.ahead; ahead = after_work c.ahead }

-- once that was a command that has the later lines passed over
abbrev pub cut : Course → Course
cut c = record { done = c.done ++ up_to_work c.ahead; ahead = [] }

abbrev pub lines_of : Course → List Line
lines_of c = c.done ++ c.ahead

abbrev pub begun : List Line → Course
begun lines = record { done = []; ahead = lines }

-- the instructions of a file; none if its first line is blank
unfoldable pub course_of : List ℕ → Option Course
course_of bytes = option_map begun (plan_of bytes)

-- The default instructions are lines too, of which the last may lack its newline: an empty one is blank.
abbrev pub default_text : LocalArgs → List ℕ
default_text args = args.line ++ 10 ∷ []
