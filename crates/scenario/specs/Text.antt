-- What a script prints.
use Rattle.std.specs.Prelude.{◌≡◌, ◌⊎◌, ℕ, ◌<◌, ◌^◌, List, [], ◌++◌, length, false, codes}
use Rattle.mail_bytes.specs.Decimal.{digits}
use Rattle.call_fs.specs.Disk.{Disk}
use Rattle.call_fs.specs.Plan.{Plan, no_plan}
use Rattle.mail_world.specs.History.{Legal}
use Rattle.script_words.specs.declared.entry.Entry.{Entry}
use Rattle.script_lines.specs.declared.line.Line.{Line}
use Rattle.script_lines.specs.Contents.{Content}
use Rattle.scenario.specs.Deeds.{Deed, history_of}
use Rattle.script_disks.specs.FirstDisk.{IsFirstDisk}
use Rattle.script_lines.specs.Lines.{IsScript, IsBadLine}
use Rattle.scenario.specs.Played.{PlaysAll}
use Rattle.scenario.specs.Shown.{line_of}

-- These lines are played from the disk with these entries, and print this. The history of their deeds is legal.
pub record IsPlayed (opening : List Entry) (lines : List Line) (text : List ℕ) : Type 0 where
  pub disk : Disk
  pub deeds : List Deed
  pub left : Plan
  pub is_first : IsFirstDisk opening disk
  pub plays : PlaysAll disk [] no_plan false lines deeds left text
  pub legal : Legal disk (history_of deeds)

-- the script with these bytes prints this
pub record Prints (script text : List ℕ) : Type 0 where
  pub content : Content
  pub says : IsScript script content
  pub played : IsPlayed content.opening content.lines text

-- However these lines are played from the disk with these entries, or the script with these bytes, fewer than 2^63 deeds are done.
abbrev pub HaveFewDeeds : List Entry → List Line → Type 0
HaveFewDeeds opening lines = (text : List ℕ) (played : IsPlayed opening lines text) → length played.deeds < 2 ^ 63

abbrev pub HasFewDeeds : List ℕ → Type 0
HasFewDeeds script = (text : List ℕ) (prints : Prints script text) → length prints.played.deeds < 2 ^ 63

-- a text begins with this prefix
abbrev pub IsPrefix : List ℕ → List ℕ → Type 0
IsPrefix prefix text = (rest : List ℕ) × (text ≡ prefix ++ rest)

-- Lines are played from the disk with these entries as far as they go: this is a prefix of what the first of them print.
pub record IsBegun (opening : List Entry) (lines : List Line) (text : List ℕ) : Type 0 where
  pub first : List Line
  pub later : List Line
  pub lines_are : lines ≡ first ++ later
  pub printed : List ℕ
  pub rest : List ℕ
  pub played : IsPlayed opening first printed
  pub text_is : printed ≡ text ++ rest

-- the script with these bytes begins to print this
pub record BeginsToPrint (script text : List ℕ) : Type 0 where
  pub content : Content
  pub says : IsScript script content
  pub played : IsBegun content.opening content.lines text

-- nothing, or that
abbrev pub BeginsAtMost : List ℕ → List ℕ → Type 0
BeginsAtMost script text = (text ≡ []) ⊎ BeginsToPrint script text

-- nothing, or a prefix of the text of the script with these bytes
abbrev pub IsPrefixAtMost : List ℕ → List ℕ → Type 0
IsPrefixAtMost script text = (text ≡ []) ⊎ ((whole : List ℕ) × Prints script whole × IsPrefix text whole)

-- `script K` and a newline
abbrev pub script_line : ℕ → List ℕ
script_line number = line_of (codes "script") (digits number)

-- all of some bytes; or a prefix of them, if the output failed
pub record IsTakenText (whole text : List ℕ) (Failed : Type 0) : Type 0 where
  pub rest : List ℕ
  pub split : whole ≡ text ++ rest
  pub all : (rest ≡ []) ⊎ Failed

-- What is printed of bytes that aren't a script: the number that they are refused with.
pub record PrintsBadLine (script text : List ℕ) (Failed : Type 0) : Type 0 where
  pub number : ℕ
  pub is_bad : IsBadLine script number
  pub is_taken : IsTakenText (script_line number) text Failed
