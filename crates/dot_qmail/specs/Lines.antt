-- What the lines of a .qmail file tell to do (dot-qmail(5)).
use Rattle.std.specs.Prelude.{◌≡◌, ℕ, List, [], ◌∷◌, Bool, true, false, ◌&&◌, ◌||◌, not, Option, Some, None, if◌then◌else◌, ◌==◌, nat_eq}
use Rattle.std.specs.List.{filter_map, before_first, slice_split, ends_with}
use Rattle.dot_qmail.specs.declared.line.Line.{Line}
use Rattle.dot_qmail.specs.declared.line.Line.TheVariants.{Command, Maildir, Mailbox, Forward}
use Rattle.dot_qmail.specs.declared.line.PlanError.{PlanError}
use Rattle.dot_qmail.specs.declared.line.PlanError.TheVariants.{BlankFirst, Memory}
use Rattle.mail_bytes.specs.Texts.{trimmed}

-- The pieces of a file between its newlines. After a newline at its end comes an empty piece, which tells nothing.
abbrev pub lines : List ℕ → List (List ℕ)
lines bytes = slice_split (λ b. b == 10) bytes

-- an address ends before its first NUL
abbrev pub until_nul : List ℕ → List ℕ
until_nul text = before_first (λ b. b == 0) text

-- `./Maildir/` is a maildir, `./mbox` a mailbox file
abbrev pub path_line : List ℕ → Line
path_line text = if ends_with nat_eq text (47 ∷ []) then Maildir text else Mailbox text

-- What a text tells that begins with this byte, and goes on so: `|` a command, `.` or `/` a path, `&` an address, and any
-- other byte an address that begins with it.
abbrev pub said_by : List ℕ → ℕ → List ℕ → Line
said_by text b rest =
    if b == 124 then Command rest
    else (if b == 46 || b == 47 then path_line text
    else (if b == 38 then Forward (until_nul rest)
    else Forward (until_nul text)))

-- what a line without blanks at its end tells; nothing if it is blank, or begins with `#` or `+`
abbrev pub said : List ℕ → Option Line
said [] = None
said (b ∷ rest) = if b == 35 || b == 43 then None else Some (said_by (b ∷ rest) b rest)

abbrev pub line_of : List ℕ → Option Line
line_of line = said (trimmed line)

abbrev pub is_empty : List ℕ → Bool
is_empty [] = true
is_empty (b ∷ rest) = false

-- what stands before the first newline
abbrev pub first_line : List ℕ → List ℕ
first_line bytes = before_first (λ b. b == 10) bytes

-- there is a first line, and it is blank
abbrev pub begins_blank : List ℕ → Bool
begins_blank bytes = not (is_empty bytes) && is_empty (trimmed (first_line bytes))

-- what a file tells to do, in order; nothing is told if its first line is blank
unfoldable pub plan_of : List ℕ → Option (List Line)
plan_of bytes = if begins_blank bytes then None else Some (filter_map line_of (lines bytes))

-- why a file has no plan; out of memory has no cause in it
abbrev pub IsPlanFault : List ℕ → PlanError → Type 0
IsPlanFault bytes BlankFirst = plan_of bytes ≡ None
IsPlanFault bytes Memory = Unit {0}
