-- A log that is kept until it is written.
use Rattle.std.specs.Prelude.{ℕ, ◌-◌, List, [], ◌++◌}
use Rattle.send_log.specs.declared.lines.Line.{Line}
use Rattle.send_log.specs.Lines.{text_of, line_room}

-- its text, and how many bytes of lines it has room for
pub record Kept : Type 0 where
  pub text : List ℕ
  pub room : ℕ

-- with a line at its end
abbrev pub with_line : Line → Kept → Kept
with_line l k = record { text = k.text ++ text_of l; room = k.room - line_room l }
