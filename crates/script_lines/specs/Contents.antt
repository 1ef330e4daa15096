-- What a script says: what its disk holds at its beginning, and its lines.
use Rattle.std.specs.Prelude.{List, All}
use Rattle.script_words.specs.declared.entry.Entry.{Entry}
use Rattle.script_words.specs.Entries.{IsEntryPath, path_of}
use Rattle.script_lines.specs.declared.line.Line.{Line}

-- the entries of its disk, and its lines
pub record Content : Type 0 where
  pub opening : List Entry
  pub lines : List Line

-- each entry lies below control, users, home or pid
abbrev pub HaveEntryPaths : List Entry → Type 0
HaveEntryPaths entries = All (λ entry. IsEntryPath (path_of entry)) entries
