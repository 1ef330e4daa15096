-- What a script says, entry by entry and line by line.
use Rattle.std.specs.Prelude.{[], ◌∷◌, ◌++◌}
use Rattle.script_words.specs.declared.entry.Entry.{Entry}
use Rattle.script_lines.specs.declared.line.Line.{Line}
use Rattle.script_lines.specs.Contents.{Content}

-- neither
abbrev pub nothing : Content
nothing = record { opening = []; lines = [] }

-- one entry more, and one line more
abbrev pub with_entry : Content → Entry → Content
with_entry c entry = record { opening = c.opening ++ entry ∷ []; lines = c.lines }

abbrev pub with_line : Content → Line → Content
with_line c line = record { opening = c.opening; lines = c.lines ++ line ∷ [] }
