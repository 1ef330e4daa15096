-- The lines of a mail and of its recipients.
use Rattle.std.specs.Prelude.{ℕ, ◌+◌, List, [], ◌∷◌, ◌++◌, codes}
use Rattle.mail_bytes.specs.Decimal.{digits}
use Rattle.queue_states.specs.Lines.{line_of}
use Rattle.world_events.specs.declared.books.Life.{Life}
use Rattle.world_events.specs.declared.books.Life.TheVariants.{Alive, Ended, Stopped}

-- an exit status, or whether it lives or was stopped
abbrev pub life_word : Life → List ℕ
life_word Alive = codes "alive"
life_word (Ended status) = digits status
life_word Stopped = codes "stopped"

-- `NAME.k WORD` for each word, counted from k
abbrev pub recipient_lines : List ℕ → ℕ → List (List ℕ) → List ℕ
recipient_lines name k [] = []
recipient_lines name k (word ∷ words) = line_of (name ++ 46 ∷ digits k) word ++ recipient_lines name (k + 1) words
