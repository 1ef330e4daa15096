-- The command `work`.
use Rattle.std.specs.Prelude.{◌≡◌, ◌≢◌, ◌⊎◌, ℕ, ◌<◌, List, [], ◌∷◌, ◌++◌, length, take, map, Bool, true, Option, Contains, String, string_bytes}
use Rattle.std.specs.declared.alloc.Global.{Global}
use Rattle.mail_bytes.specs.Told.{OnTold, Meets, Rose}
use Rattle.command_words.specs.declared.command.Command.TheVariants.{Work}
use Rattle.command_words.specs.Reads.{Reads}
use Rattle.script_lines.specs.Contents.{Content}
use Rattle.script_lines.specs.Lines.{IsScript, IsRefused, most_bytes}
use Rattle.scenario.specs.Text.{PrintsBadLine}
use Rattle.qmail_top.specs.Command.{IsPrintedAtEnd, NoneFailed}
use Rattle.qmail_top.specs.SafePlays.{WorksSafely}
use Rattle.queue_limits.specs.declared.statuses.TheConstants.{DONE, INPUT, MALFORMED, MEMORY, OUTPUT}

-- the words are `work`
abbrev pub IsWork : List (String Global) → Type 0
IsWork words = (threads : ℕ) × Reads (map string_bytes words) (Work threads)

-- a source and a sink, by what they tell and how often they have failed
pub record Streams : Type 0 where
  pub left : Option (List ℕ)
  pub ended : Option Bool
  pub input_faults : ℕ
  pub taken : Option (List ℕ)
  pub output_faults : ℕ

abbrev pub InputRose : Streams → Streams → Type 0
InputRose old new = Rose old.input_faults new.input_faults

abbrev pub OutputRose : Streams → Streams → Type 0
OutputRose old new = Rose old.output_faults new.output_faults

-- The command `work` was done with this status. If it is 0, the sink took what `work` prints of the script, whose history is legal and
-- as promised at each prefix; if the output failed, a prefix of that; if a line is bad, its number; else nothing.
pub record WasWorked (old new : Streams) (Unwritten : Type 0) (status : ℕ) : Type 0 where
  -- the causes of the statuses
  pub input : status ≡ INPUT → InputRose old new
  pub output : status ≡ OUTPUT → OutputRose old new
  pub unfailed : status ≡ MEMORY → NoneFailed (record { before = old.input_faults; after = new.input_faults }) (record { before = old.output_faults; after = new.output_faults })
  pub malformed : OnTold old.left (λ script. status ≡ MALFORMED → IsRefused script)
  pub checked : OnTold old.left (λ script. (status ≡ DONE) ⊎ (status ≡ OUTPUT) → ¬ (IsRefused script))
  pub known : Contains (DONE ∷ MEMORY ∷ OUTPUT ∷ INPUT ∷ MALFORMED ∷ []) status
  pub complete : OnTold old.left (λ script. (content : Content) → IsScript script content → ¬ (InputRose old new) → ¬ (OutputRose old new) → (status ≡ DONE) ⊎ (status ≡ MEMORY))
  -- what is printed
  pub prints : OnTold old.left (λ script. status ≡ DONE → Meets old.taken new.taken (λ before after. (text : List ℕ) × WorksSafely script text × (after ≡ before ++ text)))
  pub begins : OnTold old.left (λ script. status ≡ OUTPUT → Meets old.taken new.taken (λ before after. (text : List ℕ) × (k : ℕ) × WorksSafely script text × (after ≡ before ++ take k text)))
  pub refuses : OnTold old.left (λ script. status ≡ MALFORMED → Meets old.taken new.taken (λ before after. (text : List ℕ) × PrintsBadLine script text (OutputRose old new) × (after ≡ before ++ text)))
  pub reached : Meets old.left new.left (λ script rest. rest ≢ [] → Unwritten ⊎ ((status ≡ MALFORMED) × (most_bytes < length script)))
  pub unended : IsPrintedAtEnd new.ended Unwritten (status ≡ MALFORMED) old.left
  pub ended : Meets old.left new.left (λ script rest. status ≡ DONE → rest ≡ [])
  pub told_end : status ≡ DONE → OnTold new.ended (λ is. is ≡ true)
  pub unwritten : (status ≡ INPUT) ⊎ (status ≡ MEMORY) → Unwritten
