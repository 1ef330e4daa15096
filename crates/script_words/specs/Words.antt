-- The words of a script, and what each stands for.
use Rattle.std.specs.Prelude.{◌≡◌, ◌≢◌, ◌⊎◌, ℕ, ◌<◌, ◌≤◌, ◌^◌, List, [], ◌∷◌, ◌++◌, Contains, Ok, codes}
use Rattle.std.specs.List.{join_with_byte}
use Rattle.mail_bytes.specs.Decimal.{digits}
use Rattle.mail_bytes.specs.Escape.{unescaped}
use Rattle.envelope_records.specs.Envelope.{records_of}
use Rattle.call_fs.specs.declared.crash_file_system.Survival.{Survival}
use Rattle.call_fs.specs.declared.crash_file_system.Survival.TheVariants.{Keep, Lose, Junk}
use Rattle.script_words.specs.declared.letter.Letter.{Letter}
use Rattle.script_words.specs.declared.letter.Letter.TheVariants.{Success, Deferral, Failure}

-- words, parted by one space: `step`, `a` are `step a`
abbrev pub joined : List (List ℕ) → List ℕ
joined words = join_with_byte 32 words

-- some bytes without a space
pub record IsWord (word : List ℕ) : Type 0 where
  pub some : word ≢ []
  pub whole : ¬ (Contains word 32)

-- A word, in which `%` and two hexadecimal digits stand for a byte. The word `:` ends the words.
pub record StandsFor (word text : List ℕ) : Type 0 where
  pub is_word : IsWord word
  pub no_end : word ≢ codes ":"
  pub bytes : unescaped word ≡ Ok text

-- the word for a text that may be empty; `-` stands for the empty one
abbrev pub StandsForText : List ℕ → List ℕ → Type 0
StandsForText word text = ((word ≡ codes "-") × (text ≡ [])) ⊎ ((word ≢ codes "-") × StandsFor word text)

-- what may follow the `:` of a line: nothing, or a space and the escaped body
abbrev pub HasBody : List ℕ → List ℕ → Type 0
HasBody [] body = body ≡ []
HasBody (first ∷ text) body = (first ≡ 32) × (unescaped text ≡ Ok body)

-- `F`, the sender, NUL, a record for each recipient, NUL. If an address has a NUL or is too long, an injector reads
-- something else in it, or refuses it.
abbrev pub envelope_bytes : List ℕ → List (List ℕ) → List ℕ
envelope_bytes sender recipients = records_of sender recipients ++ 0 ∷ []

-- a number from 1 that a u64 holds
abbrev pub IsCounted : ℕ → Type 0
IsCounted n = (1 ≤ n) × (n < 2 ^ 64)

-- the text of such a number
pub record IsCount (text : List ℕ) : Type 0 where
  pub count : ℕ
  pub counted : IsCounted count
  pub is_text : text ≡ digits count

-- `keep`, `lose`, or `junk` and the seed
abbrev pub survival_text : Survival → List ℕ
survival_text Keep = codes "keep"
survival_text Lose = codes "lose"
survival_text (Junk seed) = codes "junk" ++ 32 ∷ digits seed

-- the greatest seed of a script
abbrev pub most_seed : ℕ
most_seed = 65536

abbrev pub IsSeeded : Survival → Type 0
IsSeeded Keep = Unit {0}
IsSeeded Lose = Unit {0}
IsSeeded (Junk seed) = seed ≤ most_seed

-- the letter of a report, as a byte and as a word
abbrev pub letter_byte : Letter → ℕ
letter_byte Success = 75
letter_byte Deferral = 90
letter_byte Failure = 68

abbrev pub letter_text : Letter → List ℕ
letter_text letter = letter_byte letter ∷ []

-- a slot of the spawners, which is one byte
abbrev pub IsSlot : ℕ → Type 0
IsSlot slot = slot < 2 ^ 8
