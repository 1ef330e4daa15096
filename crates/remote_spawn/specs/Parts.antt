-- The parts of a remote program's output, each ended by NUL: the recipient report, if there is one, and the message report
-- (qmail-remote(8)).
use Rattle.std.specs.Prelude.{◌≡◌, ℕ, List, [], ◌∷◌, ◌++◌, All, Bool, ◌||◌, ◌⊎◌, Option, Some, None, if◌then◌else◌, ◌==◌, flat_map}
use Rattle.std.specs.Option.{option_or}
use Rattle.remote_spawn.specs.declared.parts.Message.{Message as Lent}
use Rattle.mail_bytes.specs.Texts.{HasNoNul}

-- with one byte more before the first part; what is not ended is no part
abbrev pub put_on_first : ℕ → List (List ℕ) → List (List ℕ)
put_on_first b [] = []
put_on_first b (part ∷ more) = (b ∷ part) ∷ more

-- The parts, without their NULs. What comes after the last NUL is none: `rok`, NUL, `Kid`, NUL, `x` has the parts `rok` and `Kid`.
abbrev pub parts : List ℕ → List (List ℕ)
parts [] = []
parts (b ∷ rest) = if b == 0 then [] ∷ parts rest else put_on_first b (parts rest)

-- a message report: its letter and its text
abbrev pub Message : Type 0
Message = ℕ × List ℕ

-- K, Z or D
abbrev pub is_verdict : ℕ → Bool
is_verdict letter = letter == 75 || (letter == 90 || letter == 68)

abbrev pub message_in_part : List ℕ → Option Message
message_in_part [] = None
message_in_part (letter ∷ text) = if is_verdict letter then Some (letter, text) else None

-- The message report is the first part that begins with K, Z or D, which may be the first of all.
abbrev pub first_message : List (List ℕ) → Option Message
first_message [] = None
first_message (part ∷ more) = option_or (message_in_part part) (first_message more)

abbrev pub recipient_in_part : List ℕ → List ℕ
recipient_in_part [] = []
recipient_in_part (letter ∷ text) = if is_verdict letter then [] else text

-- The recipient report is the first part, and its text is what comes after its letter; a first part that begins with K, Z or D
-- is the message report, and there is no recipient report.
abbrev pub recipient_text : List (List ℕ) → List ℕ
recipient_text [] = []
recipient_text (part ∷ more) = recipient_in_part part

-- a message report that is lent
abbrev pub said : Option Lent → Option Message
said None = None
said (Some m) = Some (m.letter, m.text.now)

-- The same as relations

abbrev pub ended : List ℕ → List ℕ
ended part = part ++ 0 ∷ []

-- the output is these parts, each with its NUL, and then bytes without NUL
pub record AreParts (output : List ℕ) (these : List (List ℕ)) : Type 0 where
  pub rest : List ℕ
  pub text : output ≡ flat_map ended these ++ rest
  pub whole : All HasNoNul these
  pub open_end : HasNoNul rest

abbrev pub IsVerdict : ℕ → Type 0
IsVerdict letter = (letter ≡ 75) ⊎ ((letter ≡ 90) ⊎ (letter ≡ 68))

-- a part that begins with none of these letters
abbrev pub IsNoMessage : List ℕ → Type 0
IsNoMessage part = (letter : ℕ) (text : List ℕ) → part ≡ letter ∷ text → ¬ (IsVerdict letter)

pub record IsFirstMessage (these : List (List ℕ)) (message : Message) : Type 0 where
  pub before : List (List ℕ)
  pub after : List (List ℕ)
  pub split : these ≡ before ++ (message.0 ∷ message.1) ∷ after
  pub none : All IsNoMessage before
  pub verdict : IsVerdict message.0

abbrev pub IsMessageOf : List (List ℕ) → Option Message → Type 0
IsMessageOf these None = All IsNoMessage these
IsMessageOf these (Some message) = IsFirstMessage these message
