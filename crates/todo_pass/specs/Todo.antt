-- What a todo text says, and how bytes are read as one (envelopes(5); INTERNALS, "How messages enter the queue").
use Rattle.std.specs.Prelude.{◌≡◌, ◌↔◌, ℕ, ◌+◌, ◌*◌, ◌-◌, ◌<◌, ◌≤◌, ◌^◌, List, [], ◌∷◌, ◌++◌, length, take, drop, All, Option, Some, None, ◌&&◌, if◌then◌else◌, ◌==◌, nat_lt, Result, Ok, Err}
use Rattle.std.specs.Char.{is_ascii_digit}
use Rattle.envelope_records.specs.Envelope.{IsAddress, Reading, read_envelope, records_of, todo_text}
use Rattle.envelope_records.specs.Envelope.Reading.{Whole, Open, Broken}
use Rattle.envelope_records.specs.Envelope.Stage.{Begin, InSender, Between, InRecipient}
use Rattle.todo_pass.specs.declared.head.Digit.{Digit}
use Rattle.todo_pass.specs.declared.head.Digit.TheVariants.{More, Ended, Bad}
use Rattle.todo_pass.specs.declared.head.Head.{Head}
use Rattle.todo_pass.specs.declared.head.Number.{Number}

-- what a todo text says: who injected the message, its sender and its recipients
pub record Todo : Type 0 where
  pub uid : ℕ
  pub pid : ℕ
  pub sender : List ℕ
  pub recipients : List (List ℕ)

-- these bytes, and no others, say it; the numbers are u32
pub record IsTodo (bytes : List ℕ) (it : Todo) : Type 0 where
  pub text : bytes ≡ todo_text it.uid it.pid it.sender it.recipients
  pub uid_fits : it.uid < 2 ^ 32
  pub pid_fits : it.pid < 2 ^ 32
  pub from : IsAddress it.sender
  pub to : All IsAddress it.recipients

-- some todo text begins with these bytes
pub record IsTodoStart (bytes : List ℕ) : Type 0 where
  pub rest : List ℕ
  pub it : Todo
  pub whole : IsTodo (bytes ++ rest) it

-- The place of the first byte that no todo text has there: some begins with the bytes before it, none with it too. Of bytes
-- that only begin one it is their length.
pub record IsFirstBad (bytes : List ℕ) (at : ℕ) : Type 0 where
  pub inside : at ≤ length bytes
  pub start : IsTodoStart (take at bytes)
  pub none : at < length bytes → ¬ (IsTodoStart (take (at + 1) bytes))
  pub whole : (it : Todo) → ¬ (IsTodo bytes it)

-- Reading from the left

-- A byte of a number, after the number so far: a digit more, or its NUL. `01` and what is past the last u32 are no numbers.
abbrev pub more_digit : ℕ → ℕ → Digit
more_digit number b =
    if is_ascii_digit b && nat_lt (number * 10 + (b - 48)) (2 ^ 32) then More (number * 10 + (b - 48)) else Bad

abbrev pub digit_step : Option ℕ → ℕ → Digit
digit_step None b = if is_ascii_digit b then More (b - 48) else Bad
digit_step (Some number) b = if b == 0 then Ended number else (if number == 0 then Bad else more_digit number b)

abbrev pub number_on : Digit → ℕ → (Option ℕ → Result Number ℕ) → Result Number ℕ
number_on (More number) at rest = rest (Some number)
number_on (Ended number) at rest = Ok (record { value = number; next = at + 1 })
number_on Bad at rest = Err at

-- the number that ends with the first NUL, and the place after that; the bytes are those from a place on
abbrev pub number_from : Option ℕ → ℕ → List ℕ → Result Number ℕ
number_from number at [] = Err at
number_from number at (b ∷ bs) = number_on (digit_step number b) at (λ next. number_from next (at + 1) bs)

-- a letter and a number
abbrev pub field_from : ℕ → ℕ → List ℕ → Result Number ℕ
field_from letter at [] = Err at
field_from letter at (b ∷ bs) = if b == letter then number_from None (at + 1) bs else Err at

-- `u` UID NUL `p` PID NUL
abbrev pub head_with : ℕ → Result Number ℕ → Result Head ℕ
head_with uid (Ok pid) = Ok (record { uid = uid; pid = pid.value; next = pid.next })
head_with uid (Err at) = Err at

abbrev pub head_by : List ℕ → Result Number ℕ → Result Head ℕ
head_by bytes (Ok uid) = head_with uid.value (field_from 112 uid.next (drop uid.next bytes))
head_by bytes (Err at) = Err at

unfoldable pub read_head : List ℕ → Result Head ℕ
read_head bytes = head_by bytes (field_from 117 0 bytes)

-- then an envelope without its last NUL, by what the rest is read as
abbrev pub envelope_by : Head → ℕ → Reading → Result Todo ℕ
envelope_by head len (Open Begin) = Err len
envelope_by head len (Open (InSender begun)) = Err len
envelope_by head len (Open (Between sender recipients)) = Ok (record { uid = head.uid; pid = head.pid; sender = sender; recipients = recipients })
envelope_by head len (Open (InRecipient sender recipients begun)) = Err len
envelope_by head len (Whole sender recipients) = Err (head.next + length (records_of sender recipients))
envelope_by head len (Broken before fault) = Err (head.next + length before)

abbrev pub todo_by : List ℕ → Result Head ℕ → Result Todo ℕ
todo_by bytes (Ok head) = envelope_by head (length bytes) (read_envelope (drop head.next bytes))
todo_by bytes (Err at) = Err at

-- what the bytes say, or the place of the first byte that no todo text has there
unfoldable pub read_todo : List ℕ → Result Todo ℕ
read_todo bytes = todo_by bytes (read_head bytes)

-- Bytes are read as what they say, exactly if they say something, and else the first bad byte is told.
pub record TodosAreExact : Type 0 where
  pub read : (bytes : List ℕ) (it : Todo) → (read_todo bytes ≡ Ok it) ↔ IsTodo bytes it
  pub bad : (bytes : List ℕ) (at : ℕ) → read_todo bytes ≡ Err at → IsFirstBad bytes at
