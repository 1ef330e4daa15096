-- What the files that the sender reads say, as functions of their bytes.
use Rattle.std.specs.Prelude.{ℕ, ◌+◌, List, [], ◌∷◌, length, take, position, Bool, false, ◌&&◌, Option, Some, None, if◌then◌else◌, ◌==◌, nat_le}
use Rattle.mail_bytes.specs.Decimal.{number_of}
use Rattle.queue_paths.specs.Names.{split}

-- An info file

abbrev pub begins_by : ℕ → List ℕ → Bool
begins_by letter [] = false
begins_by letter (b ∷ bs) = b == letter

abbrev pub is_nul : ℕ → Bool
is_nul b = b == 0

abbrev pub cut_at : Option ℕ → List ℕ → List ℕ
cut_at None text = text
cut_at (Some at) text = take at text

-- what stands before the first NUL
abbrev pub before_nul : List ℕ → List ℕ
before_nul text = cut_at (position is_nul text) text

-- `F`, an address, NUL
abbrev pub is_info : List ℕ → Bool
is_info text = begins_by 70 text && (length (before_nul text) + 1 == length text)

-- the address
abbrev pub sender_in : List ℕ → List ℕ
sender_in [] = []
sender_in (b ∷ text) = before_nul text

-- A name

abbrev pub from_one : Option ℕ → Option ℕ
from_one None = None
from_one (Some n) = if nat_le 1 n then Some n else None

-- the message number that it is: a decimal text of a u64 from 1
abbrev pub message_number : List ℕ → Option ℕ
message_number text = from_one (number_of text)

-- the number, if its files lie in this directory of the 23
abbrev pub lying_in : ℕ → Option ℕ → Option ℕ
lying_in dir None = None
lying_in dir (Some n) = if split n == dir then Some n else None

-- the message number that a name in this directory is
abbrev pub number_below : ℕ → List ℕ → Option ℕ
number_below dir text = lying_in dir (message_number text)
