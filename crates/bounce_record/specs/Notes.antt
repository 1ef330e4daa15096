-- Notes in a bounce file (QSBMF): a paragraph for each recipient that couldn't be delivered to, which begins with `<`, the
-- address and `>:`, and goes on with the report. A note ends with an empty line.
use Rattle.std.specs.Prelude.{◌≡◌, ℕ, ◌+◌, ◌-◌, ◌<◌, List, [], ◌∷◌, ◌++◌, length, take, drop, map, count_by, Bool, true, false, ◌&&◌, ◌||◌, if◌then◌else◌, ◌==◌, nat_eq, nat_lt, Option, Some, None, bytes_eq, codes, slice_index}
use Rattle.std.specs.List.{filter_map, zip, slice_split, range_with_len, ends_with}

-- an address as a note names it: each newline as `_`
abbrev pub note_name : List ℕ → List ℕ
note_name address = map (λ b. if b == 10 then 95 else b) address

-- the first line of the note of an address: `<bob@x>:`
abbrev pub heading : List ℕ → List ℕ
heading name = 60 ∷ (name ++ 62 ∷ 58 ∷ [])

-- the newline that a report lacks at its end; an empty report lacks none
abbrev pub missing_newline : List ℕ → List ℕ
missing_newline [] = []
missing_newline (b ∷ report) = if slice_index (b ∷ report) (length report) == 10 then [] else 10 ∷ []

-- At this place a newline comes after a newline, and isn't the last byte.
abbrev pub is_doubled : List ℕ → ℕ → Bool
is_doubled text i = (nat_lt 0 i && nat_lt (i + 1) (length text)) && (slice_index text (i - 1) == 10 && slice_index text i == 10)

abbrev pub softened_at : List ℕ → ℕ → ℕ
softened_at text i = if is_doubled text i then 47 else slice_index text i

-- Each such newline as `/`, so that no empty line is left before the last byte: of `a`, two newlines and `b` that is `a`, a
-- newline and `/b`, and of `a` with two newlines at its end it's the same text.
unfoldable pub softened : List ℕ → List ℕ
softened text = map (softened_at text) (range_with_len 0 (length text))

-- The same as a relation: of two texts as long as one another each such newline of the first is `/` in the second, and every
-- other byte is the same.
pub record IsDoubled (text : List ℕ) (i : ℕ) : Type 0 where
  pub first : 0 < i
  pub last : i + 1 < length text
  pub before : slice_index text (i - 1) ≡ 10
  pub here : slice_index text i ≡ 10

pub record IsSoftened (plain text : List ℕ) : Type 0 where
  pub long : length text ≡ length plain
  pub doubled : (i : ℕ) → IsDoubled plain i → slice_index text i ≡ 47
  pub other : (i : ℕ) → i < length plain → ¬ (IsDoubled plain i) → slice_index text i ≡ slice_index plain i

-- the heading of an address, and a report
abbrev pub plain_note : List ℕ → List ℕ → List ℕ
plain_note address report = heading (note_name address) ++ 10 ∷ (report ++ missing_newline report)

-- The note of an address with a report: of `r`, and `a`, two newlines and `b`, the lines `<r>:`, `a`, `/b` and an empty line.
unfoldable pub note_text : List ℕ → List ℕ → List ℕ
note_text address report = softened (plain_note address report) ++ 10 ∷ []

-- the report of a temporary failure that isn't tried again, as a note has it
abbrev pub late_report : List ℕ → List ℕ
late_report report = report ++ (codes "I'm not going to try again; this message has been in the queue too long." ++ 10 ∷ [])

-- Which addresses a file names

-- the pieces of a text between its newlines; one that ends with a newline has an empty last piece, which names nothing
abbrev pub lines : List ℕ → List (List ℕ)
lines bytes = slice_split (λ b. b == 10) bytes

abbrev pub is_empty : List ℕ → Bool
is_empty [] = true
is_empty (b ∷ bytes) = false

-- the line of the two, if it is the first of a paragraph: if the one before it is empty
abbrev pub first_line : List ℕ × List ℕ → Option (List ℕ)
first_line pair = if is_empty pair.0 then Some pair.1 else None

-- The first lines of paragraphs, of lines that come after this one.
abbrev pub first_lines : List ℕ → List (List ℕ) → List (List ℕ)
first_lines before lines = filter_map first_line (zip (before ∷ lines) lines)

-- those of a text, as if it came after an empty line
abbrev pub headings : List ℕ → List (List ℕ)
headings bytes = first_lines [] (lines bytes)

-- what stands between `<` and `>:`
abbrev pub inside : List ℕ → List ℕ
inside line = take (length line - 3) (drop 1 line)

-- the address that a first line names
abbrev pub named : List ℕ → Option (List ℕ)
named line = if bytes_eq (heading (inside line)) line then Some (inside line) else None

-- the addresses that a file names, one for each paragraph whose first line is a heading
unfoldable pub notes_of : List ℕ → List (List ℕ)
notes_of bytes = filter_map named (headings bytes)

-- how many paragraphs have the first line `<r>:`
unfoldable pub count : List ℕ → List ℕ → ℕ
count bytes r = count_by (λ line. bytes_eq line (heading r)) (headings bytes)

-- A file with one more note

-- what is put between a file and a note: two newlines, if the file isn't empty and doesn't end with two
abbrev pub parting : List ℕ → List ℕ
parting file = if is_empty file || ends_with nat_eq file (10 ∷ 10 ∷ []) then [] else 10 ∷ 10 ∷ []

-- the file with the note of an address and a report at its end
abbrev pub with_note : List ℕ → List ℕ → List ℕ → List ℕ
with_note file address report = file ++ (parting file ++ note_text address report)
