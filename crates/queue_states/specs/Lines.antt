-- The lines that tell how many names `pid/` has and which state a number is in: `pid 0`, `457 S4`.
use Rattle.std.specs.Prelude.{ℕ, List, [], ◌∷◌, ◌++◌, codes}
use Rattle.mail_bytes.specs.Decimal.{digits}
use Rattle.queue_states.specs.declared.state.State.{State}
use Rattle.queue_states.specs.declared.state.State.TheVariants.{S1, S2, S3, S4, S5, Other}

abbrev pub state_word : State → List ℕ
state_word S1 = codes "S1"
state_word S2 = codes "S2"
state_word S3 = codes "S3"
state_word S4 = codes "S4"
state_word S5 = codes "S5"
state_word Other = codes "other"

-- a line of words, parted by spaces
abbrev pub line_of : List ℕ → List ℕ → List ℕ
line_of word more = word ++ 32 ∷ (more ++ 10 ∷ [])

-- `pid COUNT`
abbrev pub count_line : ℕ → List ℕ
count_line count = line_of (codes "pid") (digits count)

-- `N Sk`, or `N other`
abbrev pub state_line : ℕ → State → List ℕ
state_line n state = line_of (digits n) (state_word state)
