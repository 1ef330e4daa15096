-- What words start.
use Rattle.std.specs.Prelude.{◌≡◌, ℕ, List, [], ◌∷◌, length, map, bytes_eq, ◌==◌, ◌&&◌, if◌then◌else◌, Contains, IsUtf8}
use Rattle.proc_runner.specs.declared.start.Kind.{Kind}
use Rattle.proc_runner.specs.declared.start.Kind.TheVariants as kind
use Rattle.proc_runner.specs.declared.start.Start.{Start}

-- local
abbrev pub local_word : List ℕ
local_word = 108 ∷ 111 ∷ 99 ∷ 97 ∷ 108 ∷ []

-- sh
abbrev pub shell_word : List ℕ
shell_word = 115 ∷ 104 ∷ []

-- of this same program: a local delivery, or a member or an injector
abbrev pub own_kind : List (List ℕ) → Kind
own_kind [] = kind.Member
own_kind (name ∷ rest) = if bytes_eq name local_word then kind.Delivery else kind.Member

-- The empty word stands for this same program, any other for one of others.
abbrev pub program_kind : List ℕ → List (List ℕ) → Kind
program_kind [] rest = own_kind rest
program_kind (b ∷ bs) rest = kind.Remote

-- sh with two words is the command of a user
abbrev pub kind_of : List ℕ → List (List ℕ) → Kind
kind_of first rest = if bytes_eq first shell_word && (length rest == 2) then kind.Command else program_kind first rest

-- a word that the system can take
abbrev pub IsText : List ℕ → Type 0
IsText word = ¬ (Contains word 0) × IsUtf8 word

abbrev pub AreTexts : List (List ℕ) → Type 0
AreTexts [] = Unit {0}
AreTexts (word ∷ words) = IsText word × AreTexts words

-- the system can start these words, if it finds the program
abbrev pub CanStart : List (List ℕ) → Type 0
CanStart [] = ⊥
CanStart (first ∷ rest) = AreTexts (first ∷ rest)

-- these words start this
abbrev pub IsStart : List (List ℕ) → Start → Type 0
IsStart [] start = ⊥
IsStart (first ∷ rest) start = (start.kind ≡ kind_of first rest) × (map (λ w. w.now) start.words.now ≡ first ∷ rest)
    × AreTexts (first ∷ rest)
