-- What a remote program reports: a slot, a letter and a word.
use Rattle.std.proofs.Common.{◌≡◌, ℕ, List, ◌∷◌, ◌++◌, Contains, Some, Ok, refl, sym, ◌∙◌, ap, subst, arith}
use Rattle.std.proofs.lemmas.List.Elements.{All-contains}
use Rattle.mail_bytes.specs.Decimal.{digits, IsDigit}
use Rattle.mail_bytes.specs.Escape.{unescaped}
use Rattle.mail_bytes.proofs.Digits.{digits_all, digits_injective}
use Rattle.script_words.specs.declared.letter.Letter.{Letter}
use Rattle.script_words.specs.declared.letter.Letter.TheVariants.{Success, Deferral, Failure}
use Rattle.script_words.specs.Words.{StandsFor, IsSlot, letter_text}
use Rattle.script_words.specs.Reading.{IsCut, IsReport}
use Rattle.script_words.proofs.Cuts.{same-cut, contains-cut, lacks}
use Rattle.script_words.proofs.EntryTexts.{read_one, other_first}

-- no number and no letter has a space
pub digits_lack : (n : ℕ) → ¬ (Contains (digits n) 32)
digits_lack n has = let digit : IsDigit 32 = All-contains IsDigit (digits n) 32 (digits_all n) has in let low = digit.0 in absurd (omega arith)

pub letter_lacks : (letter : Letter) → ¬ (Contains (letter_text letter) 32)
letter_lacks Success = lacks (letter_text Success) 32 refl
letter_lacks Deferral = lacks (letter_text Deferral) 32 refl
letter_lacks Failure = lacks (letter_text Failure) 32 refl

-- one letter has one text
pub one_letter : (k m : Letter) → letter_text k ≡ letter_text m → k ≡ m
one_letter Success Success e = refl
one_letter Success Deferral e = absurd (other_first (letter_text Success) (letter_text Deferral) 75 90 refl refl (λ e. omega arith) e)
one_letter Success Failure e = absurd (other_first (letter_text Success) (letter_text Failure) 75 68 refl refl (λ e. omega arith) e)
one_letter Deferral Success e = absurd (other_first (letter_text Deferral) (letter_text Success) 90 75 refl refl (λ e. omega arith) e)
one_letter Deferral Deferral e = refl
one_letter Deferral Failure e = absurd (other_first (letter_text Deferral) (letter_text Failure) 90 68 refl refl (λ e. omega arith) e)
one_letter Failure Success e = absurd (other_first (letter_text Failure) (letter_text Success) 68 75 refl refl (λ e. omega arith) e)
one_letter Failure Deferral e = absurd (other_first (letter_text Failure) (letter_text Deferral) 68 90 refl refl (λ e. omega arith) e)
one_letter Failure Failure e = refl

-- the three words of a report
pub report_of : (words first rest second last text : List ℕ) (slot : ℕ) (letter : Letter)
    → IsCut words 32 first (Some rest) → IsCut rest 32 second (Some last) → (first ≡ digits slot) × IsSlot slot → second ≡ letter_text letter → StandsFor last text → IsReport words slot letter text
report_of words first rest second last text slot letter cut more is_slot is_letter stands = record {
  word = last;
  words_are = cut.parts ∙ ap (λ t. first ++ 32 ∷ t) (more.parts ∙ ap (λ w. w ++ 32 ∷ last) is_letter) ∙ ap (λ w. w ++ 32 ∷ (letter_text letter ++ 32 ∷ last)) is_slot.0;
  is_slot = is_slot.1;
  stands = stands;
}

pub report_has_space : (words text : List ℕ) (slot : ℕ) (letter : Letter) → IsReport words slot letter text → Contains words 32
report_has_space words text slot letter h = subst (λ (t : List ℕ). Contains t 32) (sym h.words_are) (contains-cut (digits slot) (letter_text letter ++ 32 ∷ h.word) 32)

-- what stands before and after the first space is the slot, and the rest
pub report_parts : (words first rest text : List ℕ) (slot : ℕ) (letter : Letter) → IsCut words 32 first (Some rest) → (h : IsReport words slot letter text)
    → (first ≡ digits slot) × (rest ≡ letter_text letter ++ 32 ∷ h.word)
report_parts words first rest text slot letter cut h =
    same-cut first rest (digits slot) (letter_text letter ++ 32 ∷ h.word) 32 cut.without (digits_lack slot) (sym cut.parts ∙ h.words_are)

pub rest_has_space : (words first rest text : List ℕ) (slot : ℕ) (letter : Letter) → IsCut words 32 first (Some rest) → IsReport words slot letter text → Contains rest 32
rest_has_space words first rest text slot letter cut h =
    subst (λ (t : List ℕ). Contains t 32) (sym (report_parts words first rest text slot letter cut h).1) (contains-cut (letter_text letter) h.word 32)

-- and of the rest, the letter and the word
pub letter_parts : (words first rest second last text : List ℕ) (slot : ℕ) (letter : Letter) → IsCut words 32 first (Some rest) → IsCut rest 32 second (Some last)
    → (h : IsReport words slot letter text) → (second ≡ letter_text letter) × (last ≡ h.word)
letter_parts words first rest second last text slot letter cut more h =
    same-cut second last (letter_text letter) h.word 32 more.without (letter_lacks letter) (sym more.parts ∙ (report_parts words first rest text slot letter cut h).1)

-- so words are one report
pub one_report : (words text other : List ℕ) (slot m : ℕ) (letter k : Letter) → IsReport words slot letter text → IsReport words m k other → (slot ≡ m) × (letter ≡ k) × (text ≡ other)
one_report words text other slot m letter k p q =
    let cut : IsCut words 32 (digits slot) (Some (letter_text letter ++ 32 ∷ p.word)) = record { without = digits_lack slot; parts = p.words_are } in
    let more : IsCut (letter_text letter ++ 32 ∷ p.word) 32 (letter_text letter) (Some p.word) = record { without = letter_lacks letter; parts = refl } in
    let first = report_parts words (digits slot) (letter_text letter ++ 32 ∷ p.word) other m k cut q in
    let rest = letter_parts words (digits slot) (letter_text letter ++ 32 ∷ p.word) (letter_text letter) p.word other m k cut more q in (
      digits_injective slot m first.0,
      one_letter letter k rest.0,
      read_one q.word text other (subst (λ (w : List ℕ). unescaped w ≡ Ok text) rest.1 p.stands.bytes) q.stands.bytes,
    )
