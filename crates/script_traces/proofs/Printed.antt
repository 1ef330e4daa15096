-- What is printed of recipients.
use Rattle.std.proofs.Common.{◌≡◌, ℕ, suc, ◌+◌, List, [], ◌∷◌, ◌++◌, length, sym, ◌∙◌, ap, arith, append_assoc}
use Rattle.std.proofs.lemmas.List.{append-nil}
use Rattle.mail_bytes.specs.Decimal.{digits}
use Rattle.queue_states.specs.Lines.{line_of}
use Rattle.script_traces.specs.Mails.{recipient_lines}

-- one recipient more
recipient-push : (name : List ℕ) (k : ℕ) (words : List (List ℕ)) (word : List ℕ)
    → recipient_lines name k (words ++ word ∷ []) ≡ recipient_lines name k words ++ line_of (name ++ 46 ∷ digits (k + length words)) word
recipient-push name k [] word = append-nil (line_of (name ++ 46 ∷ digits k) word) ∙ ap (λ j. line_of (name ++ 46 ∷ digits j) word) (let e : k ≡ k + 0 = omega arith in e)
recipient-push name k (w ∷ words) word =
    let own = line_of (name ++ 46 ∷ digits k) w in
    ap (λ t. own ++ t) (recipient-push name (k + 1) words word)
    ∙ sym (append_assoc own (recipient_lines name (k + 1) words) (line_of (name ++ 46 ∷ digits (k + 1 + length words)) word))
    ∙ ap (λ j. recipient_lines name k (w ∷ words) ++ line_of (name ++ 46 ∷ digits j) word) (let e : k + 1 + length words ≡ k + suc (length words) = omega arith in e)

pub recipient-more : (name text old new word : List ℕ) (words : List (List ℕ)) (n : ℕ) → old ≡ text ++ recipient_lines name 1 words → n ≡ length words
    → new ≡ old ++ line_of (name ++ 46 ∷ digits (n + 1)) word → new ≡ text ++ recipient_lines name 1 (words ++ word ∷ [])
recipient-more name text old new word words n before many line =
    line
    ∙ ap (λ t. t ++ line_of (name ++ 46 ∷ digits (n + 1)) word) before
    ∙ append_assoc text (recipient_lines name 1 words) (line_of (name ++ 46 ∷ digits (n + 1)) word)
    ∙ ap (λ t. text ++ t)
    (ap (λ j. recipient_lines name 1 words ++ line_of (name ++ 46 ∷ digits j) word) (let e : n + 1 ≡ 1 + length words = omega arith in e)
    ∙ sym (recipient-push name 1 words word))
