-- What a child is given is one message and one envelope.
use Rattle.std.proofs.Common.{◌≡◌, ℕ, List, [], ◌∷◌, ◌++◌, length, take, drop, refl, sym, ap, ◌∙◌, arith}
use Rattle.std.proofs.lemmas.List.{append-nil, append_assoc, drop_at, take_at}
use Rattle.mail_bytes.specs.Decimal.{digits, IsDigit}
use Rattle.mail_bytes.specs.Netstring.{head}
use Rattle.mail_bytes.proofs.Digits.{digits_injective, digits_only}
use Rattle.mail_world.specs.History.{netstring}
use Rattle.world_law.proofs.Marks.{both, ends_alike}

no_colon : (d : ℕ) → IsDigit d → d ≡ 58 → ⊥
no_colon d h e = let most = h.1 in omega (arith, most, e)

headed : (text rest : List ℕ) → netstring text ++ rest ≡ digits (length text) ++ 58 ∷ (text ++ 44 ∷ rest)
headed text rest =
    append_assoc (head (length text)) (text ++ 44 ∷ []) rest
    ∙ append_assoc (digits (length text)) (58 ∷ []) ((text ++ 44 ∷ []) ++ rest)
    ∙ ap (λ (t : List ℕ). digits (length text) ++ 58 ∷ t) (append_assoc text (44 ∷ []) rest)

pub one_text : (m k rest more : List ℕ) → netstring m ++ rest ≡ netstring k ++ more → (m ≡ k) × (rest ≡ more)
one_text m k rest more e =
    let w = ends_alike IsDigit 58 no_colon (digits (length m)) (digits (length k)) (m ++ 44 ∷ rest) (k ++ 44 ∷ more) (digits_only (length m)) (digits_only (length k))
    (sym (headed m rest) ∙ e ∙ headed k more) in
    let long : length k ≡ length m = sym (digits_injective (length m) (length k) w.0) in
    let first : m ≡ k = sym (take_at m (44 ∷ rest) (length m) refl) ∙ ap (take (length m)) w.1 ∙ take_at k (44 ∷ more) (length m) long in
    let last : 44 ∷ rest ≡ 44 ∷ more = sym (drop_at m (44 ∷ rest) (length m) refl) ∙ ap (drop (length m)) w.1 ∙ drop_at k (44 ∷ more) (length m) long in
    (first, (both 44 44 rest more last).1)

-- so two texts of which the same input comes are the same
pub two_texts : (message envelope text other : List ℕ) → netstring message ++ netstring envelope ≡ netstring text ++ netstring other → (message ≡ text) × (envelope ≡ other)
two_texts message envelope text other e =
    let w = one_text message text (netstring envelope) (netstring other) e in
    (w.0, (one_text envelope other [] [] (append-nil (netstring envelope) ∙ w.1 ∙ sym (append-nil (netstring other)))).0)
