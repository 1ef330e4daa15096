-- Blanks at the end of a line.
use Rattle.std.proofs.Common.{◌≡◌, ℕ, List, [], ◌∷◌, ◌++◌, ◌&&◌, Bool, true, false, refl, ap, ◌∙◌}
use Rattle.std.specs.Prelude.{if◌then◌else◌}
use Rattle.std.specs.List.{list_all}
use Rattle.mail_bytes.specs.Texts.{is_blank, trimmed}

and_false : (b : Bool) → (b && false) ≡ false
and_false true = refl
and_false false = refl

all_with_blank : (line : List ℕ) (b : ℕ) → is_blank b ≡ true → list_all is_blank (line ++ b ∷ []) ≡ list_all is_blank line
all_with_blank [] b e = ap (λ t. t && true) e
all_with_blank (x ∷ line) b e = ap (λ t. is_blank x && t) (all_with_blank line b e)

not_all : (line : List ℕ) (b : ℕ) → is_blank b ≡ false → list_all is_blank (line ++ b ∷ []) ≡ false
not_all [] b e = ap (λ t. t && true) e
not_all (x ∷ line) b e = ap (λ t. is_blank x && t) (not_all line b e) ∙ and_false (is_blank x)

pub trimmed_blank : (line : List ℕ) (b : ℕ) → is_blank b ≡ true → trimmed (line ++ b ∷ []) ≡ trimmed line
trimmed_blank [] b e = ap (λ t. if t && true then [] else b ∷ []) e
trimmed_blank (x ∷ line) b e =
    ap (λ t. if is_blank x && t then [] else x ∷ trimmed (line ++ b ∷ [])) (all_with_blank line b e)
    ∙ ap (λ t. if is_blank x && list_all is_blank line then [] else x ∷ t) (trimmed_blank line b e)

pub trimmed_kept : (line : List ℕ) (b : ℕ) → is_blank b ≡ false → trimmed (line ++ b ∷ []) ≡ line ++ b ∷ []
trimmed_kept [] b e = ap (λ t. if t && true then [] else b ∷ []) e
trimmed_kept (x ∷ line) b e =
    ap (λ t. if t then [] else x ∷ trimmed (line ++ b ∷ [])) (not_all (x ∷ line) b e)
    ∙ ap (λ t. x ∷ t) (trimmed_kept line b e)
