-- Texts that are parted at a byte.
use Rattle.std.proofs.Common.{◌≡◌, ◌≢◌, ℕ, ◌≤◌, List, [], ◌∷◌, ◌++◌, Bool, true, false, cond, ltb, eqb, refl, sym, ap, ◌∙◌, subst, arith, append_assoc}
use Rattle.std.specs.Prelude.{◌||◌}
use Rattle.std.specs.List.{AllByRecursion}
use Rattle.std.proofs.lemmas.Bool.{cond_both, ltb-false}
use Rattle.std.proofs.lemmas.List.{append_cancel_right}
use Rattle.mail_bytes.specs.Decimal.{digits, IsDigit}
use Rattle.mail_bytes.proofs.Digits.{digits_injective, digits_only}
use Rattle.send_log.specs.Lines.{shown, shown_byte}

abbrev pub Lacks : ℕ → List ℕ → Type 0
Lacks c text = AllByRecursion (λ b. b ≢ c) text

heads : (a b : ℕ) (x y : List ℕ) → ◌≡◌ {A = List ℕ} (a ∷ x) (b ∷ y) → a ≡ b
heads a b x y e = cc

tails : (a b : ℕ) (x y : List ℕ) → ◌≡◌ {A = List ℕ} (a ∷ x) (b ∷ y) → x ≡ y
tails a b x y e = cc

both : (a b : ℕ) (x y : List ℕ) → a ≡ b → x ≡ y → ◌≡◌ {A = List ℕ} (a ∷ x) (b ∷ y)
both a b x y e f = cc

pub cut_at : (c : ℕ) (x y r s : List ℕ) → Lacks c x → Lacks c y → x ++ c ∷ r ≡ y ++ c ∷ s → (x ≡ y) × (r ≡ s)
cut_at c [] [] r s hx hy e = (refl, tails c c r s e)
cut_at c [] (b ∷ y) r s hx hy e = absurd (hy.0 (sym (heads c b r (y ++ c ∷ s) e)))
cut_at c (b ∷ x) [] r s hx hy e = absurd (hx.0 (heads b c (x ++ c ∷ r) s e))
cut_at c (b ∷ x) (d ∷ y) r s hx hy e =
    let w = cut_at c x y r s hx.1 hy.1 (tails b d (x ++ c ∷ r) (y ++ c ∷ s) e) in
    (both b d x y (heads b d (x ++ c ∷ r) (y ++ c ∷ s) e) w.0, w.1)

lacks_append : (c : ℕ) (x y : List ℕ) → Lacks c x → Lacks c y → Lacks c (x ++ y)
lacks_append c [] y hx hy = hy
lacks_append c (b ∷ x) y hx hy = (hx.0, lacks_append c x y hx.1 hy)

-- Numbers.

digits_lack : (c : ℕ) → ¬ (IsDigit c) → (text : List ℕ) → AllByRecursion IsDigit text → Lacks c text
digits_lack c isnt [] h = tt
digits_lack c isnt (b ∷ text) h = (λ e. isnt (subst IsDigit e h.0), digits_lack c isnt text h.1)

-- a number, and a byte after it that is no digit
pub number_at : (c : ℕ) → ¬ (IsDigit c) → (m n : ℕ) (r s : List ℕ) → digits m ++ c ∷ r ≡ digits n ++ c ∷ s → (m ≡ n) × (r ≡ s)
number_at c isnt m n r s e =
    let w = cut_at c (digits m) (digits n) r s (digits_lack c isnt (digits m) (digits_only m)) (digits_lack c isnt (digits n) (digits_only n)) e in
    (digits_injective m n w.0, w.1)

-- Addresses and reports.

or_left : (p q : Bool) → (p || q) ≡ false → p ≡ false
or_left true q e = e
or_left false q e = refl

or_right : (p q : Bool) → (p || q) ≡ false → q ≡ false
or_right true q e = absurd (cc)
or_right false q e = e

abbrev pub IsShown : ℕ → Type 0
IsShown b = (33 ≤ b) × (b ≤ 126)

as_it_is : (b : ℕ) → ((ltb b 33 || ltb 126 b) || eqb b 37) ≡ false → IsShown b
as_it_is b e =
    let ends = or_left (ltb b 33 || ltb 126 b) (eqb b 37) e in
    (ltb-false b 33 (or_left (ltb b 33) (ltb 126 b) ends), ltb-false 126 b (or_right (ltb b 33) (ltb 126 b) ends))

pub byte_is_shown : (b : ℕ) → IsShown (shown_byte b)
byte_is_shown b =
    cond_both (eqb b 10) 47 (cond ((ltb b 33 || ltb 126 b) || eqb b 37) 95 b) IsShown (λ _. (omega arith, omega arith))
    (λ _. cond_both ((ltb b 33 || ltb 126 b) || eqb b 37) 95 b IsShown (λ _. (omega arith, omega arith)) (as_it_is b))

pub text_is_shown : (text : List ℕ) → AllByRecursion IsShown (shown text)
text_is_shown [] = tt
text_is_shown (b ∷ text) = (byte_is_shown b, text_is_shown text)

shown_lack : (c : ℕ) → ¬ (IsShown c) → (text : List ℕ) → AllByRecursion IsShown text → Lacks c text
shown_lack c isnt [] h = tt
shown_lack c isnt (b ∷ text) h = (λ e. isnt (subst IsShown e h.0), shown_lack c isnt text h.1)

lacks_in_shown : (c : ℕ) → ¬ (IsShown c) → (text : List ℕ) → Lacks c (shown text)
lacks_in_shown c isnt text = shown_lack c isnt (shown text) (text_is_shown text)

-- the end of a line, after what is shown
pub shown_at_end : (s t : List ℕ) → shown s ++ 10 ∷ [] ≡ shown t ++ 10 ∷ [] → shown s ≡ shown t
shown_at_end s t e = append_cancel_right (shown s) (shown t) (10 ∷ []) e

-- what is shown before `>` and a space
pub shown_in_brackets : (s t r q : List ℕ) → shown s ++ 62 ∷ 32 ∷ r ≡ shown t ++ 62 ∷ 32 ∷ q → (shown s ≡ shown t) × (r ≡ q)
shown_in_brackets s t r q e =
    let ended : Lacks 32 (62 ∷ []) = (λ f. absurd (omega arith), tt) in
    let no_space : ¬ (IsShown 32) = λ h. let low = h.0 in absurd (omega arith) in
    let w = cut_at 32 (shown s ++ 62 ∷ []) (shown t ++ 62 ∷ []) r q
    (lacks_append 32 (shown s) (62 ∷ []) (lacks_in_shown 32 no_space s) ended)
    (lacks_append 32 (shown t) (62 ∷ []) (lacks_in_shown 32 no_space t) ended)
    (append_assoc (shown s) (62 ∷ []) (32 ∷ r) ∙ e ∙ sym (append_assoc (shown t) (62 ∷ []) (32 ∷ q))) in
    (append_cancel_right (shown s) (shown t) (62 ∷ []) w.0, w.1)
