-- The numbers of a todo text: what is read is one, and the byte that isn't read is one that no number has there.
use Rattle.std.proofs.Common.{◌≡◌, ◌≢◌, ◌⊎◌, ◌&&◌, ℕ, ◌+◌, ◌-◌, ◌*◌, ◌^◌, ◌<◌, List, [], ◌∷◌, ◌++◌, length, get_or, take, Option, Some, None, Bool, true, false, refl, sym, ap, ◌∙◌, subst, inl, inr, ⊎_elim, arith, eqb, ltb, leb}
use Rattle.std.specs.Prelude.{if◌then◌else◌, ◌==◌, All, Result, Ok, Err}
use Rattle.std.specs.Char.{is_ascii_digit}
use Rattle.std.proofs.lemmas.List.{append-nil, append_assoc, length_push, take_all, take_at}
use Rattle.std.specs.List.{AllByRecursion}
use Rattle.std.proofs.lemmas.List.Elements.{All-push, All-nil, recursion_from_All}
use Rattle.std.proofs.lemmas.Bool.{eqb-true, ltb-true, ltb-false, leb-true, le-leb}
use Rattle.mail_bytes.specs.Decimal.{digits, value, IsDigit, IsNumber}
use Rattle.mail_bytes.proofs.Digits.{value_none, value_more, value_take, value-digits, digits-value, digits_zero, number-digits}
use Rattle.todo_pass.specs.declared.head.Digit.{Digit}
use Rattle.todo_pass.specs.declared.head.Digit.TheVariants.{More, Ended, Bad}
use Rattle.todo_pass.specs.declared.head.Number.{Number}
use Rattle.todo_pass.specs.Todo.{more_digit, digit_step, number_on, number_from}

-- these digits were read, and are that number so far
abbrev pub Seen : Option ℕ → List ℕ → Type 0
Seen None ds = ds ≡ []
Seen (Some n) ds = IsNumber ds × (value ds ≡ n) × (n < 2 ^ 32)

-- a digit
both : (a b : Bool) → (a && b) ≡ true → (a ≡ true) × (b ≡ true)
both true true e = (refl, refl)
both true false e = absurd (cc)
both false b e = absurd (cc)

digit_tells : (b : ℕ) → is_ascii_digit b ≡ true → IsDigit b
digit_tells b e = let t = both (leb 48 b) (leb b 57) e in (leb-true 48 b t.0, leb-true b 57 t.1)

digit_if : (b : ℕ) → IsDigit b → is_ascii_digit b ≡ true
digit_if b h = ap (λ t. t && leb b 57) (le-leb 48 b h.0) ∙ le-leb b 57 h.1

-- steps that are told apart
more_same : (a b : ℕ) → More a ≡ More b → a ≡ b
more_same a b e = cc

ended_same : (a b : ℕ) → Ended a ≡ Ended b → a ≡ b
ended_same a b e = cc

bad_more : (a : ℕ) → Bad ≡ More a → ⊥
bad_more a e = cc

more_bad : (a : ℕ) → More a ≡ Bad → ⊥
more_bad a e = cc

bad_ended : (a : ℕ) → Bad ≡ Ended a → ⊥
bad_ended a e = cc

ended_is_bad : (a : ℕ) → Ended a ≡ Bad → ⊥
ended_is_bad a e = cc

ended_more : (a b : ℕ) → Ended a ≡ More b → ⊥
ended_more a b e = cc

more_ended : (a b : ℕ) → More a ≡ Ended b → ⊥
more_ended a b e = cc

ended_bad : (n : ℕ) → digit_step (Some n) 0 ≡ Bad → ⊥
ended_bad n e = cc

ne_eqb_false : (n : ℕ) → eqb n 0 ≡ false → n ≢ 0
ne_eqb_false n e z = let yes : eqb n 0 ≡ true = ap (λ k. eqb k 0) z in absurd (cc)

-- one digit more
last_is : (ds : List ℕ) (b : ℕ) → get_or (ds ++ b ∷ []) (length ds) 0 ≡ b
last_is [] b = refl
last_is (d ∷ ds) b = last_is ds b

pub value_pushed : (ds : List ℕ) (b : ℕ) → value (ds ++ b ∷ []) ≡ value ds * 10 + (b - 48)
value_pushed ds b =
    let text : List ℕ = ds ++ b ∷ [] in
    let len = length_push ds b in
    ap value (sym (take_all (length ds + 1) text (omega arith)))
    ∙ value_more text (length ds) (omega arith)
    ∙ ap (λ t. value t * 10 + (get_or text (length ds) 0 - 48)) (take_at ds (b ∷ []) (length ds) refl)
    ∙ ap (λ c. value ds * 10 + (c - 48)) (last_is ds b)

picked : (t : Bool) (x y z : Digit) → (if t then x else y) ≡ z → ((t ≡ true) × (x ≡ z)) ⊎ ((t ≡ false) × (y ≡ z))
picked true x y z e = inl (refl, e)
picked false x y z e = inr (refl, e)

first_digit : (b : ℕ) → IsDigit b → b - 48 < 2 ^ 32 → Seen (Some (b - 48)) (b ∷ [])
first_digit b h small =
    let is : value (b ∷ []) ≡ b - 48 = value_pushed [] b ∙ ap (λ v. v * 10 + (b - 48)) value_none ∙ (omega arith) in
    (record { some = omega arith; only = All-push IsDigit [] b (All-nil IsDigit) h; no_zero = λ e. refl; fits = omega arith }, is, small)

-- a number that isn't 0 doesn't begin with 0
not_zero : (ds : List ℕ) (b : ℕ) → IsNumber ds → value ds ≢ 0 → get_or (ds ++ b ∷ []) 0 0 ≡ 48 → length (ds ++ b ∷ []) ≡ 1
not_zero [] b h far e = absurd (let some = h.some in omega arith)
not_zero (x ∷ []) b h far e =
    let is : value (x ∷ []) ≡ x - 48 = value_pushed [] x ∙ ap (λ v. v * 10 + (x - 48)) value_none ∙ (omega arith) in
    absurd (far (is ∙ (omega arith)))
not_zero (x ∷ y ∷ ds) b h far e = absurd (let one = h.no_zero e in omega arith)

next_digit : (ds : List ℕ) (n b : ℕ) → Seen (Some n) ds → n ≢ 0 → IsDigit b → n * 10 + (b - 48) < 2 ^ 32 → Seen (Some (n * 10 + (b - 48))) (ds ++ b ∷ [])
next_digit ds n b seen far h small =
    let is : value (ds ++ b ∷ []) ≡ n * 10 + (b - 48) = value_pushed ds b ∙ ap (λ v. v * 10 + (b - 48)) seen.1 in
    let len = length_push ds b in (
      record {
        some = omega arith;
        only = All-push IsDigit ds b seen.0.only h;
        no_zero = not_zero ds b seen.0 (λ e. far (sym seen.1 ∙ e));
        fits = omega arith;
      },
      is,
      small,
    )

more_is : (n b : ℕ) (ds : List ℕ) (next : ℕ) → Seen (Some n) ds → n ≢ 0 → more_digit n b ≡ More next → Seen (Some next) (ds ++ b ∷ [])
more_is n b ds next seen far e = ⊎_elim
    (λ w. let t = both (is_ascii_digit b) (ltb (n * 10 + (b - 48)) (2 ^ 32)) w.0 in
    let same : n * 10 + (b - 48) ≡ next = more_same _ _ w.1 in
    subst (λ k. Seen (Some k) (ds ++ b ∷ [])) same (next_digit ds n b seen far (digit_tells b t.0) (ltb-true (n * 10 + (b - 48)) (2 ^ 32) t.1)))
    (λ w. absurd (bad_more _ w.1))
    (picked (is_ascii_digit b && ltb (n * 10 + (b - 48)) (2 ^ 32)) (More (n * 10 + (b - 48))) Bad (More next) e)

seen_more : (v : Option ℕ) (ds : List ℕ) (b next : ℕ) → Seen v ds → digit_step v b ≡ More next → Seen (Some next) (ds ++ b ∷ [])
seen_more None ds b next seen e = ⊎_elim
    (λ w. let h = digit_tells b w.0 in
    let same : b - 48 ≡ next = more_same _ _ w.1 in
    let high = h.1 in
    subst (λ d. Seen (Some next) (d ++ b ∷ [])) (sym seen) (subst (λ k. Seen (Some k) (b ∷ [])) same (first_digit b h (omega arith))))
    (λ w. absurd (bad_more _ w.1))
    (picked (is_ascii_digit b) (More (b - 48)) Bad (More next) e)
seen_more (Some n) ds b next seen e = ⊎_elim
    (λ w. absurd (ended_more _ _ w.1))
    (λ w. ⊎_elim
    (λ u. absurd (bad_more _ u.1))
    (λ u. more_is n b ds next seen (λ z. absurd (let far = ne_eqb_false n u.0 in far z)) u.1)
    (picked (eqb n 0) Bad (more_digit n b) (More next) w.1))
    (picked (eqb b 0) (Ended n) (if n == 0 then Bad else more_digit n b) (More next) e)

seen_ended : (v : Option ℕ) (ds : List ℕ) (b last : ℕ) → Seen v ds → digit_step v b ≡ Ended last → (b ≡ 0) × (ds ≡ digits last) × (last < 2 ^ 32)
seen_ended None ds b last seen e = ⊎_elim (λ w. absurd (more_ended _ _ w.1)) (λ w. absurd (bad_ended _ w.1)) (picked (is_ascii_digit b) (More (b - 48)) Bad (Ended last) e)
seen_ended (Some n) ds b last seen e = ⊎_elim
    (λ w. let same : n ≡ last = ended_same _ _ w.1 in
    (eqb-true b 0 w.0, sym (digits-value ds seen.0) ∙ ap digits (seen.1 ∙ same), subst (λ k. k < 2 ^ 32) same seen.2))
    (λ w. ⊎_elim
    (λ u. absurd (bad_ended _ u.1))
    (λ u. ⊎_elim (λ t. absurd (more_ended _ _ t.1)) (λ t. absurd (bad_ended _ t.1))
    (picked (is_ascii_digit b && ltb (n * 10 + (b - 48)) (2 ^ 32)) (More (n * 10 + (b - 48))) Bad (Ended last) u.1))
    (picked (eqb n 0) Bad (more_digit n b) (Ended last) w.1))
    (picked (eqb b 0) (Ended n) (if n == 0 then Bad else more_digit n b) (Ended last) e)

-- Reading

-- a byte that isn't read, or none
abbrev pub StopsAt : Option ℕ → List ℕ → Type 0
StopsAt w [] = Unit {0}
StopsAt w (b ∷ rest) = digit_step w b ≡ Bad

-- after these digits, what is read of the bytes from this place on
abbrev pub Outcome : List ℕ → ℕ → List ℕ → Result Number ℕ → Type 0
Outcome ds at bs (Ok it) = (more : List ℕ) × (rest : List ℕ) × (bs ≡ more ++ 0 ∷ rest) × (ds ++ more ≡ digits it.value) × (it.value < 2 ^ 32) × (it.next ≡ (at + length more) + 1)
Outcome ds at bs (Err place) = (more : List ℕ) × (rest : List ℕ) × (w : Option ℕ) × (bs ≡ more ++ rest) × Seen w (ds ++ more) × StopsAt w rest × (place ≡ at + length more)

extend : (ds : List ℕ) (b at : ℕ) (bs : List ℕ) (o : Result Number ℕ) → Outcome (ds ++ b ∷ []) (at + 1) bs o → Outcome ds at (b ∷ bs) o
extend ds b at bs (Ok it) h =
    (b ∷ h.0, h.1, ap (λ t. b ∷ t) h.2, sym (append_assoc ds (b ∷ []) h.0) ∙ h.3, h.4, h.5 ∙ (omega arith))
extend ds b at bs (Err place) h =
    (b ∷ h.0, h.1, h.2, ap (λ t. b ∷ t) h.3, subst (Seen h.2) (append_assoc ds (b ∷ []) h.0) h.4, h.5, h.6 ∙ (omega arith))

by_digit : (v : Option ℕ) (ds : List ℕ) (at b : ℕ) (bs : List ℕ) → Seen v ds
    → ((w : Option ℕ) (es : List ℕ) → Seen w es → Outcome es (at + 1) bs (number_from w (at + 1) bs))
    → (s : Digit) → digit_step v b ≡ s → Outcome ds at (b ∷ bs) (number_on s at (λ next. number_from next (at + 1) bs))
by_digit v ds at b bs seen rest (More n) e =
    extend ds b at bs (number_from (Some n) (at + 1) bs) (rest (Some n) (ds ++ b ∷ []) (seen_more v ds b n seen e))
by_digit v ds at b bs seen rest (Ended n) e =
    let h = seen_ended v ds b n seen e in
    ([], bs, ap (λ c. c ∷ bs) h.0, append-nil ds ∙ h.1, h.2, (omega arith))
by_digit v ds at b bs seen rest Bad e = ([], b ∷ bs, v, refl, subst (Seen v) (sym (append-nil ds)) seen, e, (omega arith))

pub reads : (v : Option ℕ) (ds : List ℕ) (at : ℕ) (bs : List ℕ) → Seen v ds → Outcome ds at bs (number_from v at bs)
reads v ds at [] seen = ([], [], v, refl, subst (Seen v) (sym (append-nil ds)) seen, tt, (omega arith))
reads v ds at (b ∷ bs) seen = by_digit v ds at b bs seen (λ w es more. reads w es (at + 1) bs more) (digit_step v b) refl

-- A byte that isn't read

after_front : (D ds : List ℕ) (tail : List ℕ) (b : ℕ) (others : List ℕ) → AllByRecursion IsDigit ds → D ++ 0 ∷ tail ≡ ds ++ b ∷ others
    → ((D ≡ ds) × (b ≡ 0)) ⊎ ((more : List ℕ) × (D ≡ ds ++ b ∷ more))
after_front [] [] tail b others h e = let zero : 0 ≡ b = cc in inl (refl, sym zero)
after_front (x ∷ D) [] tail b others h e = let same : x ≡ b = cc in inr (D, ap (λ c. c ∷ D) same)
after_front [] (y ∷ ds) tail b others h e = let zero : 0 ≡ y = cc in let low = h.0.0 in absurd (omega arith)
after_front (x ∷ D) (y ∷ ds) tail b others h e =
    let head : x ≡ y = cc in
    let rest : D ++ 0 ∷ tail ≡ ds ++ b ∷ others = cc in
    ⊎_elim
    (λ w. inl (ap (λ c. c ∷ D) head ∙ ap (λ t. y ∷ t) w.0, w.1))
    (λ w. inr (w.0, ap (λ c. c ∷ D) head ∙ ap (λ t. y ∷ t) w.1))
    (after_front D ds tail b others h.1 rest)

seen_digits : (w : Option ℕ) (ds : List ℕ) → Seen w ds → AllByRecursion IsDigit ds
seen_digits None ds seen = subst (AllByRecursion IsDigit) (sym seen) tt
seen_digits (Some n) ds seen = recursion_from_All IsDigit ds seen.0.only

digit_at : (ds : List ℕ) (b : ℕ) (more : List ℕ) → AllByRecursion IsDigit (ds ++ b ∷ more) → IsDigit b
digit_at [] b more h = h.0
digit_at (d ∷ ds) b more h = digit_at ds b more h.1

-- it would end the number though none may end
not_ended : (w : Option ℕ) (ds : List ℕ) (b m : ℕ) → Seen w ds → digit_step w b ≡ Bad → digits m ≡ ds → b ≡ 0 → IsNumber (digits m) → ⊥
not_ended None ds b m seen bad same zero h = let some = subst (λ t. 0 < length t) (same ∙ seen) h.some in absurd (omega arith)
not_ended (Some n) ds b m seen bad same zero h = let e = subst (λ c. digit_step (Some n) c ≡ Bad) zero bad in absurd (ended_bad n e)

-- it would be a digit that none may have there
not_more : (w : Option ℕ) (ds : List ℕ) (b m : ℕ) (more : List ℕ) → Seen w ds → digit_step w b ≡ Bad → digits m ≡ ds ++ b ∷ more → m < 2 ^ 32 → IsNumber (digits m) → ⊥
not_more None ds b m more seen bad is small h =
    let digit = digit_at ds b more (recursion_from_All IsDigit (ds ++ b ∷ more) (subst (All IsDigit) is h.only)) in
    absurd (more_bad _ (sym (ap (λ t. if t then More (b - 48) else Bad) (digit_if b digit)) ∙ bad))
not_more (Some n) ds b m more seen bad is small h =
    let digit = digit_at ds b more (recursion_from_All IsDigit (ds ++ b ∷ more) (subst (All IsDigit) is h.only)) in
    ⊎_elim
    (λ w. absurd (ended_is_bad _ w.1))
    (λ w. ⊎_elim
    (λ u. let none : ds ≡ digits 0 = sym (digits-value ds seen.0) ∙ ap digits (seen.1 ∙ eqb-true n 0 u.0) in
    let start : digits m ≡ 48 ∷ b ∷ more = is ∙ ap (λ t. t ++ b ∷ more) (none ∙ digits_zero 0 refl) in
    let one = subst (λ t. get_or t 0 0 ≡ 48 → length t ≡ 1) start h.no_zero in
    let len = one refl in
    absurd (omega arith))
    (λ u. ⊎_elim
    (λ t. absurd (more_bad _ t.1))
    (λ t. let high : ltb (n * 10 + (b - 48)) (2 ^ 32) ≡ false = sym (ap (λ d. d && ltb (n * 10 + (b - 48)) (2 ^ 32)) (digit_if b digit)) ∙ t.0 in
    let over = ltb-false (n * 10 + (b - 48)) (2 ^ 32) high in
    let front : take (length ds + 1) (digits m) ≡ ds ++ b ∷ [] =
    ap (take (length ds + 1)) (is ∙ sym (append_assoc ds (b ∷ []) more)) ∙ take_at (ds ++ b ∷ []) more (length ds + 1) (length_push ds b) in
    let most = value_take (digits m) (length ds + 1) in
    let v : value (take (length ds + 1) (digits m)) ≡ n * 10 + (b - 48) = ap value front ∙ value_pushed ds b ∙ ap (λ x. x * 10 + (b - 48)) seen.1 in
    let whole = value-digits m in
    absurd (omega arith))
    (picked (is_ascii_digit b && ltb (n * 10 + (b - 48)) (2 ^ 32)) (More (n * 10 + (b - 48))) Bad Bad u.1))
    (picked (eqb n 0) Bad (more_digit n b) Bad w.1))
    (picked (eqb b 0) (Ended n) (if n == 0 then Bad else more_digit n b) Bad bad)

-- no number has it there
pub no_number : (w : Option ℕ) (ds : List ℕ) (b m : ℕ) (tail others : List ℕ) → Seen w ds → digit_step w b ≡ Bad → m < 2 ^ 32
    → digits m ++ 0 ∷ tail ≡ ds ++ b ∷ others → ⊥
no_number w ds b m tail others seen bad small e =
    let h = number-digits m (omega arith) in
    ⊎_elim
    (λ c. not_ended w ds b m seen bad c.0 c.1 h)
    (λ c. not_more w ds b m c.0 seen bad c.1 small h)
    (after_front (digits m) ds tail b others (seen_digits w ds seen) e)
