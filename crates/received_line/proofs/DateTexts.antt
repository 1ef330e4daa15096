-- The parts of a date, written one after the other.
use Rattle.std.proofs.Common.{◌≡◌, ℕ, ◌+◌, ◌-◌, ◌/◌, ◌%◌, ◌<◌, ◌≤◌, List, [], ◌∷◌, ◌++◌, sym, ap, ◌∙◌, arith, ltb, codes}
use Rattle.std.specs.Prelude.{if◌then◌else◌, Result, Ok, Err, is_ok, OnOk}
use Rattle.std.proofs.lemmas.Bool.{cond-true, lt-ltb}
use Rattle.std.proofs.lemmas.List.{append_assoc}
use Rattle.mail_bytes.specs.Decimal.{digits}
use Rattle.received_line.specs.declared.line.Invoked.{Invoked}
use Rattle.received_line.specs.Received.{Day, day_of, month_name, two, four, date_text, received_text, invoked_text}

pub four_is : (year : ℕ) → year < 10000 → two (year / 100) ++ two (year % 100) ≡ four year
four_is year h = sym (cond-true (ltb year 10000) (two (year / 100) ++ two (year % 100)) (digits year) (lt-ltb year 10000 h))

-- the day, one piece after the other
pub day_written : (old a b c d e f : List ℕ) (day : ℕ) (name : List ℕ) (year : ℕ) → year < 10000
    → a ≡ old ++ digits day → b ≡ a ++ 32 ∷ [] → c ≡ b ++ name → d ≡ c ++ 32 ∷ [] → e ≡ d ++ two (year / 100) → f ≡ e ++ two (year % 100)
    → f ≡ old ++ (digits day ++ (32 ∷ (name ++ (32 ∷ four year))))
day_written old a b c d e f day name year h ea eb ec ed ee ef =
    let upto_name : c ≡ old ++ (digits day ++ (32 ∷ name)) =
    ec ∙ ap (λ t. t ++ name) (eb ∙ ap (λ t. t ++ 32 ∷ []) ea) ∙ append_assoc (old ++ digits day) (32 ∷ []) name ∙ append_assoc old (digits day) (32 ∷ name) in
    let year_behind : f ≡ c ++ (32 ∷ four year) =
    ef ∙ ap (λ t. t ++ two (year % 100)) (ee ∙ ap (λ t. t ++ two (year / 100)) ed)
    ∙ append_assoc (c ++ 32 ∷ []) (two (year / 100)) (two (year % 100))
    ∙ ap (λ t. (c ++ 32 ∷ []) ++ t) (four_is year h)
    ∙ append_assoc c (32 ∷ []) (four year) in
    year_behind ∙ ap (λ t. t ++ (32 ∷ four year)) upto_name
    ∙ append_assoc old (digits day ++ (32 ∷ name)) (32 ∷ four year)
    ∙ ap (λ t. old ++ t) (append_assoc (digits day) (32 ∷ name) (32 ∷ four year))

-- the whole date
pub date_written : (moment : ℕ) (old a b : List ℕ) (year month day hour minute second : ℕ) → 1 ≤ day → day_of moment ≡ record { year = year; month = month; day = day - 1 }
    → hour ≡ moment % 86400 / 3600 → minute ≡ moment % 3600 / 60 → second ≡ moment % 60
    → a ≡ old ++ (digits day ++ (32 ∷ (month_name month ++ (32 ∷ four year))))
    → b ≡ a ++ (32 ∷ (two hour ++ (58 ∷ (two minute ++ (58 ∷ (two second ++ codes " -0000"))))))
    → b ≡ old ++ date_text moment
unfolding date_text
date_written moment old a b year month day hour minute second first of eh em es ea eb =
    let whole : Day → ℕ → ℕ → ℕ → List ℕ = λ d h m s. digits (d.day + 1) ++ (32 ∷ (month_name d.month ++ (32 ∷ (four d.year ++ (32 ∷ (two h ++ (58 ∷ (two m ++ (58 ∷ (two s ++ codes " -0000")))))))))) in
    let time : List ℕ = 32 ∷ (two hour ++ (58 ∷ (two minute ++ (58 ∷ (two second ++ codes " -0000"))))) in
    let back : day - 1 + 1 ≡ day = omega arith in
    eb ∙ ap (λ t. t ++ time) ea
    ∙ append_assoc old (digits day ++ (32 ∷ (month_name month ++ (32 ∷ four year)))) time
    ∙ ap (λ t. old ++ t) (append_assoc (digits day) (32 ∷ (month_name month ++ (32 ∷ four year))) time)
    ∙ ap (λ t. old ++ (digits day ++ (32 ∷ t))) (append_assoc (month_name month) (32 ∷ four year) time)
    ∙ ap (λ n. old ++ (digits n ++ (32 ∷ (month_name month ++ (32 ∷ (four year ++ time)))))) (sym back)
    ∙ ap (λ d. old ++ whole d hour minute second) (sym of)
    ∙ ap (λ h. old ++ whole (day_of moment) h minute second) eh
    ∙ ap (λ m. old ++ whole (day_of moment) (moment % 86400 / 3600) m second) em
    ∙ ap (λ s. old ++ whole (day_of moment) (moment % 86400 / 3600) (moment % 3600 / 60) s) es

-- what an extend leaves if it is Ok
pub on_ok_items : {T E : Type 0} (r : Result T E) (new old more : List ℕ) → new ≡ (if is_ok r then old ++ more else old) → OnOk r (new ≡ old ++ more)
on_ok_items (Ok x) new old more h = h
on_ok_items (Err e) new old more h = tt

regrouped : (a b c d e f g : List ℕ) → (((((a ++ b) ++ c) ++ d) ++ e) ++ f) ++ g ≡ a ++ (b ++ (c ++ (d ++ (e ++ (f ++ g)))))
regrouped a b c d e f g = simp append_assoc

-- the first line, one piece after the other
pub received_written : (pid : ℕ) (invoked : Invoked) (moment : ℕ) (a b c d e f g : List ℕ) → a ≡ codes "Received: (qmail "
    → b ≡ a ++ digits pid → c ≡ b ++ codes " invoked " → d ≡ c ++ invoked_text invoked → e ≡ d ++ codes "); " → f ≡ e ++ date_text moment → g ≡ f ++ 10 ∷ []
    → g ≡ received_text pid invoked moment
unfolding received_text
received_written pid invoked moment a b c d e f g ea eb ec ed ee ef eg =
    let upto_by : d ≡ ((codes "Received: (qmail " ++ digits pid) ++ codes " invoked ") ++ invoked_text invoked = ed ∙ ap (λ t. t ++ invoked_text invoked) (ec ∙ ap (λ t. t ++ codes " invoked ") (eb ∙ ap (λ t. t ++ digits pid) ea)) in
    eg ∙ ap (λ t. t ++ 10 ∷ []) (ef ∙ ap (λ t. t ++ date_text moment) (ee ∙ ap (λ t. t ++ codes "); ") upto_by))
    ∙ regrouped (codes "Received: (qmail ") (digits pid) (codes " invoked ") (invoked_text invoked) (codes "); ") (date_text moment) (10 ∷ [])
