-- Counting years and months from 1970 on leads to the day that jiff tells.
use Rattle.std.proofs.Common.{◌≡◌, ℕ, zero, suc, ◌+◌, ◌-◌, ◌*◌, ◌/◌, ◌%◌, ◌<◌, ◌≤◌, ltb, refl, sym, ap, ◌∙◌, subst, ⊎_elim, arith, ℤ, pos, negsuc, ◌<ℤ◌, unsigned_abs}
use Rattle.std.proofs.lemmas.Bool.{cases_lt, cond-true, cond-false, lt-ltb, le-ltb}
use borrow.Author.Differences.{up, down}
use Rattle.jiff_core.specs.Calendar.{days_of_months, day_of_year, day_count, days_from_civil, IsCivilDate}
use Rattle.jiff_core.specs.Calendar as jiff
use Rattle.jiff_core.proofs.SignedLemmas.{signed_arith}
use Rattle.jiff_core.proofs.CalendarLemmas.{day_count-epoch, days_from_civil-day_count, days_of_months_more, days_of_months_mono, days_of_months-zero, day_of_year_bound, days_in_year_bounds, day_count-day_of_year, day_count-next_year, day_count-later_year, day_count-lt_year}
use Rattle.jiff_core.specs.declared.civil.datetime.DateTime.{DateTime}
use Rattle.jiff_core.specs.Date.{epoch_day}
use Rattle.jiff_core.specs.Time.{time_seconds}
use Rattle.jiff_core.specs.DateTime.{civil_nanos}
use Rattle.jiff_core.proofs.DateTimeLemmas.{civil_nanos-parts, time_nanos_bound}
use Rattle.received_line.specs.Received.{Day, days_in_year, days_in_month, in_months, in_years, day_of}

-- the two calendars have the same months
same_month : (y m : ℕ) → m < 12 → jiff.days_in_month (pos y) (m + 1) ≡ days_in_month y m
same_month y zero h = refl
same_month y (suc zero) h = refl
same_month y (suc (suc zero)) h = refl
same_month y (suc (suc (suc zero))) h = refl
same_month y (suc (suc (suc (suc zero)))) h = refl
same_month y (suc (suc (suc (suc (suc zero))))) h = refl
same_month y (suc (suc (suc (suc (suc (suc zero)))))) h = refl
same_month y (suc (suc (suc (suc (suc (suc (suc zero))))))) h = refl
same_month y (suc (suc (suc (suc (suc (suc (suc (suc zero)))))))) h = refl
same_month y (suc (suc (suc (suc (suc (suc (suc (suc (suc zero))))))))) h = refl
same_month y (suc (suc (suc (suc (suc (suc (suc (suc (suc (suc zero)))))))))) h = refl
same_month y (suc (suc (suc (suc (suc (suc (suc (suc (suc (suc (suc zero))))))))))) h = refl
same_month y (suc (suc (suc (suc (suc (suc (suc (suc (suc (suc (suc (suc m)))))))))))) h = absurd (omega arith)

-- the days before a month, and before a year
abbrev before_month : ℕ → ℕ → ℕ
before_month y m = days_of_months (pos y) m

abbrev before_year : ℕ → ℕ
before_year y = day_count (pos y) 1 1

month_more : (y m : ℕ) → m < 12 → before_month y (m + 1) ≡ before_month y m + days_in_month y m
month_more y m h =
    let back : m + 1 - 1 ≡ m = omega arith in
    days_of_months_more (pos y) (m + 1) (omega arith) ∙ ap (λ k. before_month y k + jiff.days_in_month (pos y) (m + 1)) back ∙ ap (λ n. before_month y m + n) (same_month y m h)

year_more : (y : ℕ) → before_year (y + 1) ≡ before_year y + days_in_year y
year_more y = day_count-next_year (pos y) (pos (y + 1)) (omega (arith, signed_arith)) refl

later_year : (y later : ℕ) → y < later → before_year y + days_in_year y ≤ before_year later
later_year y later h = day_count-later_year (pos y) (pos later) (omega (arith, signed_arith)) (omega (arith, signed_arith))

same_day : (y m n : ℕ) (a b : ℕ) → m ≡ n → a ≡ b → ◌≡◌ {A = Day} (record { year = y; month = m; day = a }) (record { year = y; month = n; day = b })
same_day y m n a b e f = λ i. record { year = y; month = e i; day = f i }

-- Counting from a month on leads to a later month of the year, if the days before both agree.
in_months-at : (most y from days m rest : ℕ) → from ≤ m → m ≤ from + most → m < 12 → before_month y from + days ≡ before_month y m + rest → rest < days_in_month y m → in_months most y from days ≡ record { year = y; month = m; day = rest }
unfolding in_months
in_months-at zero y from days m rest low high last e short =
    let here : from ≡ m = omega arith in
    let e2 : before_month y m + days ≡ before_month y m + rest = subst (λ k. before_month y k + days ≡ before_month y m + rest) here e in
    same_day y from m days rest here (omega arith)
in_months-at (suc most) y from days m rest low high last e short = ⊎_elim
    (λ lt.
    let here : from ≡ m = ⊎_elim (λ before. let more = month_more y from (omega arith) in let mono = days_of_months_mono (pos y) (from + 1) m (omega arith) in absurd (omega arith)) (λ behind. omega arith) (cases_lt from m) in
    let e2 : before_month y m + days ≡ before_month y m + rest = subst (λ k. before_month y k + days ≡ before_month y m + rest) here e in
    cond-true (ltb days (days_in_month y from)) (record { year = y; month = from; day = days }) (in_months most y (from + 1) (days - days_in_month y from)) (lt-ltb days (days_in_month y from) lt)
    ∙ same_day y from m days rest here (omega arith))
    (λ ge.
    let before : from < m = ⊎_elim (λ lt. lt) (λ behind.
    let here : m ≡ from = omega arith in
    let e2 : before_month y from + days ≡ before_month y from + rest = subst (λ k. before_month y from + days ≡ before_month y k + rest) here e in
    let short2 : rest < days_in_month y from = subst (λ k. rest < days_in_month y k) here short in
    absurd (omega arith)) (cases_lt from m) in
    let more = month_more y from (omega arith) in
    cond-false (ltb days (days_in_month y from)) (record { year = y; month = from; day = days }) (in_months most y (from + 1) (days - days_in_month y from)) (le-ltb days (days_in_month y from) ge)
    ∙ in_months-at most y (from + 1) (days - days_in_month y from) m rest (omega arith) (omega arith) last (omega arith) short)
    (cases_lt days (days_in_month y from))

-- and from a year on to a later one
in_years-at : (most from days y rest : ℕ) → from ≤ y → days ≤ most → before_year from + days ≡ before_year y + rest → rest < days_in_year y → in_years most from days ≡ in_months 11 y 0 rest
unfolding in_years
in_years-at zero from days y rest low enough e short =
    let least = (days_in_year_bounds (pos from)).1 in
    let here : from ≡ y = ⊎_elim (λ before. let later = later_year from y before in absurd (omega arith)) (λ behind. omega arith) (cases_lt from y) in
    let e2 : before_year y + days ≡ before_year y + rest = subst (λ k. before_year k + days ≡ before_year y + rest) here e in
    let days_are : days ≡ rest = omega arith in
    ap (λ k. in_months 11 k 0 days) here ∙ ap (in_months 11 y 0) days_are
in_years-at (suc most) from days y rest low enough e short =
    let least : 365 ≤ days_in_year from = (days_in_year_bounds (pos from)).1 in
    ⊎_elim
    (λ lt.
    let here : from ≡ y = ⊎_elim (λ before. let later = later_year from y before in absurd (omega arith)) (λ behind. omega arith) (cases_lt from y) in
    let e2 : before_year y + days ≡ before_year y + rest = subst (λ k. before_year k + days ≡ before_year y + rest) here e in
    let days_are : days ≡ rest = omega arith in
    cond-true (ltb days (days_in_year from)) (in_months 11 from 0 days) (in_years most (from + 1) (days - days_in_year from)) (lt-ltb days (days_in_year from) lt)
    ∙ ap (λ k. in_months 11 k 0 days) here ∙ ap (in_months 11 y 0) days_are)
    (λ ge.
    let before : from < y = ⊎_elim (λ lt. lt) (λ behind.
    let here : y ≡ from = omega arith in
    let e2 : before_year from + days ≡ before_year from + rest = subst (λ k. before_year from + days ≡ before_year k + rest) here e in
    let short2 : rest < days_in_year from = subst (λ k. rest < days_in_year k) here short in
    absurd (omega arith)) (cases_lt from y) in
    let more = year_more from in
    cond-false (ltb days (days_in_year from)) (in_months 11 from 0 days) (in_years most (from + 1) (days - days_in_year from)) (le-ltb days (days_in_year from) ge)
    ∙ in_years-at most (from + 1) (days - days_in_year from) y rest (omega arith) (omega arith) (omega arith) short)
    (cases_lt days (days_in_year from))

-- the day of a date of jiff's that lies so many days after 1 January 1970
day_from_counts : (days n m d : ℕ) → IsCivilDate (pos n) m d → 1970 ≤ n → days + 4_371_953 ≡ day_count (pos n) m d → in_years days 1970 days ≡ record { year = n; month = m - 1; day = d - 1 }
day_from_counts days n m d h since e =
    let rest : ℕ = before_month n (m - 1) + (d - 1) in
    let month_low : 1 ≤ m = h.1.0 in
    let month_high : m ≤ 12 = h.1.1 in
    let day_low : 1 ≤ d = h.2.0 in
    let day_high : d ≤ jiff.days_in_month (pos n) m = h.2.1 in
    let back : m - 1 + 1 ≡ m = omega arith in
    let of_month : d ≤ days_in_month n (m - 1) = subst (λ k. d ≤ k) (ap (jiff.days_in_month (pos n)) (sym back) ∙ same_month n (m - 1) (omega arith)) day_high in
    let of_year : before_month n (m - 1) + d ≤ days_in_year n = day_of_year_bound (pos n) m d h in
    let placed : day_count (pos n) m d + 1 ≡ before_year n + (before_month n (m - 1) + d) = day_count-day_of_year (pos n) m d day_low in
    let epoch : before_year 1970 ≡ 4_371_953 = day_count-epoch in
    let none : before_month n 0 ≡ 0 = days_of_months-zero (pos n) in
    in_years-at days 1970 days n rest since (omega arith) (omega arith) (omega arith)
    ∙ in_months-at 11 n 0 rest (m - 1) (d - 1) (omega arith) (omega arith) (omega arith) (omega arith) (omega arith)

-- no date before 1970 is so many days after 1 January 1970
not_before : (days : ℕ) (y : ℤ) (m d : ℕ) → IsCivilDate y m d → days + 4_371_953 ≡ day_count y m d → y <ℤ pos 1970 → ⊥
not_before days y m d h e lt =
    let earlier = day_count-lt_year y m d (pos 1970) 1 1 h (omega arith) lt in
    let epoch = day_count-epoch in
    omega arith

count_of : (days : ℕ) (y : ℤ) (m d : ℕ) → days_from_civil y m d ≡ pos days → days + 4_371_953 ≡ day_count y m d
count_of days y m d e =
    let counted = days_from_civil-day_count y m d in
    let ups : up (days_from_civil y m d) ≡ days = ap up e in
    let downs : down (days_from_civil y m d) ≡ 0 = ap down e in
    omega arith

pub day_from_civil : (days : ℕ) (y : ℤ) (m d : ℕ) → IsCivilDate y m d → days_from_civil y m d ≡ pos days → in_years days 1970 days ≡ record { year = unsigned_abs y; month = m - 1; day = d - 1 }
day_from_civil days (negsuc a) m d h e = absurd (not_before days (negsuc a) m d h (count_of days (negsuc a) m d e) (omega (arith, signed_arith)))
day_from_civil days (pos n) m d h e = ⊎_elim
    (λ lt. absurd (not_before days (pos n) m d h (count_of days (pos n) m d e) (omega (arith, signed_arith))))
    (λ since. day_from_counts days n m d h since (count_of days (pos n) m d e))
    (cases_lt n 1970)

-- What jiff shows of an instant in UTC.
pub record ShowsMoment (moment : ℕ) (dt : DateTime) : Type 0 where
  pub day : epoch_day dt.date ≡ pos (moment / 86400)
  pub hour : dt.time.hour ≡ moment % 86400 / 3600
  pub minute : dt.time.minute ≡ moment % 3600 / 60
  pub second : dt.time.second ≡ moment % 60

-- whole seconds of a day count, and the rest
in_seconds : (moment : ℕ) (dt : DateTime) → civil_nanos dt ≡ pos (moment * 1_000_000_000) → (epoch_day dt.date ≡ pos (moment / 86400)) × (time_seconds dt.time ≡ moment % 86400)
in_seconds moment dt e = (omega (arith, signed_arith, civil_nanos-parts dt, time_nanos_bound dt.time), omega (arith, signed_arith, civil_nanos-parts dt, time_nanos_bound dt.time))

pub shows_moment : (moment : ℕ) (dt : DateTime) → civil_nanos dt ≡ pos (moment * 1_000_000_000) → ShowsMoment moment dt
shows_moment moment dt e =
    let parts = in_seconds moment dt e in
    let seconds : dt.time.hour * 3600 + dt.time.minute * 60 + dt.time.second ≡ moment % 86400 = parts.1 in
    record {
      day = parts.0;
      hour = omega arith;
      minute = omega arith;
      second = omega arith;
    }

pub day_is : (moment : ℕ) (dt : DateTime) → ShowsMoment moment dt → day_of moment ≡ record { year = unsigned_abs dt.date.year; month = dt.date.month - 1; day = dt.date.day - 1 }
day_is moment dt h = day_from_civil (moment / 86400) dt.date.year dt.date.month dt.date.day (dt.date.year_in, dt.date.month_in, dt.date.day_in) h.day
