-- The first line of a message file, which tells who put it into the queue and when (RFC 822, section 4.3.2).
use Rattle.std.specs.Prelude.{ℕ, zero, suc, ◌+◌, ◌-◌, ◌/◌, ◌%◌, List, [], ◌∷◌, ◌++◌, Bool, ◌&&◌, ◌||◌, not, if◌then◌else◌, ◌==◌, nat_lt, codes}
use Rattle.mail_bytes.specs.Decimal.{digits}
use Rattle.received_line.specs.declared.line.Invoked.{Invoked}
use Rattle.received_line.specs.declared.line.Invoked.TheVariants.{Uid, Bounce}

-- the Gregorian calendar: every fourth year is a leap year, of the centuries only every fourth
abbrev pub is_leap : ℕ → Bool
is_leap year = (year % 4 == 0) && (not (year % 100 == 0) || (year % 400 == 0))

abbrev pub days_in_year : ℕ → ℕ
days_in_year year = if is_leap year then 366 else 365

-- of months counted from 0
abbrev pub days_in_month : ℕ → ℕ → ℕ
days_in_month year month =
    if month == 1 then (if is_leap year then 29 else 28)
    else (if (month == 3) || ((month == 5) || ((month == 8) || (month == 10))) then 30 else 31)

-- a day of the calendar, month and day counted from 0
pub record Day : Type 0 where
  pub year : ℕ
  pub month : ℕ
  pub day : ℕ

-- The day that lies so many days after the first of a month, at most `most` months later; in a year that is 11.
unfoldable pub in_months : ℕ → ℕ → ℕ → ℕ → Day
in_months zero year month days = record { year = year; month = month; day = days }
in_months (suc most) year month days =
    if nat_lt days (days_in_month year month) then record { year = year; month = month; day = days }
    else in_months most year (month + 1) (days - days_in_month year month)

-- The day that lies so many days after 1 January of a year, at most `most` years later; no more years pass than days.
unfoldable pub in_years : ℕ → ℕ → ℕ → Day
in_years zero year days = in_months 11 year 0 days
in_years (suc most) year days =
    if nat_lt days (days_in_year year) then in_months 11 year 0 days else in_years most (year + 1) (days - days_in_year year)

-- the day of a moment; 1 January 1970 was day 0
abbrev pub day_of : ℕ → Day
day_of moment = in_years (moment / 86400) 1970 (moment / 86400)

abbrev pub month_name : ℕ → List ℕ
month_name month =
    if month == 0 then codes "Jan" else (if month == 1 then codes "Feb" else (if month == 2 then codes "Mar"
    else (if month == 3 then codes "Apr" else (if month == 4 then codes "May" else (if month == 5 then codes "Jun"
    else (if month == 6 then codes "Jul" else (if month == 7 then codes "Aug" else (if month == 8 then codes "Sep"
    else (if month == 9 then codes "Oct" else (if month == 10 then codes "Nov" else codes "Dec"))))))))))

-- two digits
abbrev pub two : ℕ → List ℕ
two n = (48 + n / 10) ∷ (48 + n % 10) ∷ []

-- at least four digits
abbrev pub four : ℕ → List ℕ
four n = if nat_lt n 10000 then two (n / 100) ++ two (n % 100) else digits n

-- `D Mon YYYY HH:MM:SS -0000`, the day without padding
unfoldable pub date_text : ℕ → List ℕ
date_text moment =
    let d = day_of moment in
    digits (d.day + 1) ++ (32 ∷ (month_name d.month ++ (32 ∷ (four d.year ++ (32 ∷ (two (moment % 86400 / 3600) ++ (58 ∷ (two (moment % 3600 / 60) ++ (58 ∷ (two (moment % 60) ++ codes " -0000"))))))))))

-- by whom, or for what
abbrev pub invoked_text : Invoked → List ℕ
invoked_text (Uid uid) = codes "by uid " ++ digits uid
invoked_text Bounce = codes "for bounce"

-- `Received: (qmail PID invoked by uid UID); DATE`
unfoldable pub received_text : ℕ → Invoked → ℕ → List ℕ
received_text pid invoked moment =
    codes "Received: (qmail " ++ (digits pid ++ (codes " invoked " ++ (invoked_text invoked ++ (codes "); " ++ (date_text moment ++ 10 ∷ [])))))
