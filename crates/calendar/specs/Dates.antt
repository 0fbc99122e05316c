-- Dates and the seconds from the start of the year 0 to them.
use Rattle.std.specs.Prelude.{ℕ, ◌+◌, ◌-◌, ◌*◌, ◌/◌, ◌%◌, Bool, ◌&&◌, leb, ltb}
use Rattle.calendar.specs.Gregorian.{leap_days, year_days, month_days, before, last}
use Rattle.calendar.specs.declared.Date.{Date}

-- year, month, day, hour, minute, second and fraction
abbrev pub date : ℕ → ℕ → ℕ → ℕ → ℕ → ℕ → ℕ → Date
date y m d h i s f = record { year = y; month = m; day = d; hour = h; minute = i; second = s; fraction = f }

-- there is such a date and such a time of day; a month that does not exist has no day
unfoldable pub exists : Date → Bool
exists d =
    leb 1 d.day
    && leb d.day (month_days (leap_days d.year) d.month)
    && ltb d.hour 24
    && ltb d.minute 60
    && ltb d.second 60

-- the days, and the seconds, from the start of the year 0 to a date
unfoldable pub days_to : Date → ℕ
days_to d = before year_days d.year + before (month_days (leap_days d.year)) d.month + (d.day - 1)

unfoldable pub seconds_to : Date → ℕ
seconds_to d = ((days_to d * 24 + d.hour) * 60 + d.minute) * 60 + d.second

-- the day n after the start of the year 0: its year, its number in that year from 0, its month, and its number in that month from 1
unfoldable pub year_on : ℕ → ℕ
year_on n = last year_days n 2104  -- no timestamp is past 2104

unfoldable pub day_of_year : ℕ → ℕ
day_of_year n = n - before year_days (year_on n)

unfoldable pub month_on : ℕ → ℕ
month_on n = last (month_days (leap_days (year_on n))) (day_of_year n) 12

unfoldable pub day_of_month : ℕ → ℕ
day_of_month n = day_of_year n - before (month_days (leap_days (year_on n))) (month_on n) + 1

-- the date s seconds after the start of the year 0
unfoldable pub date_at : ℕ → ℕ → Date
date_at s f =
    date (year_on (s / 86400)) (month_on (s / 86400)) (day_of_month (s / 86400)) (s / 3600 % 24) (s / 60 % 60) (s % 60) f
