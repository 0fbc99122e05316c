-- From a second to its date and back, and from a date to its second and back.
use mathlib.Core.Path.{◌≡◌, refl}
use Prim.Native.Nat.{ℕ, suc, ◌+◌, ◌-◌, ◌*◌, ◌/◌, ◌%◌, ◌≤◌, ◌<◌}
use native.Mathlib.Nat.{lt_of_not-le}
use native.Mathlib.Omega.{arith}
use Rattle.calendar.specs.Gregorian.{leap_days, year_days, month_days, before}
use Rattle.calendar.specs.Dates.{days_to, seconds_to, year_on, day_of_year, month_on, day_of_month, date_at}
use Rattle.calendar.specs.Calendar.{window_end}
use Rattle.calendar.specs.declared.Date.{Date}
use Rattle.calendar.proofs.Before.{Has, last_has, last_is, before_mono}
use Rattle.calendar.proofs.Months.{year_months, month_range}
use Rattle.calendar.proofs.Dates.{Exists, bounds}

end_2104 : before year_days 2105 ≡ 768836
unfolding before year_days leap_days
end_2104 = refl

-- the day n, up to the end of 2104
module _ (n : ℕ) (h : n < 768836) where
  in_year : Has year_days n (year_on n)
  unfolding year_on
  in_year = last_has year_days n 2104 (omega (arith, end_2104))

  day_in_year : day_of_year n < 365 + leap_days (year_on n)
  unfolding day_of_year before year_days
  day_in_year = omega (arith, in_year.begun, in_year.current)

  in_month : Has (month_days (leap_days (year_on n))) (day_of_year n) (month_on n)
  unfolding month_on
  in_month = last_has (month_days (leap_days (year_on n))) (day_of_year n) 12 (omega (arith, year_months (leap_days (year_on n)), day_in_year))

  day_is : before year_days (year_on n) + before (month_days (leap_days (year_on n))) (month_on n) + (day_of_month n - 1) ≡ n
  unfolding day_of_month day_of_year
  day_is = omega (arith, in_year.begun, in_month.begun)

  day_fits : (1 ≤ day_of_month n) × (day_of_month n ≤ month_days (leap_days (year_on n)) (month_on n))
  unfolding day_of_month before
  day_fits = omega (arith, in_month.begun, in_month.current)

-- the time of day
clock : (s : ℕ) → ((s / 86400 * 24 + s / 3600 % 24) * 60 + s / 60 % 60) * 60 + s % 60 ≡ s
clock s = omega arith

module _ (s f : ℕ) (h : s ≤ window_end) where
  pub date_exists : Exists (date_at s f)
  unfolding date_at
  date_exists =
      let d = day_fits (s / 86400) (omega (arith, bounds)) in
      record { day_from = d.0; day_to = d.1; hours = omega arith; minutes = omega arith; seconds = omega arith }

  pub date_seconds : seconds_to (date_at s f) ≡ s
  unfolding seconds_to days_to date_at
  date_seconds = rw (day_is (s / 86400) (omega (arith, bounds))) (clock s)

-- a date, whose day is `of_year` in its year
module _ (d : Date) (e : Exists d) (h : seconds_to d ≤ window_end) where
  month : (0 < d.month) × (d.month < 13)
  month = month_range (leap_days d.year) d.month (omega arith)

  of_year : ℕ
  of_year = before (month_days (leap_days d.year)) d.month + (d.day - 1)

  in_its_month : of_year < before (month_days (leap_days d.year)) (suc d.month)
  unfolding of_year before
  in_its_month = omega arith

  in_its_year : of_year < 365 + leap_days d.year
  in_its_year =
      omega
      (arith, in_its_month, month, before_mono (month_days (leap_days d.year)) (suc d.month) 13 month.1, year_months (leap_days d.year))

  days_to_lem : days_to d ≡ before year_days d.year + of_year
  unfolding days_to of_year
  days_to_lem = omega arith

  seconds_to_lem : (seconds_to d / 86400 ≡ days_to d) × (seconds_to d / 3600 % 24 ≡ d.hour) × (seconds_to d / 60 % 60 ≡ d.minute) × (seconds_to d % 60 ≡ d.second)
  unfolding seconds_to
  seconds_to_lem = omega arith

  by_2104 : d.year ≤ 2104
  by_2104 = omega (
    arith,
    lt_of_not-le {n = 2105} {m = d.year} λ g.
        omega (arith, before_mono year_days 2105 d.year g, end_2104, bounds, days_to_lem, seconds_to_lem.0),
  )

  year_back : year_on (days_to d) ≡ d.year
  unfolding year_on before year_days
  year_back =
      last_is year_days (days_to d) 2104 d.year by_2104
      (record { begun = omega (arith, days_to_lem); current = omega (arith, days_to_lem, in_its_year) })

  day_of_year_back : day_of_year (days_to d) ≡ of_year
  unfolding day_of_year
  day_of_year_back = rw year_back (omega (arith, days_to_lem))

  month_back : month_on (days_to d) ≡ d.month
  unfolding month_on
  month_back = rw (year_back, day_of_year_back)
      (last_is (month_days (leap_days d.year)) of_year 12 d.month (omega (arith, month)) (record { begun = unfold of_year in omega arith; current = in_its_month }))

  day_back : day_of_month (days_to d) ≡ d.day
  unfolding day_of_month of_year
  day_back = rw (month_back, year_back, day_of_year_back) (omega arith)

  pub date_back : date_at (seconds_to d) d.fraction ≡ d
  unfolding date_at
  date_back = rw (seconds_to_lem.0, seconds_to_lem.1, seconds_to_lem.2, seconds_to_lem.3, year_back, month_back, day_back)
