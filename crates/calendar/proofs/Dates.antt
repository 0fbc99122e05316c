-- What it is for a date to exist and to be in the window, and the eras and the window in numbers.
use mathlib.Core.Path.{◌≡◌, refl}
use mathlib.Core.Bool.{true}
use Prim.Native.Nat.{ℕ, ◌≤◌, ◌<◌}
use native.Mathlib.Omega.{arith}
use Rattle.std.proofs.lemmas.Bool.Decides.{nat_tests}
use Rattle.calendar.specs.Gregorian.{leap_days, year_days, month_days, before}
use Rattle.calendar.specs.Dates.{exists, seconds_to, days_to}
use Rattle.calendar.specs.Calendar.{in_window, start1900, start2036, window_start, window_end}
use Rattle.calendar.specs.declared.Date.{Date}
use Rattle.calendar.proofs.Months.{month_range}

-- the tests of `exists` as facts
pub record Exists (d : Date) : Type 0 where
  pub day_from : 1 ≤ d.day
  pub day_to : d.day ≤ month_days (leap_days d.year) d.month
  pub hours : d.hour < 24
  pub minutes : d.minute < 60
  pub seconds : d.second < 60

pub exists_has : (d : Date) → exists d ≡ true → Exists d
unfolding exists
exists_has d e = record { day_from = grind (arith, nat_tests); day_to = grind (arith, nat_tests); hours = grind (arith, nat_tests); minutes = grind (arith, nat_tests); seconds = grind (arith, nat_tests) }

pub exists_yes : (d : Date) → Exists d → exists d ≡ true
unfolding exists
exists_yes d e = grind (arith, nat_tests)

pub exists_ranges : (d : Date) → exists d ≡ true → (0 < d.month) × (d.month < 13) × (0 < d.day)
exists_ranges d t =
    let e = exists_has d t in
    let m = month_range (leap_days d.year) d.month (omega arith) in
    (m.0, m.1, e.day_from)

pub window_has : (s : ℕ) → in_window s ≡ true → (window_start ≤ s) × (s ≤ window_end)
unfolding in_window
window_has s e = (grind (arith, nat_tests), grind (arith, nat_tests))

pub window_yes : (s : ℕ) → window_start ≤ s → s ≤ window_end → in_window s ≡ true
unfolding in_window
window_yes s h l = grind (arith, nat_tests)

-- the starts of the eras and the ends of the window in numbers
pub record Bounds : Type 0 where
  pub era_1900 : start1900 ≡ 59958230400
  pub era_2036 : start2036 ≡ 64253197696
  pub window_first : window_start ≡ 62105714048
  pub window_last : window_end ≡ 66400681343

pub bounds : Bounds
unfolding start1900 start2036 window_start window_end seconds_to days_to before year_days month_days leap_days
bounds = record { era_1900 = refl; era_2036 = refl; window_first = refl; window_last = refl }
