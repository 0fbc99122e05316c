-- Dates of timestamps, and timestamps of dates (docs/RULES.md, "The calendar").
use Rattle.std.specs.Prelude.{ℕ, ◌+◌, ◌-◌, ◌^◌, Bool, cond, not, ◌&&◌, leb, ltb, Result}
use Rattle.refusals.specs.declared.Refusal.{Refusal}
use Rattle.refusals.specs.declared.Refusal.TheVariants.{TimestampZero, NoSuchDate, OutsideWindow}
use Rattle.ordered_tests.specs.Tests.{Tests, ◌if◌else◌, otherwise, given}
use Rattle.timestamp.specs.declared.Timestamp.{Timestamp}
use Rattle.timestamp.specs.Timestamp.{from_seconds, seconds_of, fraction_of, is_zero}
use Rattle.calendar.specs.Dates.{date, exists, seconds_to, date_at}
use Rattle.calendar.specs.declared.Date.{Date}

-- the starts of the two eras, and the first and the last second of the window, in seconds from the start of the year 0
unfoldable pub start1900 : ℕ
start1900 = seconds_to (date 1900 1 1 0 0 0 0)

unfoldable pub start2036 : ℕ
start2036 = seconds_to (date 2036 2 7 6 28 16 0)

unfoldable pub window_start : ℕ
window_start = seconds_to (date 1968 1 20 3 14 8 0)

unfoldable pub window_end : ℕ
window_end = seconds_to (date 2104 2 26 9 42 23 0)

-- the seconds from the start of the year 0 to a timestamp: top bit set counts from 1900, top bit clear from 2036-02-07 06:28:16
unfoldable pub seconds_at : Timestamp → ℕ
seconds_at t = cond (leb (2 ^ 31) (seconds_of t)) start1900 start2036 + seconds_of t

-- The date of a timestamp.
abbrev pub date_tests : Timestamp → Tests Date
date_tests t =
    TimestampZero if is_zero t else
    otherwise (date_at (seconds_at t) (fraction_of t))

unfoldable pub date_of : Timestamp → Result Date Refusal
date_of t = given (date_tests t)

-- the second s is in the window, fractions included
unfoldable pub in_window : ℕ → Bool
in_window s = leb window_start s && leb s window_end

-- the seconds of a timestamp that count to the second s: from 1900 where s is before the start of 2036's era, else from that start
unfoldable pub era_seconds : ℕ → ℕ
era_seconds s = s - cond (ltb s start2036) start1900 start2036

-- The timestamp that counts to the second s after the start of the year 0, with this fraction.
abbrev pub second_tests : (s fraction : ℕ) → Tests Timestamp
second_tests s fraction =
    OutsideWindow if not (in_window s) else
    TimestampZero if is_zero (from_seconds (era_seconds s) fraction) else
    otherwise (from_seconds (era_seconds s) fraction)

-- the timestamp that counts to a date
abbrev pub timestamp_at : Date → Timestamp
timestamp_at d = from_seconds (era_seconds (seconds_to d)) d.fraction

-- The timestamp of a date.
abbrev pub timestamp_tests : Date → Tests Timestamp
timestamp_tests d =
    NoSuchDate if not (exists d) else
    OutsideWindow if not (in_window (seconds_to d)) else
    TimestampZero if is_zero (timestamp_at d) else
    otherwise (timestamp_at d)

unfoldable pub timestamp_of : Date → Result Timestamp Refusal
timestamp_of d = given (timestamp_tests d)
