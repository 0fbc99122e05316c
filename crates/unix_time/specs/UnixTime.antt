-- Unix times of timestamps, and timestamps of Unix times (docs/RULES.md, "Unix time").
use Rattle.std.specs.Prelude.{ℕ, ◌+◌, ◌-◌, ◌*◌, ◌/◌, ◌^◌, Bool, false, not, leb, ℤ, pos, negsuc, ◌+ℤ◌, ◌-ℤ◌, nat_abs, Result}
use Rattle.refusals.specs.declared.Refusal.{Refusal}
use Rattle.refusals.specs.declared.Refusal.TheVariants.{TimestampZero, NoSuchDate, OutsideWindow}
use Rattle.ordered_tests.specs.Tests.{Tests, ◌if◌else◌, otherwise, given}
use Rattle.timestamp.specs.declared.Timestamp.{Timestamp}
use Rattle.timestamp.specs.Timestamp.{from_seconds, fraction_of, is_zero}
use Rattle.calendar.specs.Dates.{date, seconds_to}
use Rattle.calendar.specs.Calendar.{seconds_at, in_window, era_seconds}
use Rattle.unix_time.specs.declared.UnixTime.{UnixTime}

-- the seconds from the start of the year 0 to 1970
unfoldable pub start1970 : ℕ
start1970 = seconds_to (date 1970 1 1 0 0 0 0)

-- the Unix second of the second s after the start of the year 0; before 1970 it is negative
unfoldable pub unix_second : ℕ → ℤ
unix_second s = pos s -ℤ pos start1970

-- the nanoseconds of a fraction, rounded down
abbrev pub nanoseconds_of : ℕ → ℕ
nanoseconds_of fraction = fraction * 10 ^ 9 / 2 ^ 32

-- the Unix time that a timestamp counts to
abbrev pub unix_time_at : Timestamp → UnixTime
unix_time_at t = record { seconds = unix_second (seconds_at t); nanoseconds = nanoseconds_of (fraction_of t) }

-- The Unix time of a timestamp.
abbrev pub unix_time_tests : Timestamp → Tests UnixTime
unix_time_tests t =
    TimestampZero if is_zero t else
    otherwise (unix_time_at t)

unfoldable pub unix_time_of : Timestamp → Result UnixTime Refusal
unix_time_of t = given (unix_time_tests t)

-- the second of a Unix time, counted from the start of the year 0
abbrev pub from_year0 : ℤ → ℤ
from_year0 seconds = seconds +ℤ pos start1970

-- it is in the calendar's window; a second before the year 0 is not
abbrev pub inside : ℤ → Bool
inside (pos s) = in_window s
inside (negsuc n) = false

-- the fraction of nanoseconds, rounded up
abbrev pub fraction_above : ℕ → ℕ
fraction_above nanoseconds = (nanoseconds * 2 ^ 32 + (10 ^ 9 - 1)) / 10 ^ 9

-- the timestamp that counts to a Unix time of the window
abbrev pub timestamp_at : UnixTime → Timestamp
timestamp_at u = from_seconds (era_seconds (nat_abs (from_year0 u.seconds))) (fraction_above u.nanoseconds)

-- The timestamp of a Unix time.
abbrev pub timestamp_tests : UnixTime → Tests Timestamp
timestamp_tests u =
    NoSuchDate if leb (10 ^ 9) u.nanoseconds else
    OutsideWindow if not (inside (from_year0 u.seconds)) else
    TimestampZero if is_zero (timestamp_at u) else
    otherwise (timestamp_at u)

unfoldable pub timestamp_of : UnixTime → Result Timestamp Refusal
timestamp_of u = given (timestamp_tests u)
