-- Timestamps and Unix times, there and back, against the calendar and in order (docs/RULES.md, "Unix time").
use Rattle.std.specs.Prelude.{◌≡◌, ◌⊎◌, ◌-◌, ◌*◌, ◌^◌, ◌≤◌, ◌<◌, pos, ◌-ℤ◌, ◌<ℤ◌}
use Rattle.refusals.specs.Numbers.{number}
use Rattle.refusals.specs.Given.{Given, refused, answered}
use Rattle.refusals.specs.declared.Refusal.TheVariants.{TimestampZero}
use Rattle.timestamp.specs.declared.Timestamp.{Timestamp}
use Rattle.timestamp.specs.Timestamp.{timestamp, fraction_of}
use Rattle.calendar.specs.Dates.{date, seconds_to}
use Rattle.calendar.specs.Calendar.{seconds_at}
use Rattle.calendar.specs.declared.Date.{Date}
use Rattle.unix_time.specs.declared.UnixTime.{UnixTime}

-- b is t or less than one nanosecond before it: 10^9 nanoseconds are 2^32 units
pub record BarelyBefore (b t : Timestamp) : Type 0 where
  pub same_second : seconds_at b ≡ seconds_at t
  pub not_later : fraction_of b ≤ fraction_of t
  pub less_than_one : 10 ^ 9 * (fraction_of t - fraction_of b) < 2 ^ 32

-- s is not later than t: timestamps by their second and fraction, Unix times by their seconds and nanoseconds
abbrev pub NotLater : Timestamp → Timestamp → Type 0
NotLater s t = (seconds_at s < seconds_at t) ⊎ ((seconds_at s ≡ seconds_at t) × (fraction_of s ≤ fraction_of t))

abbrev pub NotLaterUnix : UnixTime → UnixTime → Type 0
NotLaterUnix u v = (u.seconds <ℤ v.seconds) ⊎ ((u.seconds ≡ v.seconds) × (u.nanoseconds ≤ v.nanoseconds))

-- asked of any two functions, there and back, beside any that gives dates
pub record Laws (unix_time : Timestamp → Given UnixTime) (timestamp_again : UnixTime → Given Timestamp) (date_of : Timestamp → Given Date) : Type 0 where
  -- every timestamp but zero has a Unix time
  pub timed : (t : Timestamp) → (t ≡ timestamp 0 → ⊥) → (u : UnixTime) × (unix_time t ≡ answered u)
  -- zero has none
  pub zero_refused : unix_time (timestamp 0) ≡ refused (number TimestampZero)
  -- a Unix time whose way back is not refused comes back the same
  pub same : (u : UnixTime) (t : Timestamp) → timestamp_again u ≡ answered t → unix_time t ≡ answered u
  -- a timestamp of 64 bits comes back not later and less than one nanosecond early
  pub barely_before : (t : Timestamp) (u : UnixTime) → t.0 < 2 ^ 64 → 4 < t.0 → unix_time t ≡ answered u
      → (b : Timestamp) × (timestamp_again u ≡ answered b) × BarelyBefore b t
  -- save second zero with fraction 1 to 4, whose way back is refused
  pub first_four : (t : Timestamp) (u : UnixTime) → t.0 ≤ 4 → unix_time t ≡ answered u
      → timestamp_again u ≡ refused (number TimestampZero)
  -- the date of a timestamp names its Unix second
  pub same_second : (t : Timestamp) (d : Date) (u : UnixTime) → t.0 < 2 ^ 64 → date_of t ≡ answered d → unix_time t ≡ answered u
      → u.seconds ≡ pos (seconds_to d) -ℤ pos (seconds_to (date 1970 1 1 0 0 0 0))
  -- of two timestamps the later one never has the earlier Unix time
  pub in_order : (s t : Timestamp) (u v : UnixTime) → NotLater s t → unix_time s ≡ answered u → unix_time t ≡ answered v
      → NotLaterUnix u v
