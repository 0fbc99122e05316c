-- The timestamp of a Unix time.
use Rattle.timestamp.specs.declared.Timestamp.{Timestamp}
use Rattle.refusals.specs.Given.{Given, refused, answered, numbered}
use Rattle.std.specs.Prelude.{◌^◌, ◌<◌, ◌≢◌, pos, ◌≤ℤ◌}
use Rattle.refusals.specs.declared.Refusal.TheVariants.{NoSuchDate, OutsideWindow, TimestampZero}
use Rattle.calendar.specs.Calendar.{window_start, window_end}
use Rattle.unix_time.specs.declared.UnixTime.{UnixTime}
use Rattle.unix_time.specs.UnixTime.{from_year0, timestamp_at, timestamp_of}
use Rattle.demands.specs.Form.{◌unless◌then◌, does, Form, Implementation}
use Rattle.demands.specs.Common.{not_available}
use Rattle.demands.specs.Timestamp.{shown}

-- from the window's first second to its last, both counted from the start of the year 0 as the calendar counts them
abbrev pub InWindow : UnixTime → Type 0
InWindow u = (pos window_start ≤ℤ from_year0 u.seconds) × (from_year0 u.seconds ≤ℤ pos window_end)

abbrev pub timestamp_of_unix : Form
timestamp_of_unix = record {
  Input = UnixTime;
  Outcome = Given Timestamp;
  shown = shown;
  refusing = λ u. refused;
  rules = λ u.
      NoSuchDate unless u.nanoseconds < 10 ^ 9 then
      OutsideWindow unless InWindow u then
      TimestampZero unless timestamp_at u ≢ not_available then
      does (answered (timestamp_at u));
}

abbrev pub ours : Implementation timestamp_of_unix
ours u = numbered (timestamp_of u)
