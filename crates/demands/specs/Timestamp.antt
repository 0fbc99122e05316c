-- The timestamp of a date.
use Rattle.timestamp.specs.declared.Timestamp.{Timestamp}
use Rattle.refusals.specs.Given.{Given, refused, answered, numbered}
use Rattle.std.specs.Prelude.{◌≤◌, ◌<◌, ◌≢◌, [], ◌∷◌, pos}
use Rattle.refusals.specs.declared.Refusal.TheVariants.{NoSuchDate, OutsideWindow, TimestampZero}
use Rattle.calendar.specs.declared.Date.{Date}
use Rattle.calendar.specs.Gregorian.{leap_days, month_days}
use Rattle.calendar.specs.Dates.{seconds_to}
use Rattle.calendar.specs.Calendar.{window_start, window_end, timestamp_at, timestamp_of}
use Rattle.demands.specs.Form.{Shown, refused_by, telling, ◌unless◌then◌, does, Form, Implementation}
use Rattle.demands.specs.Common.{not_available}

-- there is such a day and such a time of day; a month that does not exist has no day
abbrev pub Exists : Date → Type 0
Exists d =
    (1 ≤ d.day) × (d.day ≤ month_days (leap_days d.year) d.month)
    × (d.hour < 24) × (d.minute < 60) × (d.second < 60)

-- from the window's first second to its last, fractions included
abbrev pub InWindow : Date → Type 0
InWindow d = (window_start ≤ seconds_to d) × (seconds_to d ≤ window_end)

abbrev pub shown : Given Timestamp → Shown
shown (refused n) = refused_by 1 n
shown (answered t) = telling (pos t.0 ∷ [])

abbrev pub timestamp : Form
timestamp = record {
  Input = Date;
  Outcome = Given Timestamp;
  shown = shown;
  refusing = λ d. refused;
  rules = λ d.
      NoSuchDate unless Exists d then
      OutsideWindow unless InWindow d then
      TimestampZero unless timestamp_at d ≢ not_available then
      does (answered (timestamp_at d));
}

abbrev pub ours : Implementation timestamp
ours d = numbered (timestamp_of d)
