-- Timestamps and dates match one to one (docs/RULES.md, "The calendar"), but for zero and one date of the window, each refused by 24.
use Rattle.std.specs.Prelude.{◌≡◌, ◌↔◌, true, ◌^◌, ◌<◌, Ok, Err}
use Rattle.refusals.specs.declared.Refusal.TheVariants.{TimestampZero}
use Rattle.timestamp.specs.declared.Timestamp.{Timestamp}
use Rattle.timestamp.specs.Timestamp.{timestamp}
use Rattle.calendar.specs.Dates.{date, exists, seconds_to}
use Rattle.calendar.specs.Calendar.{in_window, date_of, timestamp_of}
use Rattle.calendar.specs.declared.Date.{Date}

-- the answer to t is the date d
abbrev pub HasDate : Timestamp → Date → Type 0
HasDate t d = date_of t ≡ Ok d

-- the answer to d is the timestamp t
abbrev pub HasTimestamp : Date → Timestamp → Type 0
HasTimestamp d t = timestamp_of d ≡ Ok t

-- the start of the second era, whose timestamp would be zero
abbrev pub era_start : Date
era_start = date 2036 2 7 6 28 16 0

pub record OneToOne : Type 0 where
  -- a timestamp of 64 bits has a date exactly when the date, its fraction of 32 bits, has that timestamp
  pub exactly_when : (t : Timestamp) (d : Date) → t.0 < 2 ^ 64 → d.fraction < 2 ^ 32 → HasDate t d ↔ HasTimestamp d t
  -- every timestamp but zero has a date
  pub dated : (t : Timestamp) → t.0 < 2 ^ 64 → (t ≡ timestamp 0 → ⊥) → (d : Date) × HasDate t d
  -- zero has none
  pub zero_refused : date_of (timestamp 0) ≡ Err TimestampZero
  -- every date that exists and is in the window has a timestamp, save one
  pub timestamped : (d : Date) → d.fraction < 2 ^ 32 → exists d ≡ true → in_window (seconds_to d) ≡ true → (d ≡ era_start → ⊥)
      → (t : Timestamp) × (t.0 < 2 ^ 64) × HasTimestamp d t
  -- and that one is the start of the second era
  pub era_start_refused : timestamp_of era_start ≡ Err TimestampZero
