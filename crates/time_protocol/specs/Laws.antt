-- A count and its four octets, and the second that it names (docs/RULES.md, "The Time Protocol").
use Rattle.std.specs.Prelude.{◌≡◌, List, ◌++◌, ℕ, ◌^◌, ◌≤◌, ◌<◌, length, take, drop, Ok}
use Rattle.arithmetic.specs.Octets.{AreOctets}
use Rattle.timestamp.specs.Timestamp.{timestamp, from_seconds}
use Rattle.calendar.specs.Dates.{date, seconds_to}
use Rattle.calendar.specs.OneToOne.{HasDate}
use Rattle.calendar.specs.declared.Date.{Date}
use Rattle.time_protocol.specs.TimeProtocol.{write_answer, written, read_answer, second_named}

pub record Laws : Type 0 where
  -- a count that is written is read back the same
  pub count_back : (count : ℕ) (b : List ℕ) → count < 2 ^ 32 → 4 ≤ length b
      → (write_answer b ≡ Ok tt) × (read_answer (take 4 (written count b)) ≡ Ok count)
  -- octets that are read are written back the same
  pub octets_back : (p b : List ℕ) (count : ℕ) → AreOctets p → read_answer p ≡ Ok count → 4 ≤ length b → written count b ≡ p ++ drop 4 b
  -- writing leaves the octets past the fourth as they were
  pub rest_kept : (count : ℕ) (b : List ℕ) → drop 4 (written count b) ≡ drop 4 b
  -- a count names the second of the date that the calendar gives a timestamp with those seconds, whatever its fraction
  pub same_second : (count fraction : ℕ) → count < 2 ^ 32 → fraction < 2 ^ 32 → (from_seconds count fraction ≡ timestamp 0 → ⊥)
      → (d : Date) × HasDate (from_seconds count fraction) d × (seconds_to d ≡ second_named count)
  -- and zero the start of the second era
  pub zero : second_named 0 ≡ seconds_to (date 2036 2 7 6 28 16 0)
