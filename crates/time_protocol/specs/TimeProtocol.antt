-- The Time Protocol of RFC 868 (docs/RULES.md, "The Time Protocol").
use Rattle.std.specs.Prelude.{ℕ, not, List, ◌++◌, eqb, ltb, length, drop, Result}
use Rattle.arithmetic.specs.Octets.{big_endian, octets}
use Rattle.refusals.specs.declared.Refusal.{Refusal}
use Rattle.refusals.specs.declared.Refusal.TheVariants.{TimeLengthWrong}
use Rattle.ordered_tests.specs.Tests.{Tests, ◌if◌else◌, otherwise, pass, given, kept}
use Rattle.timestamp.specs.Timestamp.{from_seconds}
use Rattle.calendar.specs.Calendar.{seconds_at}

-- Writing: any count, zero too.
abbrev pub write_tests : List ℕ → Tests (Unit {0})
write_tests buffer =
    TimeLengthWrong if ltb (length buffer) 4 else
    pass

abbrev pub write_answer : List ℕ → Result (Unit {0}) Refusal
write_answer buffer = given (write_tests buffer)

-- what the buffer holds after writing: the count big-endian, and the octets past the fourth as they were
abbrev pub written : ℕ → List ℕ → List ℕ
written count buffer = kept (write_tests buffer) buffer (octets 4 count ++ drop 4 buffer)

-- Reading.
abbrev pub read_tests : List ℕ → Tests ℕ
read_tests p =
    TimeLengthWrong if not (eqb (length p) 4) else
    otherwise (big_endian p)

abbrev pub read_answer : List ℕ → Result ℕ Refusal
read_answer p = given (read_tests p)

-- the second that a count names, from the start of the year 0: that of a timestamp with those seconds
unfoldable pub second_named : ℕ → ℕ
second_named count = seconds_at (from_seconds count 0)
