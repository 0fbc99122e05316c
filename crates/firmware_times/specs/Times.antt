-- What the calls of Unix time, the Time Protocol and the precision octet return and write for C, of what the inner call answers (docs/C.md).
use Rattle.std.specs.Prelude.{ℕ, ℤ, Result}
use Rattle.refusals.specs.declared.Refusal.{Refusal}
use Rattle.refusals.specs.Given.{after}
use Rattle.timestamp.specs.declared.Timestamp.{Timestamp}
use Rattle.unix_time.specs.declared.UnixTime.{UnixTime}

-- ---- the Unix time of a timestamp

abbrev pub seconds_after : ℤ → Result UnixTime Refusal → ℤ
seconds_after = after (λ u. u.seconds)

abbrev pub nanoseconds_after : ℕ → Result UnixTime Refusal → ℕ
nanoseconds_after = after (λ u. u.nanoseconds)

-- ---- a timestamp, of a Unix time

abbrev pub unix_of : ℤ → ℕ → UnixTime
unix_of seconds nanoseconds = record { seconds = seconds; nanoseconds = nanoseconds }

abbrev pub timestamp_after : ℕ → Result Timestamp Refusal → ℕ
timestamp_after = after (λ t. t.0)

-- ---- the Time Protocol

abbrev pub count_after : ℕ → Result ℕ Refusal → ℕ
count_after = after (λ count. count)

-- ---- the precision octet

abbrev pub precision_after : ℤ → Result ℤ Refusal → ℤ
precision_after = after (λ exponent. exponent)
