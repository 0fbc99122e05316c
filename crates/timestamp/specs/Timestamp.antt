-- Timestamps and their differences (docs/RULES.md, "Timestamps and their differences").
use Rattle.std.specs.Prelude.{ℕ, ◌+◌, ◌*◌, ◌/◌, ◌%◌, ◌^◌, Bool, cond, ℤ, pos, ◌==◌, int_lt, unsigned_abs, Option, Some, None}
use Rattle.arithmetic.specs.TwosComplement.{difference}
use Rattle.timestamp.specs.declared.Timestamp.{Timestamp}
use Rattle.timestamp.specs.declared.Constants.{Constants}

-- the timestamp of a number of units of 2^-32 s, and of 32 bits of seconds and 32 of fraction
abbrev pub timestamp : ℕ → Timestamp
timestamp units = record { 0 = units }

abbrev pub from_seconds : ℕ → ℕ → Timestamp
from_seconds seconds fraction = timestamp (seconds * 2 ^ 32 + fraction)

abbrev pub seconds_of : Timestamp → ℕ
seconds_of t = t.0 / 2 ^ 32

abbrev pub fraction_of : Timestamp → ℕ
fraction_of t = t.0 % 2 ^ 32

-- the zero, which means "not available"; one second in units; and the 16 s limit, as a difference and in whole seconds
abbrev pub constants : Constants
constants = record { zero = timestamp 0; second = 2 ^ 32; limit = pos (2 ^ 36); limit_seconds = 16 }

abbrev pub is_zero : Timestamp → Bool
is_zero t = t.0 == 0

-- the difference x - y, taken modulo 2^64 and read as a signed number
infixl 60 ◌since◌
unfoldable pub ◌since◌ : Timestamp → Timestamp → ℤ
x since y = difference 64 x.0 y.0

-- half a circle apart, a difference of exactly 2^63, there is no order
unfoldable pub has_no_order : ℤ → Bool
has_no_order z = unsigned_abs z == 2 ^ 63

-- what is answered of a difference
unfoldable pub ordered : ℤ → Option ℤ
ordered z = cond (has_no_order z) None (Some z)

abbrev pub negative : ℤ → Bool
negative z = int_lt z (pos 0)
