-- Numbers that are wider in C than in the calls, and the number that a call returns (docs/C.md).
use Rattle.std.specs.Prelude.{ℕ, Bool, cond, not, eqb, ℤ, pos, negsuc}
use Rattle.std.specs.Int.Signed.{lt_z}
use Rattle.client.specs.Calls.{Told, refused, done, accepted, kiss}

-- a number for yes or no is no at 0, else yes
abbrev pub yes : ℕ → Bool
yes n = not (eqb n 0)

-- a signed number in 8 bits: what they do not hold becomes -128 or 127
abbrev pub narrow_signed : ℤ → ℤ
narrow_signed n = cond (lt_z n (negsuc 127)) (negsuc 127) (cond (lt_z (pos 127) n) (pos 127) n)

-- 0 where nothing is refused
abbrev pub number_of : Told → ℕ
number_of (refused n) = n
number_of done = 0
number_of (accepted offset half delay) = 0
number_of (kiss code row) = 0
