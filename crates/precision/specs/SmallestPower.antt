-- The law of the precision octet: a tick that is taken is answered by the smallest power of two not below it.
use Rattle.std.specs.Prelude.{◌≡◌, ℕ, ◌^◌, ◌≤◌, ◌<◌, pos, ◌-ℤ◌, Ok}
use Rattle.precision.specs.Precision.{precision_of}

-- 2 ^ k is not below the tick, and every smaller power of two is
pub record Smallest (tick k : ℕ) : Type 0 where
  pub not_below : tick ≤ 2 ^ k
  pub smaller_below : (j : ℕ) → j < k → 2 ^ j < tick

-- the answer to a tick from 1 to 2 ^ 32 is no refusal, and is the exponent of that power in seconds, of which one is 2 ^ 32 units
abbrev pub SmallestPower : Type 0
SmallestPower =
    (tick : ℕ) → 1 ≤ tick → tick ≤ 2 ^ 32
    → (k : ℕ) × Smallest tick k × (precision_of tick ≡ Ok (pos k -ℤ pos 32))
