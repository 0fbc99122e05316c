-- Fractions and nanoseconds: rounded down there and up back.
use mathlib.Core.Path.{◌≡◌}
use Prim.Native.Nat.{ℕ, ◌-◌, ◌*◌, ◌^◌, ◌≤◌, ◌<◌}
use native.Mathlib.Omega.{arith}
use Rattle.unix_time.specs.UnixTime.{nanoseconds_of, fraction_above}

-- ---- from nanoseconds

module _ (n : ℕ) (h : n < 10 ^ 9) where
  pub fraction_fits : fraction_above n < 2 ^ 32
  fraction_fits = omega arith

  pub nanoseconds_back : nanoseconds_of (fraction_above n) ≡ n
  nanoseconds_back = omega arith

-- ---- from a fraction

module _ (f : ℕ) where
  pub nanoseconds_fit : f < 2 ^ 32 → nanoseconds_of f < 10 ^ 9
  nanoseconds_fit h = omega arith

  pub fraction_not_later : fraction_above (nanoseconds_of f) ≤ f
  fraction_not_later = omega arith

  pub fraction_near : 10 ^ 9 * (f - fraction_above (nanoseconds_of f)) < 2 ^ 32
  fraction_near = omega arith

  pub fraction_none : f ≤ 4 → fraction_above (nanoseconds_of f) ≡ 0
  fraction_none h = omega arith

pub nanoseconds_mono : (f g : ℕ) → f ≤ g → nanoseconds_of f ≤ nanoseconds_of g
nanoseconds_mono f g h = omega arith
