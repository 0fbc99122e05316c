-- Sizes of signed numbers.
use Prim.Native.Nat.{ℕ, ◌+◌, ◌≤◌}
use native.Mathlib.Omega.{arith}
use lib.IntN.{ℤ, nat_abs}
use Rattle.std.proofs.lemmas.Int.{ints}
use Rattle.ledger.specs.Ledger.{half_units}

pub double_size : (a : ℤ) (h : ℕ) → nat_abs a + nat_abs a ≤ nat_abs (half_units a h) + h
double_size a h = omega (arith, ints)
