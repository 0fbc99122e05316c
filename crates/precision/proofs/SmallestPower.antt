-- The law of the precision octet.
use mathlib.Core.Path.{◌≡◌}
use Prim.Native.Nat.{ℕ, ◌^◌, ◌≤◌}
use native.Mathlib.Omega.{arith}
use borrow.Author.Tests.{ne_eqb, le-ltb}
use lib.IntN.{pos, ◌-ℤ◌}
use Rattle.precision.specs.Precision.{least, precision_of}
use Rattle.precision.specs.SmallestPower.{SmallestPower}
use Rattle.std.specs.Prelude.{Ok}
use Rattle.precision.proofs.Least.{least_smallest}

taken : (tick : ℕ) → 1 ≤ tick → tick ≤ 2 ^ 32 → precision_of tick ≡ Ok (pos (least tick 32) -ℤ pos 32)
taken tick some h = simp (ne_eqb tick 0 λ e. omega arith, le-ltb _ _ h)

pub smallest_power : SmallestPower
smallest_power tick some h = (least tick 32, least_smallest tick 32 h, taken tick some h)
