-- Cutting down to a multiple of a tick: less than a tick is lost, and the order stays.
use Prim.Native.Nat.{ℕ, ◌+◌, ◌-◌, ◌*◌, ◌≤◌, ◌<◌}
use mathlib.Core.Path.{◌≡◌}
use native.Mathlib.Nat.{mul-le-mul_left}
use native.Mathlib.Decide.{dec_lt}
use native.Mathlib.Omega.{arith}
use lib.IntN.{ℤ, pos}
use lib.Pow.{pow_pos}
use Rattle.arithmetic.specs.Modulo.{◌modulo◌}
use Rattle.arithmetic.proofs.Integers.{up, dn, integers, minus}
use Rattle.arithmetic.proofs.Modulo.{modulo_below, residue}
use Rattle.clocks.specs.Ticks.{IsTick, cut_down}

pub some_unit : (tick : ℕ) → IsTick tick → 0 < tick
some_unit tick (k, _, is) = omega (arith, is, pow_pos k)

module _ (tick : ℕ) (some : 0 < tick) where
  -- said in natural numbers
  pub cut_is : (z : ℤ) → up (cut_down tick z) + (dn z + z modulo tick) ≡ up z + dn (cut_down tick z)
  unfolding cut_down
  cut_is z = omega (arith, minus z (pos (z modulo tick)))

  pub lost : (z : ℤ) → (up (cut_down tick z) + dn z ≤ up z + dn (cut_down tick z)) × (up z + dn (cut_down tick z) ≤ up (cut_down tick z) + dn z + (tick - 1))
  lost z = omega (arith, cut_is z, modulo_below z some)

  -- a multiple that is less than a tick above another is not above it
  multiples : (a b : ℕ) → tick * a < tick * b + tick → tick * a ≤ tick * b
  multiples a b h = go (dec_lt b a)
    where
      go : Dec (b < a) → tick * a ≤ tick * b
      go (yes l) = absurd (omega (arith, mul-le-mul_left tick l))
      go (no f) = mul-le-mul_left tick (omega arith)

  pub cut_order : (y z : ℤ) → up y + dn z ≤ up z + dn y → up (cut_down tick y) + dn (cut_down tick z) ≤ up (cut_down tick z) + dn (cut_down tick y)
  cut_order y z h =
      let r = residue y tick some in
      let s = residue z tick some in
      let below = modulo_below z some in
      let m = multiples (r.less + s.more) (s.less + r.more) (omega (arith, r.even, s.even)) in
      omega (arith, r.even, s.even, cut_is y, cut_is z)

-- a tick of one unit cuts nothing
pub cut_1 : (z : ℤ) → cut_down 1 z ≡ z
cut_1 z = omega (arith, integers, cut_is 1 (omega arith) z, modulo_below z {n = 1} (omega arith))
