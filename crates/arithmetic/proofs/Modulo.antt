-- Laws of the remainder: it is below the modulus, and it is congruent to the number.
use mathlib.Core.Path.{◌≡◌, ap}
use Prim.Native.Nat.{ℕ, ◌+◌, ◌*◌, ◌/◌, ◌<◌}
use native.Mathlib.Nat.{mod-lt, div-add-mod, mul-le-mul_left}
use native.Mathlib.Decide.{dec_lt}
use native.Mathlib.Omega.{arith}
use lib.IntN.{ℤ, pos, negsuc}
use Rattle.arithmetic.specs.Modulo.{◌modulo◌}
use Rattle.arithmetic.proofs.Integers.{up, dn}

pub modulo_below : (z : ℤ) {n : ℕ} → 0 < n → z modulo n < n
unfolding ◌modulo◌
modulo_below (pos a) h = mod-lt a h
modulo_below (negsuc a) h = omega arith

-- a and b differ by a multiple of n, said in natural numbers
pub record Congruent (n : ℕ) (a b : ℤ) : Type 0 where
  pub less : ℕ
  pub more : ℕ
  pub even : up a + dn b + n * less ≡ up b + dn a + n * more

pub residue : (z : ℤ) (n : ℕ) → 0 < n → Congruent n (pos (z modulo n)) z
unfolding ◌modulo◌
residue (pos a) n h = record { less = a / n; more = 0; even = omega (arith, div-add-mod a n) }
residue (negsuc a) n h = record { less = 0; more = a / n + 1; even = omega (arith, div-add-mod a n, mod-lt a h) }

-- two numbers that differ by a multiple of n, and by less than n, are equal
pub near : (n a b p q : ℕ) → a + n * p ≡ b + n * q → a < b + n → b < a + n → a ≡ b
near n a b p q e l r = go (dec_lt p q) (dec_lt q p)
  where
    go : Dec (p < q) → Dec (q < p) → a ≡ b
    go (yes h) d = absurd (omega (arith, mul-le-mul_left n h))
    go (no f) (yes h) = absurd (omega (arith, mul-le-mul_left n h))
    go (no f) (no g) = let s : p ≡ q = omega arith in omega (arith, ap (λ r. n * r) s)

-- the remainder is the only number below n that is congruent to z
pub modulo_is : (n r : ℕ) (z : ℤ) → r < n → Congruent n (pos r) z → z modulo n ≡ r
modulo_is n r z h c =
    let m = residue z n (omega arith) in
    near n (z modulo n) r (m.less + c.more) (m.more + c.less) (omega (arith, m.even, c.even)) (omega (arith, modulo_below z {n = n} (omega arith))) (omega arith)
