-- Laws of two's complement and of differences, over the width.
use mathlib.Core.Path.{◌≡◌, refl, ap}
use mathlib.Core.Bool.{Bool, true, false, cond}
use Prim.Native.Nat.{ℕ, zero, suc, ◌+◌, ◌-◌, ◌/◌, ◌%◌, ◌^◌, ◌<◌, ◌≤◌}
use native.Mathlib.Nat.{pow-suc, div-add-mod}
use native.Mathlib.Omega.{arith}
use borrow.Author.Tests.{ltb-true, ltb-false, lt-ltb, le-ltb}
use lib.Pow.{pow_pos}
use lib.Dec.{ltb}
use lib.IntN.{ℤ, pos, ◌-ℤ◌}
use Rattle.arithmetic.specs.Modulo.{◌modulo◌}
use Rattle.arithmetic.specs.TwosComplement.{signed, bits, Fits, difference}
use Rattle.arithmetic.proofs.Integers.{up, dn, integers, integers_eq, minus, neg}
use Rattle.arithmetic.proofs.Modulo.{modulo_below, Congruent, residue, near, modulo_is}

-- half of the 2^k numbers
pub double : (k : ℕ) → 0 < k → 2 ^ k ≡ 2 ^ (k - 1) + 2 ^ (k - 1)
double zero h = omega arith
double (suc k) h = let e : suc k - 1 ≡ k = omega arith in rw (e, pow-suc) (omega arith)

-- the lower half stand for themselves, the upper half for the negative numbers
pub signed_low : (k n : ℕ) → n < 2 ^ (k - 1) → signed k n ≡ pos n
unfolding signed
signed_low k n h = simp (lt-ltb n (2 ^ (k - 1)) h)

pub signed_high : (k n : ℕ) → 2 ^ (k - 1) ≤ n → signed k n ≡ pos n -ℤ pos (2 ^ k)
unfolding signed
signed_high k n h = simp (le-ltb n (2 ^ (k - 1)) h)

-- what k bits are read as fits k bits, and is congruent to them
module _ (k n : ℕ) (some : 0 < k) (h : n < 2 ^ k) where
  by_half : (P : ℤ → Type 0) → (n < 2 ^ (k - 1) → P (pos n)) → (2 ^ (k - 1) ≤ n → P (pos n -ℤ pos (2 ^ k))) → P (signed k n)
  unfolding signed
  by_half P f g = go (ltb n (2 ^ (k - 1))) refl
    where
      go : (b : Bool) → ltb n (2 ^ (k - 1)) ≡ b → P (cond b (pos n) (pos n -ℤ pos (2 ^ k)))
      go true e = f (ltb-true n (2 ^ (k - 1)) e)
      go false e = g (ltb-false n (2 ^ (k - 1)) e)

  pub signed_fits : Fits k (signed k n)
  signed_fits =
      let d = double k some in
      let m = minus (pos n) (pos (2 ^ k)) in
      let low = neg (pos (2 ^ (k - 1))) in
      by_half (Fits k)
      (λ l. record { low = omega (arith, integers); high = omega (arith, integers) })
      (λ l. record { low = omega (arith, integers); high = omega (arith, integers) })

  signed_congruent : Congruent (2 ^ k) (pos n) (signed k n)
  signed_congruent =
      by_half (Congruent (2 ^ k) (pos n))
      (λ l. record { less = 0; more = 0; even = omega arith })
      (λ l. record { less = 0; more = 1; even = omega (arith, minus (pos n) (pos (2 ^ k))) })

-- the signed number that k bits stand for has these bits
pub bits_signed : (k n : ℕ) → 0 < k → n < 2 ^ k → bits k (signed k n) ≡ n
unfolding bits
bits_signed k n some h = modulo_is (2 ^ k) n (signed k n) h (signed_congruent k n some h)

-- k bits that are congruent to a number that fits are read as that number
signed_is : (k n : ℕ) (z : ℤ) → 0 < k → n < 2 ^ k → Fits k z → Congruent (2 ^ k) (pos n) z → signed k n ≡ z
signed_is k n z some h f c =
    let d = double k some in
    let s = signed_congruent k n some h in
    let g = signed_fits k n some h in
    let low = neg (pos (2 ^ (k - 1))) in
    integers_eq
    (near (2 ^ k) (up (signed k n) + dn z) (up z + dn (signed k n)) (s.more + c.less) (s.less + c.more) (omega (arith, s.even, c.even))
    (omega (arith, integers, f.low, f.high, g.low, g.high)) (omega (arith, integers, f.low, f.high, g.low, g.high)))

-- the bits of a number that fits are read as that number
pub signed_bits : (k : ℕ) (z : ℤ) → 0 < k → Fits k z → signed k (bits k z) ≡ z
unfolding bits
signed_bits k z some f =
    signed_is k (z modulo 2 ^ k) z some (modulo_below z (pow_pos k)) f (residue z (2 ^ k) (pow_pos k))

-- a difference modulo 2^k, however it is made: what wraps to x when y is added
pub difference_wraps : (k r x y : ℕ) → r < 2 ^ k → (r + y) % 2 ^ k ≡ x → difference k x y ≡ signed k r
unfolding difference
difference_wraps k r x y h e = ap (signed k) (modulo_is (2 ^ k) r (pos x -ℤ pos y) h c)
  where
    c : Congruent (2 ^ k) (pos r) (pos x -ℤ pos y)
    c = record { less = 0; more = (r + y) / 2 ^ k; even = omega (arith, minus (pos x) (pos y), div-add-mod (r + y) (2 ^ k)) }

-- a difference is congruent to x - y, and fits
module _ (k x y : ℕ) (some : 0 < k) where
  pub difference_congruent : Congruent (2 ^ k) (difference k x y) (pos x -ℤ pos y)
  unfolding difference
  difference_congruent =
      let n = (pos x -ℤ pos y) modulo 2 ^ k in
      let s = signed_congruent k n some (modulo_below (pos x -ℤ pos y) (pow_pos k)) in
      let r = residue (pos x -ℤ pos y) (2 ^ k) (pow_pos k) in
      record { less = s.more + r.less; more = s.less + r.more; even = omega (arith, s.even, r.even) }

  pub difference_fits : Fits k (difference k x y)
  unfolding difference
  difference_fits = signed_fits k ((pos x -ℤ pos y) modulo 2 ^ k) some (modulo_below (pos x -ℤ pos y) (pow_pos k))

-- The law of differences, over the width: the difference of what x and y leave modulo 2^k is x - y exactly where x - y fits.
module _ (k : ℕ) (x y : ℤ) (some : 0 < k) where
  pub exact : Fits k (x -ℤ y) → difference k (x modulo 2 ^ k) (y modulo 2 ^ k) ≡ x -ℤ y
  unfolding difference
  exact f = signed_is k (N modulo M) (x -ℤ y) some (modulo_below N p) f
      (record { less = rn.less + rx.less + ry.more; more = rn.more + rx.more + ry.less; even = omega (arith, rn.even, rx.even, ry.even, minus x y, minus (pos (x modulo M)) (pos (y modulo M))) })
    where
      M : ℕ
      M = 2 ^ k

      p : 0 < 2 ^ k
      p = pow_pos k

      N : ℤ
      N = pos (x modulo M) -ℤ pos (y modulo M)

      rx : Congruent M (pos (x modulo M)) x
      rx = residue x M p

      ry : Congruent M (pos (y modulo M)) y
      ry = residue y M p

      rn : Congruent M (pos (N modulo M)) N
      rn = residue N M p
