-- The laws of halving, and halving as the code does it.
use mathlib.Core.Path.{◌≡◌, refl, sym, subst, ap, ◌∙◌}
use mathlib.Core.Bool.{Bool, true, false, not}
use Prim.Native.Nat.{ℕ, suc, ◌+◌, ◌-◌, ◌*◌, ◌/◌, ◌%◌, ◌^◌, ◌≤◌, ◌<◌}
use native.Mathlib.Omega.{arith}
use lib.Bits.{bit_and, bit_xor, and_mask, and_shr, xor_shr, xor_add_and}
use lib.Dec.{T, ltb, ltb→lt, nltb→le}
use lib.IntN.{ℤ, pos, negsuc, ◌+ℤ◌}
use lib.Signed.{mag, shr_z, mag_shr}
use mir.Syntax.{w64}
use mir.Val.{Fits, SFits, sel, to_z, of_z}
use mir.ValLaws.{sfits_le}
use mir.Facts.{Fits-and, Fits-xor, Fits-of_z, sfits_to_z, to_z_pos, to_z-of_z, of_z-to_z}
use Rattle.arithmetic.specs.Modulo.{◌modulo◌}
use Rattle.arithmetic.proofs.Integers.{up, dn, integers, sum}
use Rattle.arithmetic.proofs.Modulo.{modulo_below}
use Rattle.arithmetic.proofs.Machine.{held, flags, fits_integers}
use Rattle.offset.specs.Offset.{floor_half, half_of}
use Rattle.offset.specs.Halving.{twice, Halving}

pub half_below : (z : ℤ) → half_of z < 2
unfolding half_of
half_below z = modulo_below z (omega arith)

-- twice the offset plus the half is the sum, in natural numbers
exact_up : (z : ℤ) → up (floor_half z) + up (floor_half z) + half_of z + dn z ≡ up z + (dn (floor_half z) + dn (floor_half z))
unfolding floor_half half_of ◌modulo◌
exact_up (pos a) = omega arith
exact_up (negsuc a) = omega arith

pub halving : (z : ℤ) → Halving z
halving z =
    let e = exact_up z in
    let h = half_below z in
    let s = sum (floor_half z) (floor_half z) in
    record {
      exact = omega (arith, integers, sum (twice (floor_half z)) (pos (half_of z)));
      small = omega arith;
      only = λ o k l p. let t = sum o o in (omega (arith, integers, sum (twice o) (pos k)), omega (arith, integers, sum (twice o) (pos k)));
      not_above = omega (arith, integers);
      greatest = λ w l. let t = sum w w in omega (arith, integers);
    }

-- ---- in code: a shift to the right by one place is the floor, and the lowest bit is the half

shift : (z : ℤ) → shr_z z 2 ≡ floor_half z
unfolding floor_half
shift (pos a) = refl
shift (negsuc a) = refl

pub shifted : {z : ℤ} → SFits w64 z → held w64 (shr_z z 2) ≡ floor_half z
shifted {z} f = rw (to_z-of_z (sfits_le (mag_shr z 2) f)) (shift z)

parity : (z : ℤ) → mag z < 2 ^ 63 → of_z w64 z % 2 ≡ half_of z
unfolding half_of ◌modulo◌
parity (pos a) h = refl
parity (negsuc a) h = omega arith

pub low_bit : {n : ℕ} → Fits w64 n → to_z w64 (bit_and n 1) ≡ pos (half_of (to_z w64 n))
low_bit {n} f =
    let e = ap (λ m. m % 2) (sym (of_z-to_z f)) ∙ parity (to_z w64 n) (sfits_to_z f).sfits in
    rw (and_mask n 1) (rw e (to_z_pos w64 (omega (arith, half_below (to_z w64 n)))))

-- ---- the sum of two numbers, bit by bit: twice the ones that both have, plus the ones that one of them has

-- the highest of 64 bits counts 2^63 in a plain number and -2^63 in a signed one, so 2^64 less
highest : {n : ℕ} → Fits w64 n → up (to_z w64 n) + 2 ^ 64 * (n / 2 ^ 63) ≡ n + dn (to_z w64 n)
highest {n} f = go (ltb n (2 ^ 63)) (ltb→lt n (2 ^ 63)) (nltb→le n (2 ^ 63))
  where
    read : Bool → ℤ
    read b = sel b (pos n) (negsuc (2 ^ 64 - suc n))

    go : (b : Bool) → (T b → n < 2 ^ 63) → (T (not b) → 2 ^ 63 ≤ n) → up (read b) + 2 ^ 64 * (n / 2 ^ 63) ≡ n + dn (read b)
    go true l g = omega (arith, l tt)
    go false l g = omega (arith, g tt, f.fits)

module _ (p q : ℤ) where
  abbrev pub both : ℤ
  both = to_z w64 (bit_and (of_z w64 p) (of_z w64 q))

  abbrev pub one : ℤ
  one = to_z w64 (bit_xor (of_z w64 p) (of_z w64 q))

  module _ (f : SFits w64 p) (g : SFits w64 q) where
    pub one_fits : Fits w64 (bit_xor (of_z w64 p) (of_z w64 q))
    one_fits = Fits-xor (Fits-of_z f) (Fits-of_z g)

    bit_by_bit : up both + up both + up one + (dn p + dn q) ≡ up p + up q + (dn both + dn both + dn one)
    bit_by_bit =
        let a = of_z w64 p in
        let b = of_z w64 q in
        let h = highest (Fits-and b (Fits-of_z f)) in
        let i = highest one_fits in
        let j = subst (λ z. up z + 2 ^ 64 * (a / 2 ^ 63) ≡ a + dn z) (to_z-of_z f) (highest (Fits-of_z f)) in
        let k = subst (λ z. up z + 2 ^ 64 * (b / 2 ^ 63) ≡ b + dn z) (to_z-of_z g) (highest (Fits-of_z g)) in
        omega (arith, and_shr a b 63, xor_shr a b 63, xor_add_and a b, xor_add_and (a / 2 ^ 63) (b / 2 ^ 63))

    pub together : (both +ℤ floor_half one ≡ floor_half (p +ℤ q)) × (half_of one ≡ half_of (p +ℤ q))
    together =
        let o = both +ℤ floor_half one in
        let a = bit_by_bit in
        let b = exact_up one in
        let c = sum both (floor_half one) in
        let d = sum p q in
        let e = sum o o in
        (halving (p +ℤ q)).only o (half_of one) (omega (arith, half_below one)) (omega (arith, integers, sum (twice o) (pos (half_of one))))

    pub together_fits : SFits w64 (both +ℤ floor_half one)
    together_fits = omega (arith, integers, flags, sum both (floor_half one), exact_up one, half_below one, bit_by_bit, fits_integers w64 p f, fits_integers w64 q g)
