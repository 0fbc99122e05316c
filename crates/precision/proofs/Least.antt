-- The smallest power of two not below a tick, found by a search and by a length in bits, and its exponent as an octet.
use mathlib.Core.Path.{◌≡◌, refl}
use mathlib.Core.Bool.{Bool, true, false, cond}
use Prim.Native.Nat.{ℕ, zero, suc, ◌-◌, ◌^◌, ◌≤◌, ◌<◌}
use native.Mathlib.Nat.{lt_of_not-le}
use native.Mathlib.Omega.{arith}
use borrow.Author.Tests.{leb-true, leb-false}
use lib.Count.{count_leading_zeros, leading_length}
use lib.Dec.{leb}
use lib.IntN.{pos, ◌-ℤ◌}
use lib.Pow.{pow_mono}
use mir.Syntax.{w8}
use mir.Val.{to_z, of_z}
use Rattle.std.proofs.lemmas.Int.{ints}
use Rattle.precision.specs.Precision.{least}
use Rattle.precision.specs.SmallestPower.{Smallest}

least_le : (t n : ℕ) → least t n ≤ n
unfolding least
least_le t zero = omega arith
least_le t (suc n) = go (leb t (2 ^ least t n)) (least_le t n)
  where
    go : (b : Bool) → least t n ≤ n → cond b (least t n) (suc n) ≤ suc n
    go true h = omega arith
    go false h = omega arith

-- the search up to n finds the smallest power, where 2 ^ n is not below t
pub least_smallest : (t n : ℕ) → t ≤ 2 ^ n → Smallest t (least t n)
unfolding least
least_smallest t zero h = record { not_below = h; smaller_below = λ j l. omega arith }
least_smallest t (suc n) h = go (least_smallest t n) (leb t (2 ^ least t n)) refl
  where
    go : (t ≤ 2 ^ n → Smallest t (least t n)) → (b : Bool) → leb t (2 ^ least t n) ≡ b → Smallest t (cond b (least t n) (suc n))
    go ih true e = ih (omega (arith, leb-true t (2 ^ least t n) e, pow_mono (least_le t n)))
    go ih false e =
        let above : 2 ^ n < t = lt_of_not-le λ g. omega (arith, (ih g).not_below, leb-false t (2 ^ least t n) e) in
        record { not_below = h; smaller_below = λ j l. let g : j ≤ n = omega arith in omega (arith, pow_mono g) }

-- no smallest power is above another
smallest_le : (t i j : ℕ) → Smallest t i → Smallest t j → i ≤ j
smallest_le t i j a b = omega (arith, lt_of_not-le {n = suc j} {m = i} λ g. omega (arith, a.smaller_below j g, b.not_below))

-- the length of t - 1 in bits is the least k
pub length_is : (t : ℕ) → (t ≡ 0 → ⊥) → t ≤ 2 ^ 32 → 64 - count_leading_zeros 64 (t - 1) ≡ least t 32
length_is t p h =
    let s = leading_length 64 (t - 1) (omega arith) in
    let a : Smallest t s.0 = record { not_below = omega (arith, s.2); smaller_below = λ j g. omega (arith, pow_mono g, s.3) } in
    let b = least_smallest t 32 h in
    omega (arith, s.1, smallest_le t s.0 (least t 32) a b, smallest_le t (least t 32) s.0 b a)

-- that length less 32, as the code computes it in an octet
pub octet_is : (t : ℕ) → (t ≡ 0 → ⊥) → t ≤ 2 ^ 32 → to_z w8 (of_z w8 (to_z w8 (64 - count_leading_zeros 64 (t - 1)) -ℤ pos 32)) ≡ pos (least t 32) -ℤ pos 32
octet_is t p h = rw (length_is t p h) (let l = least_le t 32 in omega (arith, ints))
