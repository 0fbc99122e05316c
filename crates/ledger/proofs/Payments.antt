-- One payment: the smaller of the limit and the debt's size, with the debt's sign.
use Prim.Native.Nat.{ℕ, min, ◌-◌, ◌^◌, ◌≤◌}
use native.Mathlib.Omega.{arith}
use mathlib.Core.Path.{◌≡◌, refl, ◌∙◌}
use lib.IntN.{ℤ, pos, negsuc, neg_ℤ, ◌-ℤ◌, nat_abs}
use Rattle.std.specs.Int.{int_max, int_min}
use Rattle.std.proofs.lemmas.Int.{ints, clamps, to_z-of_z}
use mir.Syntax.{w64}
use mir.Val.{SFits, of_z, to_z}
use Rattle.ledger.specs.Ledger.{payment}

-- the size of what is left
pub leaves : (debt : ℤ) (limit : ℕ) → nat_abs (debt -ℤ payment debt limit) ≡ nat_abs debt - limit
unfolding payment
leaves (pos n) limit = omega (arith, ints)
leaves (negsuc n) limit = omega (arith, ints)

-- the size of what is paid
pub pays : (debt : ℤ) (limit : ℕ) → nat_abs (payment debt limit) ≡ min (nat_abs debt) limit
unfolding payment
pays (pos n) limit = refl
pays (negsuc n) limit = omega (arith, ints)

-- the debt clamped to the limit either way
clamped_is : (debt : ℤ) (limit : ℕ) → int_max (neg_ℤ (pos limit)) (int_min debt (pos limit)) ≡ payment debt limit
unfolding payment
clamped_is (pos n) limit = grind (arith, ints, clamps)
clamped_is (negsuc n) limit = grind (arith, ints, clamps)

-- as the code computes it
pub clamped : (debt paid : ℤ) (limit : ℕ) → SFits w64 debt → SFits w64 paid → limit ≤ 2 ^ 32
    → paid ≡ int_max (to_z w64 (of_z w64 (pos 0 -ℤ to_z w64 limit))) (int_min (to_z w64 (of_z w64 debt)) (to_z w64 limit))
    → to_z w64 (of_z w64 paid) ≡ payment debt limit
clamped debt paid limit f g h e =
    let low : to_z w64 (of_z w64 (pos 0 -ℤ to_z w64 limit)) ≡ neg_ℤ (pos limit) = omega (arith, ints) in
    let high : to_z w64 limit ≡ pos limit = omega (arith, ints) in
    to_z-of_z w64 paid g ∙ e ∙ rw (low, to_z-of_z w64 debt f, high) (clamped_is debt limit)
