-- Laws behind the code of the tests: a comparison stands for the sign of a difference, and the delay fits.
use mathlib.Core.Path.{◌≡◌, refl, sym}
use mathlib.Core.Bool.{Bool, true, false, cond, not}
use lib.Dec.{T}
use Rattle.ordered_tests.specs.Tests.{given}
use Rattle.ordered_tests.proofs.Tests.{passes}
use Rattle.offset.specs.Offset.{floor_half, half_of, offset_tests}
use native.Mathlib.Omega.{arith}
use lib.IntN.{ℤ, pos, ◌-ℤ◌}
use lib.Signed.{lt_z}
use mir.Syntax.{w64}
use mir.Val.{SFits}
use Rattle.std.specs.Prelude.{MatchResult, Some, None, Ok, ◌+ℤ◌}
use Rattle.std.specs.Option.{ok_or}
use Rattle.refusals.specs.declared.Refusal.TheVariants.{NoOrder}
use mir.Facts.{to_z-of_z}
use Rattle.timestamp.specs.declared.Timestamp.{Timestamp}
use Rattle.timestamp.specs.Timestamp.{constants, ◌since◌, has_no_order, ordered, negative}
use Rattle.timestamp.proofs.Order.{sfits}
use Rattle.arithmetic.proofs.Integers.{integers, minus}
use Rattle.arithmetic.proofs.Machine.{held, flags, fits_integers}
use Rattle.ordered_tests.proofs.Reflection.{is_true, is_false}

-- trip < hold is the test of d below zero
pub lt_minus : (a b : ℤ) → lt_z a b ≡ lt_z (a -ℤ b) (pos 0)
lt_minus a b = go (lt_z a b) refl
  where
    go : (c : Bool) → lt_z a b ≡ c → c ≡ lt_z (a -ℤ b) (pos 0)
    go true e = sym ((is_true (lt_z (a -ℤ b) (pos 0))).from (omega (arith, integers, flags, minus a b)))
    go false e = sym ((is_false (lt_z (a -ℤ b) (pos 0))).from (omega (arith, integers, flags, minus a b)))

-- where neither is negative, the delay fits 64 bits
pub delay_fits : (trip hold : ℤ) → SFits w64 trip → SFits w64 hold → lt_z trip (pos 0) ≡ false → lt_z hold (pos 0) ≡ false → SFits w64 (trip -ℤ hold)
delay_fits trip hold f g t h = omega (arith, integers, flags, minus trip hold, fits_integers w64 trip f, fits_integers w64 hold g)

-- a difference that has an order, and no order
pub in_order : (z : ℤ) → MatchResult (ok_or (ordered z) NoOrder) (λ v. (has_no_order z ≡ false) × (v ≡ z)) (λ r. (has_no_order z ≡ true) × (r ≡ NoOrder))
unfolding ordered
in_order z = go (has_no_order z)
  where
    go : (b : Bool) → MatchResult (ok_or (cond b None (Some z)) NoOrder) (λ v. (b ≡ false) × (v ≡ z)) (λ r. (b ≡ true) × (r ≡ NoOrder))
    go true = (refl, refl)
    go false = (refl, refl)

-- a local of the code that holds a difference
pub local : (x y : Timestamp) {v : ℤ} → v ≡ x since y → held w64 v ≡ x since y
local x y e = rw e (to_z-of_z (sfits x y))

-- where no test of the table holds, the measurement is given
no : {b : Bool} → b ≡ false → T (not b)
no {b} e = (is_false b).to e

pub record NoTestHolds (trip hold p q : ℤ) : Type 0 where
  pub trip_ordered : has_no_order trip ≡ false
  pub sent : negative trip ≡ false
  pub within : lt_z constants.limit trip ≡ false
  pub hold_ordered : has_no_order hold ≡ false
  pub answered : negative hold ≡ false
  pub delay : negative (trip -ℤ hold) ≡ false
  pub p_ordered : has_no_order p ≡ false
  pub q_ordered : has_no_order q ≡ false
  pub sides : lt_z p q ≡ false

pub measures : {trip hold p q : ℤ} → NoTestHolds trip hold p q
    → given (offset_tests trip hold p q) ≡ Ok (record { offset = floor_half (p +ℤ q); half = half_of (p +ℤ q); delay = trip -ℤ hold })
unfolding offset_tests
measures {trip} {hold} {p} {q} n =
    passes (offset_tests trip hold p q)
    (no n.trip_ordered, (no n.sent, (no n.within, (no n.hold_ordered, (no n.answered, (no n.delay, (no n.p_ordered, (no n.q_ordered, (no n.sides, tt)))))))))
