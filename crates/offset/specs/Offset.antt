-- The offset, the half and the delay of four timestamps: T1 sent, T2 received, T3 answered, T4 arrived (docs/RULES.md, "Timestamps and their differences").
use Rattle.std.specs.Prelude.{ℕ, suc, ◌/◌, ℤ, pos, negsuc, neg_ℤ, ◌+ℤ◌, ◌-ℤ◌, Result}
use Rattle.std.specs.Int.Signed.{lt_z}
use Rattle.arithmetic.specs.Modulo.{◌modulo◌}
use Rattle.refusals.specs.declared.Refusal.{Refusal}
use Rattle.refusals.specs.declared.Refusal.TheVariants.{ArrivedBeforeSent, ArrivedTooLate, AnsweredBeforeReceived, DelayNegative, FirstBelowSecond, NoOrder}
use Rattle.ordered_tests.specs.Tests.{Tests, ◌if◌else◌, otherwise, given}
use Rattle.timestamp.specs.declared.Timestamp.{Timestamp}
use Rattle.timestamp.specs.Timestamp.{constants, ◌since◌, has_no_order, negative}
use Rattle.offset.specs.declared.Halves.{Halves}
use Rattle.offset.specs.declared.Measurement.{Measurement}

-- the greatest whole number not above sum / 2; `negsuc a` is -(a + 1), and half of it, rounded down, is -(a / 2 + 1)
unfoldable pub floor_half : ℤ → ℤ
floor_half (pos a) = pos (a / 2)
floor_half (negsuc a) = neg_ℤ (pos (suc (a / 2)))

-- the rules' half: what is left of the sum, 0 or 1
unfoldable pub half_of : ℤ → ℕ
half_of sum = sum modulo 2

unfoldable pub halves : ℤ → Halves
halves sum = record { offset = floor_half sum; half = half_of sum }

-- the tests in order, of T4 - T1, T3 - T2, the first difference P and the second difference Q; the delay d is (T4 - T1) - (T3 - T2)
unfoldable pub offset_tests : ℤ → ℤ → ℤ → ℤ → Tests Measurement
offset_tests trip hold p q =
    NoOrder if has_no_order trip else
    ArrivedBeforeSent if negative trip else
    ArrivedTooLate if lt_z constants.limit trip else
    NoOrder if has_no_order hold else
    AnsweredBeforeReceived if negative hold else
    DelayNegative if negative (trip -ℤ hold) else
    NoOrder if has_no_order p else
    NoOrder if has_no_order q else
    FirstBelowSecond if lt_z p q else
    otherwise (record { offset = floor_half (p +ℤ q); half = half_of (p +ℤ q); delay = trip -ℤ hold })

-- the rules' first difference P = T2 - T1, second difference Q = T3 - T4
unfoldable pub measured : (t1 t2 t3 t4 : Timestamp) → Result Measurement Refusal
measured t1 t2 t3 t4 = given (offset_tests (t4 since t1) (t3 since t2) (t2 since t1) (t3 since t4))
