-- The arithmetic of four timestamps meets its form.
use Prim.Native.Nat.{◌^◌}
use mathlib.Core.Path.{refl}
use native.Mathlib.Omega.{arith}
use lib.IntN.{ℤ, pos}
use lib.Signed.{lt_z, ◌≤ℤ◌}
use Rattle.arithmetic.proofs.Integers.{integers}
use Rattle.refusals.specs.declared.Refusal.TheVariants.{ArrivedBeforeSent, ArrivedTooLate, AnsweredBeforeReceived, DelayNegative, FirstBelowSecond, NoOrder}
use Rattle.ordered_tests.specs.Tests.{Tests, ◌if◌else◌}
use Rattle.timestamp.specs.Timestamp.{constants, ◌since◌, has_no_order, negative}
use Rattle.offset.specs.Offset.{offset_tests, measured}
use Rattle.demands.specs.Form.{Rules}
use Rattle.demands.specs.Measure.{Four, P, Q, d, four_rules, measure, ours}
use Rattle.ordered_tests.proofs.Reflection.{WhereFalse}
use Rattle.demands.proofs.Facts.{in_order}
use Rattle.demands.proofs.Form.{Meets, Reflects, ◌and◌, end, by, acceptance_shown, given_meets}

pub not_negative : (z : ℤ) → WhereFalse (pos 0 ≤ℤ z) (negative z)
not_negative z = record { to = λ h. omega (arith, integers); from = λ t. omega (arith, integers) }

pub at_most : (z limit : ℤ) → WhereFalse (z ≤ℤ limit) (lt_z limit z)
at_most z limit = record { to = λ h. omega (arith, integers); from = λ t. omega (arith, integers) }

-- the nine tests, before any rest
pub four_rows : {A O : Type 0} {say : A → O} {t : Tests A} {r : Rules O} (x : Four) → Reflects say t r
    → Reflects say
    (NoOrder if has_no_order (x.t4 since x.t1) else
    ArrivedBeforeSent if negative (x.t4 since x.t1) else
    ArrivedTooLate if lt_z constants.limit (x.t4 since x.t1) else
    NoOrder if has_no_order (x.t3 since x.t2) else
    AnsweredBeforeReceived if negative (x.t3 since x.t2) else
    DelayNegative if negative (d x) else
    NoOrder if has_no_order (P x) else
    NoOrder if has_no_order (Q x) else
    FirstBelowSecond if lt_z (P x) (Q x) else
    t) (four_rules x r)
four_rows x rest =
    in_order (x.t4 since x.t1)
    and not_negative (x.t4 since x.t1)
    and at_most (x.t4 since x.t1) (pos (2 ^ 36))
    and in_order (x.t3 since x.t2)
    and not_negative (x.t3 since x.t2)
    and not_negative (d x)
    and in_order (P x)
    and in_order (Q x)
    and at_most (Q x) (P x)
    and rest

pub measure_meets : Meets measure ours
unfolding measured offset_tests
measure_meets = given_meets (λ x. offset_tests (x.t4 since x.t1) (x.t3 since x.t2) (P x) (Q x)) (by 3) (λ x. acceptance_shown) (λ x. refl) (λ x. four_rows x (end refl))
