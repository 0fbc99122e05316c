-- Unix times of timestamps and timestamps of Unix times meet their forms.
use Prim.Native.Nat.{◌^◌}
use mathlib.Core.Path.{refl}
use lib.IntN.{ℤ, pos, negsuc}
use lib.Signed.{le_z, ◌≤ℤ◌}
use Rattle.calendar.specs.Calendar.{window_start, window_end, in_window}
use Rattle.unix_time.specs.UnixTime.{unix_time_tests, unix_time_of, from_year0, inside, timestamp_at, timestamp_tests, timestamp_of}
use Rattle.demands.specs.UnixTime as unix
use Rattle.demands.specs.UnixTime.{unix_time}
use Rattle.demands.specs.TimestampOfUnix as back
use Rattle.demands.specs.TimestampOfUnix.{timestamp_of_unix}
use Rattle.ordered_tests.proofs.Reflection.{WhereTrue, negated, conjoined, below}
use Rattle.demands.proofs.Facts.{available}
use Rattle.demands.proofs.Form.{Meets, ◌and◌, end, by, acceptance_shown, given_meets}

pub unix_time_meets : Meets unix_time unix.ours
unfolding unix_time_of
unix_time_meets = given_meets unix_time_tests (by 2) (λ t. acceptance_shown) (λ t. refl) (λ t. available t and end refl)

not_later : (y z : ℤ) → WhereTrue (y ≤ℤ z) (le_z y z)
not_later y z = record { to = λ l. l.le; from = λ t. record { le = t } }

-- a second before the year 0 is before the window
window_tested : (y : ℤ) → WhereTrue ((pos window_start ≤ℤ y) × (y ≤ℤ pos window_end)) (inside y)
unfolding in_window
window_tested (pos s) = conjoined (not_later (pos window_start) (pos s)) (not_later (pos s) (pos window_end))
window_tested (negsuc n) = record { to = λ w. w.0.le; from = λ t. absurd t }

pub timestamp_of_unix_meets : Meets timestamp_of_unix back.ours
unfolding timestamp_of
timestamp_of_unix_meets = given_meets timestamp_tests (by 1) (λ u. acceptance_shown) (λ u. refl)
    (λ u. below u.nanoseconds (10 ^ 9) and negated (window_tested (from_year0 u.seconds)) and available (timestamp_at u) and end refl)
