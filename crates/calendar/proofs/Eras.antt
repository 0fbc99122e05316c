-- From a timestamp to its second and back. Since the eras are 2^32 s apart, the seconds of a timestamp are those from 1900 on, modulo 2^32.
use mathlib.Core.Path.{◌≡◌, sym}
use Prim.Native.Nat.{ℕ, ◌+◌, ◌-◌, ◌%◌, ◌^◌, ◌≤◌, ◌<◌}
use native.Mathlib.Omega.{arith}
use Rattle.std.proofs.lemmas.Bool.Decides.{nat_tests}
use Rattle.timestamp.specs.declared.Timestamp.{Timestamp}
use Rattle.timestamp.specs.Timestamp.{from_seconds, seconds_of, fraction_of}
use Rattle.calendar.specs.Calendar.{start1900, start2036, window_start, window_end, seconds_at, era_seconds}
use Rattle.calendar.proofs.Dates.{bounds}

-- as the code computes it, with the start of the first era in numbers
pub in_era : (s : ℕ) → start1900 ≤ s → s < start2036 + 2 ^ 32 → (s - 59958230400) % 2 ^ 32 ≡ era_seconds s
unfolding era_seconds
in_era s from to = grind (arith, nat_tests, bounds.era_1900, bounds.era_2036)

pub era_seconds_lem : (s : ℕ) → window_start ≤ s → s ≤ window_end → era_seconds s ≡ (s - start1900) % 2 ^ 32
era_seconds_lem s h l = rw bounds.era_1900 (sym (in_era s (omega (arith, bounds)) (omega (arith, bounds))))

-- s is in the window, and the seconds of t count to it
pub record Counts (t : Timestamp) (s : ℕ) : Type 0 where
  pub from : window_start ≤ s
  pub to : s ≤ window_end
  pub residue : (s - start1900) % 2 ^ 32 ≡ seconds_of t

pub seconds_at_lem : (t : Timestamp) → t.0 < 2 ^ 64 → Counts t (seconds_at t)
unfolding seconds_at
seconds_at_lem t h = record {
  from = grind (arith, nat_tests, bounds.era_1900, bounds.era_2036, bounds.window_first);
  to = grind (arith, nat_tests, bounds.era_1900, bounds.era_2036, bounds.window_last);
  residue = grind (arith, nat_tests, bounds.era_1900, bounds.era_2036);
}

module _ (s f : ℕ) (from : window_start ≤ s) (to : s ≤ window_end) (h : f < 2 ^ 32) where
  pub timestamp_fits : (from_seconds (era_seconds s) f).0 < 2 ^ 64
  timestamp_fits = omega (arith, era_seconds_lem s from to)

  pub seconds_back : seconds_at (from_seconds (era_seconds s) f) ≡ s
  unfolding seconds_at
  seconds_back = grind (arith, nat_tests, bounds.era_1900, bounds.era_2036, bounds.window_first, bounds.window_last, era_seconds_lem s from to)

  pub fraction_back : fraction_of (from_seconds (era_seconds s) f) ≡ f
  fraction_back = omega arith
