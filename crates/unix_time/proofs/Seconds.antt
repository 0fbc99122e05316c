-- Unix seconds in numbers, as the code has them.
use mathlib.Core.Path.{◌≡◌, refl, sym, ap, ◌∙◌}
use mathlib.Core.Bool.{Bool, true, false, true≢false}
use Prim.Native.Nat.{ℕ, ◌+◌, ◌%◌, ◌^◌, ◌≤◌, ◌<◌}
use native.Mathlib.Omega.{arith}
use lib.IntN.{ℤ, pos, negsuc, ◌-ℤ◌, nat_abs}
use mir.Syntax.{w64}
use mir.Val.{SFits, of_z, to_z}
use Rattle.std.proofs.lemmas.Int.{ints}
use Rattle.std.proofs.lemmas.Bool.{false_from_ne_true}
use Rattle.calendar.specs.Gregorian.{leap_days, year_days, month_days, before}
use Rattle.calendar.specs.Dates.{seconds_to, days_to}
use mathlib.Core.Bool.{not}
use Rattle.refusals.specs.declared.Refusal.TheVariants.{OutsideWindow, TimestampZero}
use Rattle.ordered_tests.specs.Tests.{◌if◌else◌, otherwise, given}
use Rattle.timestamp.specs.Timestamp.{from_seconds, is_zero}
use Rattle.calendar.specs.Calendar.{window_start, window_end, in_window, era_seconds, second_tests}
use Rattle.calendar.proofs.Dates.{window_has, window_yes, bounds}
use Rattle.unix_time.specs.UnixTime.{start1970, unix_second, from_year0, inside}

pub start_1970 : start1970 ≡ 62167219200
unfolding start1970 seconds_to days_to before year_days month_days leap_days
start_1970 = refl

pub unix_second_is : (s : ℕ) → s < 2 ^ 63 → to_z w64 (of_z w64 (to_z w64 s -ℤ pos 62167219200)) ≡ unix_second s
unfolding unix_second
unix_second_is s h = rw start_1970 (omega (arith, ints))

-- the second y after the start of the year 0 is in the window
pub record Inside (y : ℤ) : Type 0 where
  pub is : pos (nat_abs y) ≡ y
  pub from : window_start ≤ nat_abs y
  pub to : nat_abs y ≤ window_end

pub inside_has : (y : ℤ) → inside y ≡ true → Inside y
inside_has (pos s) e = let w = window_has s e in record { is = refl; from = w.0; to = w.1 }
inside_has (negsuc n) e = absurd (true≢false (sym e))

pub inside_yes : (y : ℤ) → Inside y → inside y ≡ true
inside_yes (pos s) i = window_yes s i.from i.to
inside_yes (negsuc n) i = absurd (omega (arith, ints, i.is))

-- the second that the code counts to
abbrev pub second : ℤ → ℕ
second z = (62167219200 + of_z w64 z) % 2 ^ 64

module _ (z : ℤ) (f : SFits w64 z) where
  pub second_is : inside (from_year0 z) ≡ true → second z ≡ nat_abs (from_year0 z)
  second_is e = go z f (inside_has (from_year0 z) e)
    where
      go : (y : ℤ) → SFits w64 y → Inside (from_year0 y) → second y ≡ nat_abs (from_year0 y)
      go (pos n) g i = omega (arith, start_1970, g.sfits)
      go (negsuc n) g i = omega (arith, ints, bounds, start_1970, g.sfits, i.is, i.to)

  -- and it is in the window exactly where the Unix second is
  pub window_is : in_window (second z) ≡ inside (from_year0 z)
  window_is = go (inside (from_year0 z)) refl
    where
      has : Inside (from_year0 z) → in_window (second z) ≡ true
      has i = ap in_window (second_is (inside_yes (from_year0 z) i)) ∙ window_yes (nat_abs (from_year0 z)) i.from i.to

      back : (y : ℤ) → SFits w64 y → in_window (second y) ≡ true → Inside (from_year0 y)
      back (pos n) g e = let w = window_has (second (pos n)) e in record { is = refl; from = omega (arith, start_1970, g.sfits, w); to = omega (arith, start_1970, g.sfits, w) }
      back (negsuc n) g e = let w = window_has (second (negsuc n)) e in record { is = omega (arith, ints, bounds, start_1970, g.sfits, w); from = omega (arith, ints, bounds, start_1970, g.sfits, w); to = omega (arith, ints, bounds, start_1970, g.sfits, w) }

      go : (b : Bool) → inside (from_year0 z) ≡ b → in_window (second z) ≡ b
      go true e = has (inside_has (from_year0 z) e)
      go false e = false_from_ne_true (in_window (second z)) λ t. true≢false (sym (inside_yes (from_year0 z) (back z f t)) ∙ e)

  -- so it has the timestamp of the Unix second, or none as that has none
  pub counts : (f : ℕ) → given (second_tests (second z) f) ≡ given (
      OutsideWindow if not (inside (from_year0 z)) else
      TimestampZero if is_zero (from_seconds (era_seconds (nat_abs (from_year0 z))) f) else
      otherwise (from_seconds (era_seconds (nat_abs (from_year0 z))) f))
  counts f = rw window_is (go (inside (from_year0 z)) refl)
    where
      go : (b : Bool) → inside (from_year0 z) ≡ b → given (
          OutsideWindow if not b else
          TimestampZero if is_zero (from_seconds (era_seconds (second z)) f) else
          otherwise (from_seconds (era_seconds (second z)) f)) ≡ given (
          OutsideWindow if not b else
          TimestampZero if is_zero (from_seconds (era_seconds (nat_abs (from_year0 z))) f) else
          otherwise (from_seconds (era_seconds (nat_abs (from_year0 z))) f))
      go true e = rw (second_is e) refl
      go false e = refl
