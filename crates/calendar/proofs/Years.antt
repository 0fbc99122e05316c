-- The days before a year in closed form, and the year of a day.
use mathlib.Core.Path.{◌≡◌, refl, sym, ap, ◌∙◌}
use mathlib.Core.Bool.{cond}
use Prim.Native.Nat.{ℕ, zero, suc, ◌+◌, ◌*◌, ◌/◌, ◌%◌, ◌≤◌, ◌<◌}
use native.Mathlib.Nat.{div-add-mod', mod-lt, zero-lt-suc}
use native.Mathlib.Numerals.{add-one}
use native.Mathlib.Omega.{arith}
use lib.Arith.{digits_div}
use Rattle.std.proofs.lemmas.Bool.Decides.{nat_tests}
use lib.Dec.{eqb, eqb-suc-zero}
use Rattle.calendar.specs.Gregorian.{divides, leap_days, year_days, before}
use Rattle.calendar.specs.Dates.{year_on}
use Rattle.calendar.proofs.Before.{last_is}

pub leap_small : (y : ℕ) → leap_days y < 2
unfolding leap_days
leap_small y = grind (arith, nat_tests)

-- 1 where k divides y, and else 0
divisible : ℕ → ℕ → ℕ
divisible k y = cond (divides k y) 1 0

-- the leap days of y, by inclusion and exclusion
leap_days_lem : (y : ℕ) → leap_days y + divisible 100 y ≡ divisible 4 y + divisible 400 y
unfolding leap_days divisible
leap_days_lem y = grind (arith, nat_tests)

-- y / k rounded up, with k one more than j, is one more in the next year where k divides y, and else the same
up : ℕ → ℕ → ℕ
up j y = (y + j) / suc j

up_next : (j y : ℕ) → up j (suc y) ≡ up j y + divisible (suc j) y
unfolding up divisible
up_next j y = go (y / suc j) (y % suc j) (sym (div-add-mod' y (suc j))) (mod-lt y (zero-lt-suc j))
  where
    is : (n q r : ℕ) → n ≡ q * suc j + r → r < suc j → n / suc j ≡ q
    is n q r e h = ap (λ (m : ℕ). m / suc j) e ∙ digits_div q h

    go : (q r : ℕ) → y ≡ q * suc j + r → r < suc j → (suc y + j) / suc j ≡ (y + j) / suc j + cond (eqb r 0) 1 0
    go q zero e h = omega (arith, is (suc y + j) (suc q) 0 (omega arith) h, is (y + j) q j (omega arith) (omega arith))
    go q (suc r) e h =
        rw eqb-suc-zero (omega (arith, is (suc y + j) (suc q) (suc r) (omega arith) h, is (y + j) (suc q) r (omega arith) (omega arith)))

-- the days before a year; `up` stays shut, so that `omega` takes each quotient as one unknown
closed : (y : ℕ) → before year_days y + up 99 y ≡ 365 * y + up 3 y + up 399 y
unfolding before year_days
closed zero = unfold up in refl
closed (suc y) = omega (arith, closed y, leap_days_lem y, up_next 3 y, up_next 99 y, up_next 399 y)

pub years : (y : ℕ) → before year_days y + (y + 99) / 100 ≡ 365 * y + (y + 3) / 4 + (y + 399) / 400
unfolding up
years y = closed y

-- the year of the day n, as `year_on` computes it: 4 * n / 1461, unless the next year has begun
abbrev Year : ℕ → ℕ → Type 0
Year n y = (y ≡ year_on n) × (y ≤ 2104) × (before year_days y ≤ n) × (n < before year_days y + (365 + leap_days y))

module _ (n : ℕ) (from : 146000 ≤ n) (to : n < 768600) where
  year_is : (y : ℕ) → before year_days y ≤ n → n < before year_days (suc y) → Year n y
  unfolding year_on before year_days
  year_is y b e =
      let h : y ≤ 2104 = omega (arith, years y) in
      (sym (last_is year_days n 2104 y h (record { begun = b; current = e })), h, b, e)

  pub year_below : n < before year_days (4 * n / 1461 + 1) → Year n (4 * n / 1461)
  year_below e = year_is (4 * n / 1461) (omega (arith, years (4 * n / 1461))) (rw add-one at e)

  pub year_above : before year_days (4 * n / 1461 + 1) ≤ n → Year n (4 * n / 1461 + 1)
  year_above b = year_is (4 * n / 1461 + 1) b (omega (arith, years (suc (4 * n / 1461 + 1))))
