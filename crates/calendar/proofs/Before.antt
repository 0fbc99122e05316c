-- Laws of the days before a year or a month, and of the last year or month that begins by a day.
use mathlib.Core.Path.{◌≡◌, refl}
use mathlib.Core.Bool.{Bool, true, false, cond}
use Prim.Native.Nat.{ℕ, zero, suc, ◌≤◌, ◌<◌}
use native.Mathlib.Nat.{le_refl, le_antisymm, lt_of_not-le}
use native.Mathlib.Decide.{le_ind}
use native.Mathlib.Omega.{arith}
use borrow.Author.Tests.{leb-true, leb-false}
use lib.Dec.{leb}
use Rattle.calendar.specs.Gregorian.{before, last}

-- what comes later has at least as many days before it
pub before_mono : (days : ℕ → ℕ) (i j : ℕ) → i ≤ j → before days i ≤ before days j
unfolding before
before_mono days i j = le_ind (λ (j : ℕ). before days i ≤ before days j) (le_refl (before days i)) (λ j h e. omega arith) j

-- the year or month i has the day n: it begins by n, and n is before the next begins
pub record Has (days : ℕ → ℕ) (n i : ℕ) : Type 0 where
  pub begun : before days i ≤ n
  pub current : n < before days (suc i)

-- the last, up to k, that begins by n has the day n, where n is before the one after k begins
pub last_has : (days : ℕ → ℕ) (n k : ℕ) → n < before days (suc k) → Has days n (last days n k)
unfolding last before
last_has days n zero h = record { begun = omega arith; current = h }
last_has days n (suc k) h = go (last_has days n k) (leb (before days (suc k)) n) refl
  where
    go : (n < before days (suc k) → Has days n (last days n k)) → (t : Bool) → leb (before days (suc k)) n ≡ t
        → Has days n (cond t (suc k) (last days n k))
    go ih true t = record { begun = leb-true (before days (suc k)) n t; current = h }
    go ih false t = ih (leb-false (before days (suc k)) n t)

-- of two that have the day n neither is after the other
has_le : (days : ℕ → ℕ) (n i j : ℕ) → Has days n i → Has days n j → i ≤ j
has_le days n i j a b =
    omega (arith, lt_of_not-le {n = suc j} {m = i} λ g. omega (arith, before_mono days (suc j) i g, a.begun, b.current))

pub last_is : (days : ℕ → ℕ) (n k i : ℕ) → i ≤ k → Has days n i → last days n k ≡ i
last_is days n k i h a =
    let b = last_has days n k (omega (arith, before_mono days (suc i) (suc k) (omega arith), a.current)) in
    le_antisymm (has_le days n (last days n k) i b a) (has_le days n i (last days n k) a b)
