-- The months in closed form. Each law is a test that antt computes over the whole year, and one lemma that turns the test into the law.
use mathlib.Core.Path.{◌≡◌, refl, sym, subst}
use mathlib.Core.Bool.{Bool, true, false, cond, ◌&&◌, and-eq-true_iff}
use mathlib.Core.List.{List, [], ◌∷◌}
use Prim.Native.Nat.{ℕ, zero, suc, ◌+◌, ◌-◌, ◌*◌, ◌/◌, ◌≤◌, ◌<◌}
use native.Mathlib.Nat.{add-zero, not-suc-le-zero, zero-lt-suc, lt_of_not-le}
use native.Mathlib.Numerals.{add-one}
use native.Mathlib.Omega.{arith}
use borrow.Author.Tests.{eqb-true, eqb-false, ltb-true, ltb-false, le-leb, lt-leb}
use mir.Val.{bool_byte}
use lib.Dec.{eqb, leb, ltb}
use lib.ListN.{get_or, get_or-eq_default}
use Rattle.calendar.specs.Gregorian.{leap_days, year_days, month_lengths, month_days, before, last}
use Rattle.calendar.proofs.Before.{last_has}
use Rattle.calendar.proofs.Years.{leap_small}

-- f holds of each number below n
abbrev all : ℕ → (ℕ → Bool) → Bool
all zero f = true
all (suc n) f = f n && all n f

all_at : (n : ℕ) (f : ℕ → Bool) → all n f ≡ true → (k : ℕ) → k < n → f k ≡ true
all_at zero f t k h = absurd (not-suc-le-zero h)
all_at (suc n) f t k h = go (eqb k n) refl ((and-eq-true_iff (f n) (all n f)).0 t) (all_at n f)
  where
    go : (b : Bool) → eqb k n ≡ b → (f n ≡ true) × (all n f ≡ true) → (all n f ≡ true → (k : ℕ) → k < n → f k ≡ true) → f k ≡ true
    go true e t ih = rw (eqb-true k n e) t.0
    go false e t ih = ih t.1 k (omega (arith, eqb-false k n e))

-- two functions of the leap days ℓ, and of a number below n ℓ, agree
abbrev agree : (ℕ → ℕ) → (ℕ → ℕ → ℕ) → (ℕ → ℕ → ℕ) → Bool
agree n f g = all 2 (λ ℓ. all (n ℓ) (λ k. eqb (f ℓ k) (g ℓ k)))

agree_at : (n : ℕ → ℕ) (f g : ℕ → ℕ → ℕ) → agree n f g ≡ true → (ℓ k : ℕ) → ℓ < 2 → k < n ℓ → f ℓ k ≡ g ℓ k
agree_at n f g t ℓ k h b =
    eqb-true (f ℓ k) (g ℓ k)
    (all_at (n ℓ) (λ k. eqb (f ℓ k) (g ℓ k)) (all_at 2 (λ ℓ. all (n ℓ) (λ k. eqb (f ℓ k) (g ℓ k))) t ℓ h) k b)

-- the table of the months' days, as the code has it
abbrev lengths : List ℕ
lengths = 0 ∷ 31 ∷ 28 ∷ 31 ∷ 30 ∷ 31 ∷ 30 ∷ 31 ∷ 31 ∷ 30 ∷ 31 ∷ 30 ∷ 31 ∷ []

pub days_in_february : (ℓ : ℕ) → month_days ℓ 2 ≡ 28 + ℓ
unfolding month_days
days_in_february ℓ = refl

pub no_days_in : (ℓ m : ℕ) → 12 < m → month_days ℓ m ≡ 0
unfolding month_days
no_days_in ℓ m h = get_or-eq_default (0 ∷ month_lengths ℓ) 0 h

-- a month with days is one of the twelve
pub month_range : (ℓ m : ℕ) → 0 < month_days ℓ m → (0 < m) × (m < 13)
unfolding month_days
month_range ℓ zero h = absurd (not-suc-le-zero h)
month_range ℓ (suc m) h = (zero-lt-suc m, lt_of_not-le λ g. omega (arith, no_days_in ℓ (suc m) g))

-- the days of the other months do not depend on the leap day
pub days_in : (ℓ m : ℕ) → (m ≡ 2 → ⊥) → get_or lengths m 0 ≡ month_days ℓ m
unfolding month_days
days_in ℓ zero ne = refl
days_in ℓ (suc zero) ne = refl
days_in ℓ (suc (suc zero)) ne = absurd (ne refl)
days_in ℓ (suc (suc (suc m))) ne = refl

-- the table of the days before them
abbrev days_before_table : List ℕ
days_before_table = 0 ∷ 0 ∷ 31 ∷ 59 ∷ 90 ∷ 120 ∷ 151 ∷ 181 ∷ 212 ∷ 243 ∷ 273 ∷ 304 ∷ 334 ∷ []

days_before_lem : (ℓ m : ℕ) → ℓ < 2 → m < 13 → cond (leb m 2) (get_or days_before_table m 0) (get_or days_before_table m 0 + ℓ) ≡ before (month_days ℓ) m
unfolding month_days before
days_before_lem = agree_at (λ ℓ. 13) (λ ℓ m. cond (leb m 2) (get_or days_before_table m 0) (get_or days_before_table m 0 + ℓ)) (λ ℓ. before (month_days ℓ)) refl

module _ (ℓ m : ℕ) (h : ℓ < 2) where
  pub days_before_march : m ≤ 2 → get_or days_before_table m 0 ≡ before (month_days ℓ) m
  days_before_march b = simp (le-leb m 2 b) at (days_before_lem ℓ m h (omega arith))

  pub days_before : 2 < m → m < 13 → get_or days_before_table m 0 + ℓ ≡ before (month_days ℓ) m
  days_before a b = simp (lt-leb m 2 a) at (days_before_lem ℓ m h b)

-- the days to the month m, as `days_to_month` computes them: from March on counted from the next year
pub days_to_lem : (y m : ℕ) → m < 13 → before year_days (y + bool_byte (ltb 2 m)) + get_or days_before_table m 0 ≡ before year_days y + before (month_days (leap_days y)) m + 365 * bool_byte (ltb 2 m)
days_to_lem y m h = go (ltb 2 m) refl
  where
    go : (b : Bool) → ltb 2 m ≡ b → before year_days (y + bool_byte b) + get_or days_before_table m 0 ≡ before year_days y + before (month_days (leap_days y)) m + 365 * bool_byte b
    go true t =
        let e = days_before (leap_days y) m (leap_small y) (ltb-true 2 m t) h in
        unfold before year_days in rw add-one (omega (arith, e))
    go false t = let e = days_before_march (leap_days y) m (leap_small y) (ltb-false 2 m t) in rw (add-zero y) (omega (arith, e))

-- a year is its months
pub year_months : (ℓ : ℕ) → before (month_days ℓ) 13 ≡ 365 + ℓ
unfolding month_days before
year_months ℓ = omega arith

-- the month of the day k of the year, as `month_on` computes it
abbrev pub spread : ℕ → ℕ → ℕ
spread ℓ k = cond (ltb k (59 + ℓ)) k (k + 2 - ℓ)

abbrev pub month_of : ℕ → ℕ → ℕ
month_of ℓ k = (12 * spread ℓ k + 373) / 367

month_is : (ℓ k : ℕ) → ℓ < 2 → k < 365 + ℓ → month_of ℓ k ≡ last (month_days ℓ) k 12
unfolding month_days before last
month_is = agree_at (λ ℓ. 365 + ℓ) month_of (λ ℓ k. last (month_days ℓ) k 12) refl

-- no month has more than 31 days
at_most_31 : (ℓ m : ℕ) → ℓ < 2 → m < 13 → month_days ℓ m - 31 ≡ 0
unfolding month_days
at_most_31 = agree_at (λ ℓ. 13) (λ ℓ m. month_days ℓ m - 31) (λ ℓ m. 0) refl

abbrev pub Month : ℕ → ℕ → ℕ → Type 0
Month ℓ k m = (m ≡ last (month_days ℓ) k 12) × (0 < m) × (m < 13) × (before (month_days ℓ) m ≤ k) × (k < before (month_days ℓ) m + 31)

pub month_of_lem : (ℓ k : ℕ) → ℓ < 2 → k < 365 + ℓ → Month ℓ k (month_of ℓ k)
unfolding before
month_of_lem ℓ k h b =
    let l = last_has (month_days ℓ) k 12 (omega (arith, year_months ℓ)) in
    let m = last (month_days ℓ) k 12 in
    let r = month_range ℓ m (omega (arith, l.begun, l.current)) in
    subst (Month ℓ k) (sym (month_is ℓ k h b)) (refl, r.0, r.1, l.begun, omega (arith, l.current, at_most_31 ℓ m h r.1))
