-- The Gregorian calendar: the lengths of years and months, and the days before each (docs/RULES.md, "The calendar").
use Rattle.std.specs.Prelude.{ℕ, zero, suc, ◌+◌, ◌%◌, Bool, cond, not, ◌&&◌, ◌||◌, List, [], ◌∷◌, eqb, leb, get_or}

abbrev pub divides : ℕ → ℕ → Bool
divides k n = eqb (n % k) 0

-- the Gregorian leap rule, for every year number: every fourth year, but of those that 100 divides only those that 400 divides
abbrev pub leap_year : ℕ → Bool
leap_year y = divides 4 y && (not (divides 100 y) || divides 400 y)

-- one in a leap year, else none
unfoldable pub leap_days : ℕ → ℕ
leap_days y = cond (leap_year y) 1 0

unfoldable pub year_days : ℕ → ℕ
year_days y = 365 + leap_days y

-- January to December, in a year with this number of leap days
abbrev pub month_lengths : ℕ → List ℕ
month_lengths extra = 31 ∷ (28 + extra) ∷ 31 ∷ 30 ∷ 31 ∷ 30 ∷ 31 ∷ 31 ∷ 30 ∷ 31 ∷ 30 ∷ 31 ∷ []

-- the days of the month m, counted from 1; a month that does not exist has none
unfoldable pub month_days : ℕ → ℕ → ℕ
month_days extra m = get_or (0 ∷ month_lengths extra) m 0

-- the days before the year or month n: those of all the years or months below it
unfoldable pub before : (ℕ → ℕ) → ℕ → ℕ
before days zero = 0
before days (suc n) = before days n + days n

-- the last year or month, of those up to k, that begins on the day n or before it
unfoldable pub last : (ℕ → ℕ) → ℕ → ℕ → ℕ
last days n zero = 0
last days n (suc k) = cond (leb (before days (suc k)) n) (suc k) (last days n k)
