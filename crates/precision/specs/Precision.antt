-- The precision octet of a clock's tick (docs/RULES.md, "The 48 octets"). "Tick" is the rules' term: the step of a clock, in units of 2^-32 s.
use Rattle.std.specs.Prelude.{ℕ, zero, suc, ◌^◌, cond, ◌||◌, eqb, leb, ltb, ℤ, pos, ◌-ℤ◌, Result}
use Rattle.refusals.specs.declared.Refusal.{Refusal}
use Rattle.refusals.specs.declared.Refusal.TheVariants.{TickOutOfRange}
use Rattle.ordered_tests.specs.Tests.{Tests, ◌if◌else◌, otherwise, given}

-- the least k up to n with tick ≤ 2 ^ k, and n where there is none
unfoldable pub least : ℕ → ℕ → ℕ
least tick zero = zero
least tick (suc n) = cond (leb tick (2 ^ least tick n)) (least tick n) (suc n)

-- the exponent of the smallest power of two not below the tick; 2 ^ k units are 2 ^ (k - 32) seconds
abbrev pub precision_tests : ℕ → Tests ℤ
precision_tests tick =
    TickOutOfRange if eqb tick 0 || ltb (2 ^ 32) tick else
    otherwise (pos (least tick 32) -ℤ pos 32)

abbrev pub precision_of : ℕ → Result ℤ Refusal
precision_of tick = given (precision_tests tick)
