-- The ledger for C (docs/C.md). The debt after a call is that of the record which the inner call hands back: after a refusal the same.
use Rattle.std.specs.Prelude.{ℕ, min, ℤ, Result}
use Rattle.refusals.specs.declared.Refusal.{Refusal}
use Rattle.refusals.specs.Given.{after}
use Rattle.ledger.specs.declared.Called.{Called}
use Rattle.ledger.specs.Ledger.{entered, ticked}

-- the inner calls on the record with this debt; a half that 8 bits do not hold becomes 255, which 30 refuses
abbrev pub entry_of : (debt offset : ℤ) (half : ℕ) → Called (Unit {0})
entry_of debt offset half = entered (record { debt = debt }) offset (min half 255)

abbrev pub tick_of : (debt : ℤ) (limit : ℕ) → Called ℤ
tick_of debt limit = ticked (record { debt = debt }) limit

-- what was paid is told unless the call is refused
abbrev pub paid_after : ℤ → Result ℤ Refusal → ℤ
paid_after = after (λ units. units)
