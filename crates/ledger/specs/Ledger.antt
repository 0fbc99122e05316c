-- A ledger of corrections that are paid out slowly, in half units: an entry adds to the debt, and a tick pays of it (docs/RULES.md, "The ledger").
use Rattle.std.specs.Prelude.{ℕ, suc, min, ◌^◌, Bool, not, ◌||◌, leb, ℤ, pos, negsuc, neg_ℤ, ◌+ℤ◌, ◌-ℤ◌, unsigned_abs, Ok, Err}
use Rattle.refusals.specs.declared.Refusal.{Refusal}
use Rattle.refusals.specs.declared.Refusal.TheVariants.{RecordNotLegal, EntryTooLarge, DebtTooLarge, LimitOutOfRange}
use Rattle.ordered_tests.specs.Tests.{Tests, ◌if◌else◌, otherwise, answer, between}
use Rattle.ledger.specs.declared.Ledger.{Ledger}
use Rattle.ledger.specs.declared.Called.{Called}

-- a ledger without debt
abbrev pub opened : Ledger
opened = record { debt = pos 0 }

-- twice the offset plus the half
abbrev pub half_units : ℤ → ℕ → ℤ
half_units offset half = offset +ℤ offset +ℤ pos half

-- a debt of 2^50 half units or more in size
unfoldable pub is_debt_too_large : ℤ → Bool
is_debt_too_large debt = leb (2 ^ 50) (unsigned_abs debt)

abbrev pub illegal : Ledger → Bool
illegal l = is_debt_too_large l.debt

-- a half that is not 0 or 1, or a size of 2^41 half units or more
unfoldable pub is_entry_too_large : ℤ → ℕ → Bool
is_entry_too_large offset half = not (leb half 1) || leb (2 ^ 41) (unsigned_abs (half_units offset half))

-- a call that is refused leaves the ledger as it was
abbrev pub refused_call : {A : Type 0} → Ledger → Refusal → Called A
refused_call l r = record { answer = Err r; ledger = l }

-- an entry, of an accepted offset and its half
unfoldable pub entry_tests : Ledger → ℤ → ℕ → Tests (Called (Unit {0}))
entry_tests l offset half =
    RecordNotLegal if illegal l else
    EntryTooLarge if is_entry_too_large offset half else
    DebtTooLarge if is_debt_too_large (l.debt +ℤ half_units offset half) else
    otherwise (record { answer = Ok tt; ledger = record { debt = l.debt +ℤ half_units offset half } })

abbrev pub entered : Ledger → ℤ → ℕ → Called (Unit {0})
entered l offset half = answer (refused_call l) (entry_tests l offset half)

-- what a tick pays: exactly the smaller of the limit and the debt's size, with the debt's sign
unfoldable pub payment : ℤ → ℕ → ℤ
payment (pos n) limit = pos (min n limit)
payment (negsuc n) limit = neg_ℤ (pos (min (suc n) limit))

unfoldable pub tick_tests : Ledger → ℕ → Tests (Called ℤ)
tick_tests l limit =
    RecordNotLegal if illegal l else
    LimitOutOfRange if not (between 1 (2 ^ 32) limit) else
    otherwise (record { answer = Ok (payment l.debt limit); ledger = record { debt = l.debt -ℤ payment l.debt limit } })

abbrev pub ticked : Ledger → ℕ → Called ℤ
ticked l limit = answer (refused_call l) (tick_tests l limit)
