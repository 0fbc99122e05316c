-- The balance of a ledger over a whole list of calls. proofs/Balance.antt proves `Balance`.
use Rattle.std.specs.Prelude.{ℕ, zero, suc, ◌+◌, ◌-◌, ◌/◌, ◌^◌, ◌≤◌, ◌≡◌, ◌↔◌, true, false, List, [], ◌∷◌, ℤ, pos, ◌+ℤ◌, ◌-ℤ◌, unsigned_abs, Result, Ok, Err}
use Rattle.refusals.specs.declared.Refusal.{Refusal}
use Rattle.refusals.specs.declared.Refusal.TheVariants.{RecordNotLegal}
use Rattle.ordered_tests.specs.Tests.{tested_of, between}
use Rattle.ledger.specs.declared.Ledger.{Ledger}
use Rattle.ledger.specs.Ledger.{opened, half_units, illegal, entered, payment, ticked}

-- a call, with what it carries
pub data LedgerCall : Type 0 where
  entry : (offset : ℤ) (half : ℕ) → LedgerCall
  tick : (limit : ℕ) → LedgerCall

-- whether a call is refused, and by which refusal, and the ledger that it hands back
abbrev pub told : Ledger → LedgerCall → Result (Unit {0}) Refusal
told l (entry offset half) = (entered l offset half).answer
told l (tick limit) = tested_of (ticked l limit).answer

abbrev pub next : Ledger → LedgerCall → Ledger
next l (entry offset half) = (entered l offset half).ledger
next l (tick limit) = (ticked l limit).ledger

-- what an entry that was taken adds, and what a tick paid
abbrev pub added_by : Result (Unit {0}) Refusal → ℤ → ℕ → ℤ
added_by (Err r) offset half = pos 0
added_by (Ok taken) offset half = half_units offset half

abbrev pub paid_in : Result ℤ Refusal → ℤ
paid_in (Err r) = pos 0
paid_in (Ok paid) = paid

abbrev pub added : Ledger → LedgerCall → ℤ
added l (entry offset half) = added_by (entered l offset half).answer offset half
added l (tick limit) = pos 0

abbrev pub paid : Ledger → LedgerCall → ℤ
paid l (entry offset half) = pos 0
paid l (tick limit) = paid_in (ticked l limit).answer

-- calls one after another, each with the ledger that the call before handed back: the ledger at their end, and the sums of what was added and paid
abbrev pub after : Ledger → List LedgerCall → Ledger
after l [] = l
after l (c ∷ cs) = after (next l c) cs

abbrev pub all_added : Ledger → List LedgerCall → ℤ
all_added l [] = pos 0
all_added l (c ∷ cs) = added l c +ℤ all_added (next l c) cs

abbrev pub all_paid : Ledger → List LedgerCall → ℤ
all_paid l [] = pos 0
all_paid l (c ∷ cs) = paid l c +ℤ all_paid (next l c) cs

-- no call of the list is refused by 29
abbrev pub AllLegal : Ledger → List LedgerCall → Type 0
AllLegal l [] = Unit {0}
AllLegal l (c ∷ cs) = (told l c ≡ Err RecordNotLegal → ⊥) × AllLegal (next l c) cs

-- n ticks with one limit
abbrev pub ticks : ℕ → ℕ → List LedgerCall
ticks zero limit = []
ticks (suc n) limit = tick limit ∷ ticks n limit

-- the least n with n · limit at or above size
abbrev pub ceiling : ℕ → ℕ → ℕ
ceiling size limit = (size + limit - 1) / limit

pub record Balance : Type 0 where
  -- what was paid and what is still owed is what was added
  pub balanced : (cs : List LedgerCall) → all_paid opened cs +ℤ (after opened cs).debt ≡ all_added opened cs
  -- the debt stays legal, so that 29 never refuses
  pub stays_legal : (cs : List LedgerCall) → (illegal (after opened cs) ≡ false) × AllLegal opened cs
  -- no tick pays more than is owed, and what it pays has the debt's sign: what is left is smaller by what was paid
  pub no_more : (debt : ℤ) (limit : ℕ) → unsigned_abs (payment debt limit) + unsigned_abs (debt -ℤ payment debt limit) ≡ unsigned_abs debt
  -- ticks with one limit pay a debt off in exactly ⌈size / limit⌉ ticks
  pub paid_off : (l : Ledger) (limit n : ℕ) → illegal l ≡ false → between 1 (2 ^ 32) limit ≡ true
      → ((after l (ticks n limit)).debt ≡ pos 0) ↔ (ceiling (unsigned_abs l.debt) limit ≤ n)
