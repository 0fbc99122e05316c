-- The balance over every list of calls: each call keeps it and leaves a legal ledger, and so a list of calls does.
use Prim.Native.Nat.{ℕ, zero, suc, ◌-◌, ◌*◌, ◌^◌, ◌≤◌, suc-le-suc}
use native.Mathlib.Nat.{le_of_suc-le-suc, div-lt_iff_lt-mul}
use native.Mathlib.Omega.{arith}
use mathlib.Core.Path.{◌≡◌, refl, sym, ap, subst}
use mathlib.Core.Logic.{◌↔◌}
use mathlib.Core.Bool.{true, false, not}
use mathlib.Core.List.{List, [], ◌∷◌}
use lib.Dec.{T, leb, leb→le}
use lib.IntN.{ℤ, pos, negsuc, ◌+ℤ◌, ◌-ℤ◌, nat_abs}
use borrow.Author.Tests.{leb-false, lt-leb}
use mir.Facts.{and_yes}
use Rattle.std.proofs.lemmas.Int.{ints}
use Rattle.ordered_tests.proofs.Reflection.{is_false}
use Rattle.std.specs.Prelude.{Result, Err}
use Rattle.refusals.specs.declared.Refusal.{Refusal}
use Rattle.refusals.specs.declared.Refusal.TheVariants.{RecordNotLegal, EntryTooLarge, DebtTooLarge, LimitOutOfRange}
use Rattle.ordered_tests.specs.Tests.{answer_of, tested_of, between}
use Rattle.ordered_tests.proofs.Tests.{by_rows}
use Rattle.ledger.specs.declared.Ledger.{Ledger}
use Rattle.ledger.specs.Ledger.{opened, half_units, is_debt_too_large, illegal, entry_tests, refused_call, payment, tick_tests}
use Rattle.ledger.specs.Balance.{LedgerCall, entry, tick, told, next, added_by, added, paid_in, paid, after, all_added, all_paid, AllLegal, ticks, ceiling, Balance}
use Rattle.ledger.proofs.Payments.{leaves, pays}

-- ---- one call

-- of a call that pays and adds so much, leaves this ledger and tells this: the balance holds, the ledger left is legal and 29 does not refuse
record Kept (l : Ledger) (pays adds : ℤ) (left : Ledger) (told : Result (Unit {0}) Refusal) : Type 0 where
  balance : pays +ℤ left.debt ≡ l.debt +ℤ adds
  legal : illegal left ≡ false
  other : told ≡ Err RecordNotLegal → ⊥

module _ (l : Ledger) (ok : illegal l ≡ false) where
  -- a refusal changes nothing
  refusal : (r : Refusal) → (r ≡ RecordNotLegal → ⊥) → Kept l (pos 0) (pos 0) l (Err r)
  refusal r ne = record { balance = omega (arith, ints); legal = ok; other = λ e. ne cc }

  -- what a payment leaves is legal
  left_legal : (limit : ℕ) → is_debt_too_large (l.debt -ℤ payment l.debt limit) ≡ false
  unfolding is_debt_too_large
  left_legal limit =
      lt-leb (2 ^ 50) (nat_abs (l.debt -ℤ payment l.debt limit)) (omega (arith, leb-false (2 ^ 50) (nat_abs l.debt) ok, leaves l.debt limit))

  -- row by row of the call's table
  keeps : (c : LedgerCall) → Kept l (paid l c) (added l c) (next l c) (told l c)
  unfolding entry_tests tick_tests
  keeps (entry offset half) =
      let d = l.debt +ℤ half_units offset half in
      by_rows (λ g. let e = answer_of (refused_call l) g in Kept l (pos 0) (added_by e.answer offset half) e.ledger e.answer) (entry_tests l offset half) (
        λ t. absurd (subst T ok t),
        λ _. (
          λ _. refusal EntryTooLarge (λ z. cc),
          λ _. (
            λ _. refusal DebtTooLarge (λ z. cc),
            λ t. record { balance = omega (arith, ints); legal = (is_false (is_debt_too_large d)).from t; other = λ z. cc },
          ),
        ),
      )
  keeps (tick limit) =
      let d = l.debt in
      let p = payment d limit in
      by_rows (λ g. let e = answer_of (refused_call l) g in Kept l (paid_in e.answer) (pos 0) e.ledger (tested_of e.answer)) (tick_tests l limit) (
        λ t. absurd (subst T ok t),
        λ _. (
          λ _. refusal LimitOutOfRange (λ z. cc),
          λ _. record { balance = omega (arith, ints); legal = left_legal limit; other = λ z. cc },
        ),
      )

-- ---- a list of calls

-- the balance of a first call, from debt to left, and of the rest of the calls, from left to end
chain : (debt p a left ps xs end : ℤ) → p +ℤ left ≡ debt +ℤ a → ps +ℤ end ≡ left +ℤ xs → p +ℤ ps +ℤ end ≡ debt +ℤ (a +ℤ xs)
chain debt p a left ps xs end first rest = omega (arith, ints)

-- from any legal ledger what was paid and is owed at the end is what was owed before and was added
balanced_from : (l : Ledger) → illegal l ≡ false → (cs : List LedgerCall) → all_paid l cs +ℤ (after l cs).debt ≡ l.debt +ℤ all_added l cs
balanced_from l ok [] = omega (arith, ints)
balanced_from l ok (c ∷ cs) =
    let k = keeps l ok c in
    let m = next l c in
    chain l.debt (paid l c) (added l c) m.debt (all_paid m cs) (all_added m cs) (after m cs).debt k.balance (balanced_from m k.legal cs)

-- from any legal ledger the calls stay legal
legal_from : (l : Ledger) → illegal l ≡ false → (cs : List LedgerCall) → (illegal (after l cs) ≡ false) × AllLegal l cs
legal_from l ok [] = (ok, tt)
legal_from l ok (c ∷ cs) = let k = keeps l ok c in let all = legal_from (next l c) k.legal cs in (all.0, (k.other, all.1))

-- ---- ticks with one limit

-- only zero has the size 0
size_zero : (z : ℤ) → nat_abs z ≡ 0 → z ≡ pos 0
size_zero (pos n) e = ap pos e
size_zero (negsuc n) e = absurd (omega arith)

-- the ceiling is at most n exactly where n limits reach the size
ceiling_le : (size limit n : ℕ) → 1 ≤ limit → (ceiling size limit ≤ n) ↔ (size ≤ n * limit)
ceiling_le size limit n h =
    (λ c. omega (arith, (div-lt_iff_lt-mul h).0 (suc-le-suc c)), λ s. le_of_suc-le-suc ((div-lt_iff_lt-mul h).1 (omega arith)))

module _ (limit : ℕ) (range : between 1 (2 ^ 32) limit ≡ true) where
  -- a tick makes the size smaller by the limit
  tick_size : (l : Ledger) → illegal l ≡ false → nat_abs (next l (tick limit)).debt ≡ nat_abs l.debt - limit
  unfolding tick_tests
  tick_size l ok = by_rows (λ g. nat_abs (answer_of (refused_call l) g).ledger.debt ≡ nat_abs l.debt - limit) (tick_tests l limit)
      (λ t. absurd (subst T ok t), λ _. (λ t. absurd (subst (λ b. T (not b)) range t), λ _. leaves l.debt limit))

  -- and n ticks by n limits
  ticks_size : (n : ℕ) (l : Ledger) → illegal l ≡ false → nat_abs (after l (ticks n limit)).debt ≡ nat_abs l.debt - n * limit
  ticks_size zero l ok = omega arith
  ticks_size (suc n) l ok = omega (arith, ticks_size n (next l (tick limit)) (keeps l ok (tick limit)).legal, tick_size l ok)

  at_least_1 : 1 ≤ limit
  at_least_1 = leb→le 1 limit (and_yes (leb 1 limit) (leb limit (2 ^ 32)) (subst T (sym range) tt)).0

  pays_off : (l : Ledger) (n : ℕ) → illegal l ≡ false → ((after l (ticks n limit)).debt ≡ pos 0) ↔ (ceiling (nat_abs l.debt) limit ≤ n)
  pays_off l n ok =
      let s = ticks_size n l ok in
      let c = ceiling_le (nat_abs l.debt) limit n at_least_1 in
      (λ e. c.1 (omega (arith, ap nat_abs e)), λ e. size_zero (after l (ticks n limit)).debt (omega (arith, c.0 e)))

pub balance : Balance
unfolding is_debt_too_large
balance = record {
  balanced = λ cs. omega (arith, ints, balanced_from opened refl cs);
  stays_legal = legal_from opened refl;
  no_more = λ debt limit. omega (arith, pays debt limit, leaves debt limit);
  paid_off = λ l limit n ok range. pays_off limit range l n ok;
}
