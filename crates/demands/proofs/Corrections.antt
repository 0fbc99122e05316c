-- Client and ledger together.
use Rattle.refusals.specs.Given.{refused}
use Prim.Native.Nat.{ℕ, ◌^◌, ◌<◌}
use mathlib.Core.Path.{◌≡◌, sym, ap, subst, ◌∙◌}
use mathlib.Core.Logic.{◌⊎◌, inl, inr}
use native.Mathlib.Omega.{arith}
use lib.IntN.{ℤ, nat_abs, ◌+ℤ◌}
use Rattle.refusals.specs.Numbers.{number}
use Rattle.refusals.specs.declared.Refusal.TheVariants.{DebtTooLarge, EntryTooLarge}
use Rattle.offset.proofs.Halving.{halving}
use Rattle.client.specs.declared.Client.{Client}
use Rattle.client.specs.Calls as calls
use Rattle.client.specs.Calls.{Arrival, arrival, Outcome}
use Rattle.ledger.specs.Ledger.{half_units}
use Rattle.demands.specs.Form.{Gives}
use Rattle.demands.specs.Arrival.{four, arrival_rules}
use Rattle.demands.specs.Measure as measures
use Rattle.demands.specs.Measure.{P, Q}
use Rattle.demands.specs.Entry.{Entry, owed}
use Rattle.demands.specs.Behaviour.{client, entry, form, ours}
use Rattle.demands.specs.Corrections.{owing, OwedOrRefused, Corrections}
use Rattle.demands.proofs.Form.{outcome_in, either}
use Rattle.demands.proofs.Client.{client_meets}
use Rattle.demands.proofs.Ledger.{entry_meets}
use Rattle.demands.proofs.Unique.{unique}

module _ (c : Client) (x : Arrival) (offset : ℤ) (half : ℕ) (delay : ℤ) where
  -- an accepted arrival tells the offset and the half of its four timestamps
  abbrev ReportsFour : Outcome → Type 0
  ReportsFour o = o.result ≡ calls.accepted offset half delay → (measures.offset (four c x) ≡ offset) × (measures.half (four c x) ≡ half)

  reports : ReportsFour (ours.does client (c, arrival x))
  reports =
      either client_meets (c, arrival x) ReportsFour
      (λ n l p e. let z : ◌≡◌ {A = ℕ} 0 1 = cc in absurd (omega arith))
      (λ o p. outcome_in ReportsFour (arrival_rules c x) o ((λ e. let z : ◌≡◌ {A = ℕ} 0 1 = cc in absurd (omega arith)), (λ e. (cc, cc))) p)

  -- twice the offset plus the half is P + Q
  sum_is : (ours.does client (c, arrival x)).result ≡ calls.accepted offset half delay → half_units offset half ≡ P (four c x) +ℤ Q (four c x)
  sum_is e = let (o, h) = reports e in sym (λ i. half_units (o i) (h i)) ∙ (halving (P (four c x) +ℤ Q (four c x))).exact

-- an entry of a legal ledger
module _ (i : Entry) (legal : nat_abs i.ledger.debt < 2 ^ 50) where
  refusals : (n : ℕ) → Gives ((form entry).rules i) (refused n) → (n ≡ (number EntryTooLarge)) ⊎ (n ≡ (number DebtTooLarge))
  refusals n (inl (f, e)) = absurd (f legal)
  refusals n (inr (_, inl (f, e))) = inl (cc)
  refusals n (inr (_, inr (_, inl (f, e)))) = inr (cc)
  refusals n (inr (_, inr (_, inr (_, e)))) = let z : ◌≡◌ {A = ℕ} 0 1 = cc in absurd (omega arith)

  refused_by_lem : (sum : ℤ) (n : ℕ) → (n ≡ (number EntryTooLarge)) ⊎ (n ≡ (number DebtTooLarge)) → OwedOrRefused i sum ((form entry).refusing i n)
  refused_by_lem sum n (inl e) = inr (inl (ap ((form entry).refusing i) e))
  refused_by_lem sum n (inr e) = inr (inr (ap ((form entry).refusing i) e))

  enters : (sum : ℤ) → owed i ≡ sum → OwedOrRefused i sum (ours.does entry i)
  enters sum s = either entry_meets i (OwedOrRefused i sum) (λ n l p. refused_by_lem sum n (refusals n p)) (λ o (_, (_, (_, e))). inl (sym e ∙ ap (owing i.ledger) s))

pub corrections : Corrections
corrections b demand c x l offset half delay accepted legal =
    let i : Entry = record { ledger = l; offset = offset; half = half } in
    let only = unique b demand in
    let s = sum_is c x offset half delay (sym (ap (λ (o : Outcome). o.result) (only.same client (c, arrival x))) ∙ accepted) in
    subst (OwedOrRefused i (P (four c x) +ℤ Q (four c x))) (sym (only.same entry i)) (enters i legal (P (four c x) +ℤ Q (four c x)) s)
