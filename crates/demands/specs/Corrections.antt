-- Client and ledger together: an accepted arrival's offset and half, handed to an entry of a legal ledger, add exactly P + Q half units to the debt, or are
-- refused by 30 or 31.
use Rattle.refusals.specs.Given.{answered}
use Rattle.demands.specs.Common.{LedgerOutcome}
use Rattle.std.specs.Prelude.{ℕ, ◌^◌, ◌<◌, ◌≡◌, ◌⊎◌, ℤ, nat_abs, ◌+ℤ◌}
use Rattle.refusals.specs.Numbers.{number}
use Rattle.refusals.specs.declared.Refusal.TheVariants.{EntryTooLarge, DebtTooLarge}
use Rattle.client.specs.declared.Client.{Client}
use Rattle.client.specs.Calls.{Arrival, arrival, accepted}
use Rattle.ledger.specs.declared.Ledger.{Ledger}
use Rattle.demands.specs.Arrival.{four}
use Rattle.demands.specs.Measure.{P, Q}
use Rattle.demands.specs.Entry.{Entry}
use Rattle.demands.specs.Behaviour.{Behaviour, client, entry, form}
use Rattle.demands.specs.Demand2.{Demand2}

abbrev pub owing : Ledger → ℤ → LedgerOutcome (Unit {0})
owing l sum = record { answer = answered tt; ledger = record { debt = l.debt +ℤ sum } }

abbrev pub OwedOrRefused : Entry → ℤ → LedgerOutcome (Unit {0}) → Type 0
OwedOrRefused i sum o = (o ≡ owing i.ledger sum) ⊎ ((o ≡ (form entry).refusing i (number EntryTooLarge)) ⊎ (o ≡ (form entry).refusing i (number DebtTooLarge)))

abbrev pub Corrections : Type 0
Corrections =
    (b : Behaviour) → Demand2 b
    → (c : Client) (x : Arrival) (l : Ledger) (offset : ℤ) (half : ℕ) (delay : ℤ)
    → (b.does client (c, arrival x)).result ≡ accepted offset half delay → nat_abs l.debt < 2 ^ 50
    → let i : Entry = record { ledger = l; offset = offset; half = half } in OwedOrRefused i (P (four c x) +ℤ Q (four c x)) (b.does entry i)
