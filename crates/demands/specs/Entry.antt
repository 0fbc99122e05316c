-- An entry of the ledger: an accepted offset and its half are owed.
use Rattle.refusals.specs.Given.{Given, refused, answered}
use Rattle.demands.specs.Common.{LedgerOutcome, ledger_outcome}
use Rattle.std.specs.Prelude.{ℕ, ◌^◌, ◌≤◌, ◌<◌, [], ℤ, nat_abs, ◌+ℤ◌}
use Rattle.refusals.specs.declared.Refusal.TheVariants.{RecordNotLegal, EntryTooLarge, DebtTooLarge}
use Rattle.ledger.specs.declared.Ledger.{Ledger}
use Rattle.ledger.specs.Ledger.{half_units, entered}
use Rattle.demands.specs.Form.{Shown, refused_by, telling, ◌unless◌then◌, does, Form, Implementation}

pub record Entry : Type 0 where
  pub ledger : Ledger
  pub offset : ℤ
  pub half : ℕ

-- twice the offset plus the half
abbrev pub owed : Entry → ℤ
owed x = half_units x.offset x.half

abbrev pub shown : Given (Unit {0}) → Shown
shown (refused n) = refused_by 0 n
shown (answered tt) = telling []

abbrev pub entry : Form
entry = record {
  Input = Entry;
  Outcome = LedgerOutcome (Unit {0});
  shown = λ o. shown o.answer;
  refusing = λ x n. record { answer = refused n; ledger = x.ledger };
  rules = λ x.
      RecordNotLegal unless nat_abs x.ledger.debt < 2 ^ 50 then
      EntryTooLarge unless (x.half ≤ 1) × (nat_abs (owed x) < 2 ^ 41) then
      DebtTooLarge unless nat_abs (x.ledger.debt +ℤ owed x) < 2 ^ 50 then
      does (record { answer = answered tt; ledger = record { debt = x.ledger.debt +ℤ owed x } });
}

abbrev pub ours : Implementation entry
ours x = ledger_outcome (entered x.ledger x.offset x.half)
