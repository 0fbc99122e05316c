-- A tick of the ledger, which pays of the debt.
use Rattle.std.specs.Prelude.{ℤ}
use Rattle.refusals.specs.Given.{Given, refused, answered}
use Rattle.demands.specs.Common.{LedgerOutcome, ledger_outcome}
use Rattle.std.specs.Prelude.{ℕ, ◌^◌, ◌≤◌, ◌<◌, [], ◌∷◌, nat_abs, ◌-ℤ◌}
use Rattle.refusals.specs.declared.Refusal.TheVariants.{RecordNotLegal, LimitOutOfRange}
use Rattle.ledger.specs.declared.Ledger.{Ledger}
use Rattle.ledger.specs.Ledger.{payment, ticked}
use Rattle.demands.specs.Form.{Shown, refused_by, telling, ◌unless◌then◌, does, Form, Implementation}

pub record Tick : Type 0 where
  pub ledger : Ledger
  pub limit : ℕ

abbrev pub paid : Tick → LedgerOutcome ℤ
paid x = record { answer = answered (payment x.ledger.debt x.limit); ledger = record { debt = x.ledger.debt -ℤ payment x.ledger.debt x.limit } }

abbrev pub shown : Given ℤ → Shown
shown (refused n) = refused_by 1 n
shown (answered paid) = telling (paid ∷ [])

abbrev pub tick : Form
tick = record {
  Input = Tick;
  Outcome = LedgerOutcome ℤ;
  shown = λ o. shown o.answer;
  refusing = λ x n. record { answer = refused n; ledger = x.ledger };
  rules = λ x.
      RecordNotLegal unless nat_abs x.ledger.debt < 2 ^ 50 then
      LimitOutOfRange unless (1 ≤ x.limit) × (x.limit ≤ 2 ^ 32) then
      does (paid x);
}

abbrev pub ours : Implementation tick
ours x = ledger_outcome (ticked x.ledger x.limit)
