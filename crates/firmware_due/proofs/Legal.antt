-- The record of an image is legal, so neither call is refused by 29.
use Prim.Native.Nat.{ℕ}
use mathlib.Core.Path.{◌≡◌}
use mathlib.Core.Bool.{not, ◌&&◌}
use mathlib.Core.List.{List}
use lib.Dec.{T, eqb}
use lib.ListN.{length}
use mir.Facts.{T_not-not, and_yes}
use Rattle.std.specs.Prelude.{Result, Err}
use Rattle.refusals.specs.declared.Refusal.{Refusal}
use Rattle.refusals.specs.declared.Refusal.TheVariants.{RecordNotLegal}
use Rattle.ordered_tests.proofs.Tests.{Rows, by_rows}
use Rattle.ordered_tests.proofs.Reflection.{contradiction}
use Rattle.client.specs.Record.{illegal}
use Rattle.firmware_layouts.specs.Image.{has_legal_values, is_image, record_in}
use Rattle.due.specs.Due.{past, ask_due_tests, give_up_due_tests}
use Rattle.firmware_due.specs.Due.{on_image, ask_due, give_up_due}

abbrev Not29 : Result ℕ Refusal → Type 0
Not29 g = g ≡ Err RecordNotLegal → ⊥

past_rows : (too-soon : Refusal) (since seconds : ℕ) → Not29 (Err too-soon) → Rows Not29 (past too-soon since seconds)
past_rows too-soon since seconds other = ((λ t. other), λ t e. cc)

module _ (image : List ℕ) where
  legal : T (not (not (is_image image))) → T (illegal (record_in image)) → ⊥
  unfolding is_image
  legal is t =
      contradiction (illegal (record_in image)) t (and_yes (eqb (length image) 32 && has_legal_values image) (not (illegal (record_in image))) (T_not-not (is_image image) is)).1

  pub ask_not_29 : ask_due image ≡ Err RecordNotLegal → ⊥
  unfolding ask_due ask_due_tests
  ask_not_29 =
      by_rows Not29 (on_image ask_due_tests image) (
        (λ t e. cc),
        λ is. (
          (λ t. absurd (legal is t)),
          λ _. ((λ t e. cc), λ _. ((λ t e. cc), λ _. ((λ t e. cc), λ _. past_rows _ (record_in image).uptime _ (λ e. cc)))),
        ),
      )

  pub give_up_not_29 : give_up_due image ≡ Err RecordNotLegal → ⊥
  unfolding give_up_due give_up_due_tests
  give_up_not_29 =
      by_rows Not29 (on_image give_up_due_tests image) (
        (λ t e. cc),
        λ is. ((λ t. absurd (legal is t)), λ _. ((λ t e. cc), λ _. past_rows _ (record_in image).uptime 16 (λ e. cc))),
      )
