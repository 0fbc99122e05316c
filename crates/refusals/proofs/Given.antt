-- What a call gives by numbers, and what it gives in code.
use mathlib.Core.Path.{◌≡◌, refl}
use Prim.Native.Nat.{ℕ}
use Rattle.std.specs.Prelude.{Result, Ok, Err}
use Rattle.refusals.specs.declared.Refusal.{Refusal}
use Rattle.refusals.specs.Numbers.{number}
use Rattle.refusals.specs.Given.{refused, answered, numbered}

module _ {A : Type 0} where
  pub answered_ok : (o : Result A Refusal) {a : A} → numbered o ≡ answered a → o ≡ Ok a
  answered_ok (Ok b) e = cc
  answered_ok (Err r) e = cc
