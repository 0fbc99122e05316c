-- The poll exponent of a legal record is 6 to 14.
use mathlib.Core.Path.{◌≡◌, refl}
use mathlib.Core.Bool.{Bool, true, false, ◌||◌}
use Prim.Native.Nat.{◌≤◌}
use borrow.Author.Tests.{not-false}
use Rattle.ordered_tests.specs.Tests.{between}
use Rattle.ordered_tests.proofs.Reflection.{is_true, within}
use Rattle.client.specs.declared.Client.{Client}
use Rattle.client.specs.Record.{illegal}

first : (a b c d : Bool) → a || b || c || d ≡ false → a ≡ false
first true b c d e = e
first false b c d e = refl

pub exponents : (c : Client) → illegal c ≡ false → (6 ≤ c.exponent) × (c.exponent ≤ 14)
unfolding illegal
exponents c e = (within 6 14 c.exponent).from ((is_true (between 6 14 c.exponent)).to (not-false (between 6 14 c.exponent) (first _ _ _ _ e)))
