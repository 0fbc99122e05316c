-- What the library's casts give is `signed` and `bits`, over the width. Assumes nothing.
use Prim.Native.Nat.{ℕ, ◌^◌, ◌<◌}
use mathlib.Core.Path.{◌≡◌, sym, ◌∙◌}
use lib.IntN.{ℤ}
use mir.Syntax.{Width}
use mir.Val.{SFits, to_z, of_z}
use mir.Val as val
use Rattle.std.proofs.lemmas.Int.{to_z-of_z}
use Rattle.arithmetic.specs.TwosComplement.{signed, bits}
use Rattle.arithmetic.proofs.Machine.{signed_to_z, bits_of_z}

-- `x.cast_signed()`, as a goal writes what the call returns
pub cast_signed_is : (w : Width) (x : ℕ) (r : ℤ) → x < 2 ^ val.bits w → SFits w r → r ≡ to_z w x → to_z w (of_z w r) ≡ signed (val.bits w) x
cast_signed_is w x r h f e = to_z-of_z w r f ∙ e ∙ sym (signed_to_z w x h)

-- `z.cast_unsigned()`
pub cast_unsigned_is : (w : Width) (z : ℤ) → SFits w z → of_z w z ≡ bits (val.bits w) z
cast_unsigned_is w z f = sym (bits_of_z w z f)

pub ruleset casts = (cast_signed_is, cast_unsigned_is, to_z-of_z)
