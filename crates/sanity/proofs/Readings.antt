-- How the 32 bits of a root field are read: refusal 33 is given alike, refusal 34 is not.
use Prim.Native.Nat.{ℕ, suc, ◌-◌, ◌^◌, ◌≤◌, ◌<◌}
use mathlib.Core.Path.{◌≡◌, refl}
use mathlib.Core.Bool.{Bool, true, false}
use native.Mathlib.Omega.{arith}
use borrow.Author.Tests.{ltb-true, ltb-false, le-ltb, le-leb}
use lib.Dec.{ltb}
use lib.IntN.{negsuc}
use Rattle.arithmetic.specs.TwosComplement.{signed}
use Rattle.std.proofs.lemmas.Int.{ints}
use Rattle.arithmetic.proofs.TwosComplement.{signed_low, signed_high}
use Rattle.sanity.specs.Sanity.{is_root_delay_out_of_range, is_root_dispersion_too_large}
use Rattle.sanity.specs.Readings.{Readings}

-- the upper half of the 2^32 numbers stand for negative ones
upper : (n : ℕ) → 2 ^ 31 ≤ n → n < 2 ^ 32 → signed 32 n ≡ negsuc (2 ^ 32 - suc n)
upper n l h = let s = signed_high 32 n l in omega (arith, ints)

delay_either : (n : ℕ) → n < 2 ^ 32 → is_root_delay_out_of_range (signed 32 n) ≡ is_root_dispersion_too_large n
delay_either n h = go (ltb n (2 ^ 31)) refl
  where
    go : (b : Bool) → ltb n (2 ^ 31) ≡ b → is_root_delay_out_of_range (signed 32 n) ≡ is_root_dispersion_too_large n
    go true e = rw (signed_low 32 n (ltb-true n (2 ^ 31) e), le-ltb n 0 (omega arith))
    go false e = let l = ltb-false n (2 ^ 31) e in rw (upper n l h, le-leb 65536 n (omega arith))

pub readings : Readings
readings = record {
  delay_either = delay_either;
  dispersion_unsigned = λ n l h. (le-leb 65536 n (omega arith), rw (upper n l h));
}
