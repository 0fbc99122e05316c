-- The language's signed integers and ours: its `to_z w` and `of_z w` are `signed` and `bits` at the width of w, and its tests are rules for `omega`.
use mathlib.Core.Path.{◌≡◌, refl, sym, subst, ap, ◌∙◌}
use mathlib.Core.Bool.{Bool, true, false, cond, not}
use Prim.Native.Nat.{ℕ, suc, ◌+◌, ◌-◌, ◌^◌, ◌≤◌, ◌<◌}
use native.Mathlib.Nat.{mod-eq_of_lt}
use native.Mathlib.Omega.{arith}
use lib.Dec.{T, ltb}
use lib.IntN.{ℤ, pos, negsuc, ◌-ℤ◌}
use lib.Signed.{mag, lt_z, le_z, le_z_yes}
use mir.Syntax.{Width, w8, w16, w32, w64, w128}
use mir.Val.{SFits, hbits, to_z, of_z, sel}
use mir.Val as val
use mir.ValLaws.{half_full}
use mir.Facts.{to_z-of_z}
use Rattle.arithmetic.specs.Modulo.{◌modulo◌}
use Rattle.arithmetic.specs.TwosComplement.{signed, bits, Fits}
use Rattle.arithmetic.proofs.Integers.{up, dn, integers, minus, neg, le_integers, test_integers, nlt_integers, eq_integers}

as_sel : (k n : ℕ) → n < 2 ^ k → signed k n ≡ sel (ltb n (2 ^ (k - 1))) (pos n) (negsuc (2 ^ k - suc n))
unfolding signed
as_sel k n h = go (ltb n (2 ^ (k - 1)))
  where
    go : (b : Bool) → cond b (pos n) (pos n -ℤ pos (2 ^ k)) ≡ sel b (pos n) (negsuc (2 ^ k - suc n))
    go true = refl
    go false = omega (arith, integers, minus (pos n) (pos (2 ^ k)))

pub signed_to_z : (w : Width) (n : ℕ) → n < 2 ^ val.bits w → signed (val.bits w) n ≡ to_z w n
signed_to_z w8 = as_sel 8
signed_to_z w16 = as_sel 16
signed_to_z w32 = as_sel 32
signed_to_z w64 = as_sel 64
signed_to_z w128 = as_sel 128

pub bits_of_z : (w : Width) (z : ℤ) → SFits w z → bits (val.bits w) z ≡ of_z w z
unfolding bits ◌modulo◌
bits_of_z w (pos n) f = mod-eq_of_lt (half_full w f.sfits)
bits_of_z w (negsuc n) f = ap (λ m. 2 ^ val.bits w - suc m) (mod-eq_of_lt (half_full w f.sfits))

-- what fits a signed type of the language fits its width
half_width : (w : Width) → 2 ^ (val.bits w - 1) ≡ 2 ^ hbits w
half_width w8 = refl
half_width w16 = refl
half_width w32 = refl
half_width w64 = refl
half_width w128 = refl

pub sfits_fits : (w : Width) (z : ℤ) → SFits w z → Fits (val.bits w) z
sfits_fits w (pos n) f = record { low = omega (arith, integers, neg (pos (2 ^ (val.bits w - 1)))); high = omega (arith, integers, half_width w, f.sfits) }
sfits_fits w (negsuc n) f = record { low = omega (arith, integers, half_width w, f.sfits, neg (pos (2 ^ (val.bits w - 1)))); high = omega (arith, integers) }

-- ---- rules for `omega`: whether a signed type holds a, a flag that a comparison made, and a value that is written as bits and read back

pub integers_fits : (w : Width) (a : ℤ) → (up a - dn a) + (dn a - suc (up a)) < 2 ^ hbits w → SFits w a
integers_fits w (pos a) h = record { sfits = omega arith }
integers_fits w (negsuc a) h = record { sfits = omega arith }

test_of : (b : Bool) → b ≡ true → T b
test_of b e = subst T (sym e) tt

test_of_not : (b : Bool) → b ≡ false → T (not b)
test_of_not b e = subst (λ f. T (not f)) (sym e) tt

pub lt_taken : (a b : ℤ) → lt_z a b ≡ true → up a + dn b < up b + dn a
lt_taken a b e = test_integers a b (test_of (lt_z a b) e)

pub lt_left : (a b : ℤ) → lt_z a b ≡ false → up b + dn a ≤ up a + dn b
lt_left a b e = nlt_integers a b (test_of_not (lt_z a b) e)

pub le_taken : (a b : ℤ) → le_z a b ≡ true → up a + dn b ≤ up b + dn a
le_taken a b e = le_integers {a = a} {b = b} (le_z_yes (test_of (le_z a b) e))

-- a signed local holds bits; `held w z` is what the bits of z read as
abbrev pub held : Width → ℤ → ℤ
held w z = to_z w (of_z w z)

-- a call's signed result r, read back from its bits, is what the call ensures of it
pub held_result : (w : Width) {r z : ℤ} → mag r < 2 ^ hbits w → r ≡ z → held w r ≡ z
held_result w ok e = to_z-of_z (record { sfits = ok }) ∙ e

pub read_back : (w : Width) (z : ℤ) → SFits w z → up (held w z) + dn z ≡ up z + dn (held w z)
read_back w z f = eq_integers (to_z-of_z f)

pub ruleset flags = (lt_taken, lt_left, le_taken, read_back, integers_fits)

-- not of the set: of two rules that fit one hypothesis `omega` applies only the first of its list
pub fits_integers : (w : Width) (a : ℤ) → SFits w a → (up a - dn a) + (dn a - suc (up a)) < 2 ^ hbits w
fits_integers w (pos a) f = omega (arith, f.sfits)
fits_integers w (negsuc a) f = omega (arith, f.sfits)
