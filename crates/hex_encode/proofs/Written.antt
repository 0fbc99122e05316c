-- Digits stored one octet after another.
use Prim.Native.Nat.{ℕ, suc, ◌+◌, ◌*◌, ◌<◌}
use native.Mathlib.Numerals.{add-one}
use native.Mathlib.Omega.{arith}
use mathlib.Core.Path.{◌≡◌, refl, sym}
use mathlib.Core.List.{List, [], ◌∷◌}
use lib.ListN.{length, drop, get_or, length-append}
use lib.Seq.{sets, drop-cons}
use Rattle.arithmetic.proofs.Octets.{sets_append}
use Rattle.hex_encode.specs.Text.{digits, text}

pub length_digits : (xs : List ℕ) → length (digits xs) ≡ 2 * length xs
length_digits [] = refl
length_digits (x ∷ xs) = let l = length_digits xs in omega arith

pub length_text : (xs : List ℕ) → length (text xs) ≡ 2 * length xs + 1
length_text xs = rw (length-append, length_digits)

-- an octet more that is put is one less that is left
pub put_more : (out xs : List ℕ) (end i : ℕ) → i < length xs
    → sets (sets out end (digits (get_or xs i 0 ∷ []))) (end + 2) (digits (drop (i + 1) xs)) ≡ sets out end (digits (drop i xs))
put_more out xs end i h = rw (drop-cons xs i 0 h, add-one) (sym (sets_append out end (digits (get_or xs i 0 ∷ [])) (digits (drop (suc i) xs))))

-- and the line feed last
pub put_last : (out xs : List ℕ) (end : ℕ) → sets (sets out end (digits xs)) (end + length (digits xs)) (10 ∷ []) ≡ sets out end (text xs)
put_last out xs end = sym (sets_append out end (digits xs) (10 ∷ []))
