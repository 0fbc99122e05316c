-- A body and its fill. Assumes nothing.
use Prim.Native.Nat.{ℕ, ◌+◌, ◌-◌, ◌*◌, ◌/◌, ◌%◌, ◌≤◌, ◌<◌}
use native.Mathlib.Decide.{dec_lt}
use native.Mathlib.Omega.{arith}
use mathlib.Core.Path.{◌≡◌, sym, ap, ◌∙◌}
use mathlib.Core.List.{List, ◌++◌}
use lib.ListN.{length, get_or, replicate, length-append, length-replicate, get_or-replicate, get_or-eq_default, get_or-append}
use lib.Seq.{get_or-append-add}
use Rattle.arithmetic.specs.Octets.{octets}
use Rattle.arithmetic.proofs.Octets.{octets_add, octets_mod}
use Rattle.std.proofs.lemmas.Grind.{same_number_lists}
use Rattle.extension_writer.specs.Writer.{filled_length, filled_to}
use Rattle.extension_writer.specs.WriterLaws.{Fill}

-- ---- how long

pub fills : (n : ℕ) → Fill n (filled_length n)
unfolding filled_length
fills n = record { holds = omega arith; in_fours = omega arith; at_least_28 = omega arith }

pub fewest : (n m : ℕ) → Fill n m → filled_length n ≤ m
unfolding filled_length
fewest n m f = omega (arith, f.holds, f.in_fours, f.at_least_28)

pub holds : (n : ℕ) → n ≤ filled_length n
holds n = (fills n).holds

-- ---- the stores

module _ (body : List ℕ) (n : ℕ) (h : length body ≤ n) where
  pub length_filled : length (filled_to n body) ≡ n
  length_filled = simp (length-append, length-replicate) (omega arith)

  filled_at : (i : ℕ) → i < n → get_or (filled_to n body) i 0 ≡ get_or body i 0
  filled_at i l = go (dec_lt i (length body))
    where
      go : Dec (i < length body) → get_or (filled_to n body) i 0 ≡ get_or body i 0
      go (yes k) = get_or-append body (replicate (n - length body) 0) 0 i k
      go (no k) =
          let e : length body + (i - length body) ≡ i = omega arith in
          ap (λ j. get_or (filled_to n body) j 0) (sym e)
          ∙ get_or-append-add body (replicate (n - length body) 0) (i - length body) 0
          ∙ get_or-replicate (n - length body) (i - length body) 0 0 (omega arith)
          ∙ sym (get_or-eq_default body 0 {n = i} (omega arith))

-- octets that are the body's, or 0 where it has none
pub filled : (xs body : List ℕ) → length body ≤ length xs → ((k : ℕ) → k < length xs → get_or xs k 0 ≡ get_or body k 0) → xs ≡ filled_to (length xs) body
filled xs body h e =
    same_number_lists xs (filled_to (length xs) body) (sym (length_filled body (length xs) h)) (λ k l. e k l ∙ sym (filled_at body (length xs) h k l))

-- head and body
pub head_octets : (field_type m : ℕ) → m < 65536 → octets 4 (field_type * 65536 + m) ≡ octets 2 field_type ++ octets 2 m
head_octets field_type m h =
    let x = field_type * 65536 + m in
    let high : x / 65536 ≡ field_type = omega arith in
    let low : x % 65536 ≡ m = omega arith in
    octets_add 2 2 x ∙ ap (λ k. octets 2 k ++ octets 2 x) high ∙ ap (λ k. octets 2 field_type ++ k) (sym (octets_mod 2 x) ∙ ap (octets 2) low)
