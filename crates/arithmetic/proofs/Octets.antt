-- The octets of a number and the number of octets are inverse to each other, over the count; and both go by parts. Assumes nothing.
use Prim.Native.Nat.{ℕ, zero, suc, ◌+◌, ◌*◌, ◌/◌, ◌%◌, ◌^◌, ◌<◌, ◌≤◌}
use native.Mathlib.Nat.{zero-add, suc-add, add-zero, add-suc, add_comm, add_assoc, add-mul, mul_assoc, pow-suc, pow-succ', mod-eq_of_lt, div-add-mod', div-div-eq-div-mul, mul-add-div_right, mul-add-mod_self_right}
use native.Mathlib.Numerals.{add-one}
use native.Mathlib.Omega.{arith}
use mathlib.Core.Path.{◌≡◌, refl, sym, ap, ◌∙◌}
use mathlib.Core.List.{List, [], ◌∷◌, ◌++◌, reverse, reverse_aux, reverse-reverse, reverse-append}
use lib.ListN.{length, take, drop, get_or, set, length-append, length-drop, length-reverse}
use lib.Seq.{take-add, drop-drop, drop-cons, get_or-drop, length-take-le, sets}
use lib.Pow.{pow-add}
use lib.Arith.{digits_lt, digits_div, mod-mul}
use Rattle.arithmetic.specs.Octets.{big_endian, octets, part, AreOctets}

pow_pos : (n : ℕ) → 0 < 256 ^ n
pow_pos zero = omega arith
pow_pos (suc n) = let h = pow_pos n in rw pow-suc (omega arith)

more : (n x : ℕ) → octets (suc n) x ≡ x / 256 ^ n % 256 ∷ octets n x
unfolding octets
more n x = refl

pub length_octets : (n x : ℕ) → length (octets n x) ≡ n
unfolding octets
length_octets zero x = refl
length_octets (suc n) x = ap suc (length_octets n x)

-- ---- lists of octets

are_cons : (x : ℕ) (p : List ℕ) → x < 256 → AreOctets p → AreOctets (x ∷ p)
are_cons x p l h zero = l
are_cons x p l h (suc i) = h i

are_octets : (n x : ℕ) → AreOctets (octets n x)
unfolding octets
are_octets zero x = λ i. omega arith
are_octets (suc n) x = are_cons (x / 256 ^ n % 256) (octets n x) (omega arith) (are_octets n x)

are_reverse : (p r : List ℕ) → AreOctets p → AreOctets r → AreOctets (reverse_aux p r)
are_reverse [] r h k = k
are_reverse (x ∷ p) r h k = are_reverse p (x ∷ r) (λ i. h (suc i)) (are_cons x r (h 0) k)

are_take : (n : ℕ) (p : List ℕ) → AreOctets p → AreOctets (take n p)
are_take zero p h = λ i. omega arith
are_take (suc n) [] h = λ i. omega arith
are_take (suc n) (x ∷ p) h = are_cons x (take n p) (h 0) (are_take n p (λ i. h (suc i)))

pub are_part : (at n : ℕ) (p : List ℕ) → AreOctets p → AreOctets (part at n p)
are_part at n p h = are_take n (drop at p) (λ i. rw get_or-drop (h (at + i)))

pub big_endian_lt : (xs : List ℕ) → AreOctets xs → big_endian xs < 256 ^ length xs
big_endian_lt [] h = omega arith
big_endian_lt (x ∷ xs) h = rw pow-succ' (digits_lt (h 0) (big_endian_lt xs (λ i. h (suc i))))

-- ---- there and back

pub big_endian_octets : (n x : ℕ) → big_endian (octets n x) ≡ x % 256 ^ n
unfolding octets
big_endian_octets zero x = omega arith
big_endian_octets (suc n) x =
    rw (length_octets n x, big_endian_octets n x, pow-succ') (sym (mod-mul x (omega arith) (pow_pos n)))

-- octets n looks at no octet above the n
octets_low : (n y x : ℕ) → octets n (y * 256 ^ n + x) ≡ octets n x
unfolding octets
octets_low zero y x = refl
octets_low (suc n) y x =
    rw (pow-succ', ← mul_assoc, octets_low n (y * 256) x, mul-add-div_right (pow_pos n), mul-add-mod_self_right)

pub octets_mod : (n x : ℕ) → octets n (x % 256 ^ n) ≡ octets n x
octets_mod n x = sym (octets_low n (x / 256 ^ n) (x % 256 ^ n)) ∙ ap (octets n) (div-add-mod' x (256 ^ n))

by_length : (xs : List ℕ) → AreOctets xs → octets (length xs) (big_endian xs) ≡ xs
unfolding octets
by_length [] h = refl
by_length (x ∷ xs) h =
    let l = big_endian_lt xs (λ i. h (suc i)) in
    rw (more, octets_low, digits_div x l, mod-eq_of_lt (h 0), by_length xs (λ i. h (suc i)))

pub octets_big_endian : (n : ℕ) (xs : List ℕ) → length xs ≡ n → AreOctets xs → octets n (big_endian xs) ≡ xs
octets_big_endian n xs l h = rw (← l) (by_length xs h)

-- the same in reverse order, there and back
reverse_octets : (n : ℕ) (xs : List ℕ) → length xs ≡ n → AreOctets xs → reverse (octets n (big_endian (reverse xs))) ≡ xs
reverse_octets n xs l h =
    rw (octets_big_endian n (reverse xs) (length-reverse xs ∙ l) (are_reverse xs [] h (λ i. omega arith)), reverse-reverse)

-- ---- by parts

pub big_endian_append : (xs ys : List ℕ) → big_endian (xs ++ ys) ≡ big_endian xs * 256 ^ length ys + big_endian ys
big_endian_append [] ys = omega arith
big_endian_append (x ∷ xs) ys =
    rw (length-append xs ys, big_endian_append xs ys, pow-add, add-mul, mul_assoc, add_assoc)

pub octets_add : (m n x : ℕ) → octets (m + n) x ≡ octets m (x / 256 ^ n) ++ octets n x
unfolding octets
octets_add zero n x = rw zero-add
octets_add (suc m) n x = rw (suc-add, more, octets_add m n x, div-div-eq-div-mul, ← pow-add 256 n m, add_comm)

pub reverse_add : (m n x : ℕ)
    → big_endian (reverse (octets (m + n) x)) ≡ big_endian (reverse (octets n (x % 256 ^ n))) * 256 ^ m + big_endian (reverse (octets m (x / 256 ^ n)))
reverse_add m n x = rw (octets_mod, octets_add, reverse-append, big_endian_append, length-reverse, length_octets)

-- a part is one part after another
pub part_add : (at m n : ℕ) (p : List ℕ) → part at (m + n) p ≡ part at m p ++ part (at + m) n p
part_add at m n p = rw (take-add, drop-drop)

-- a part is its first octet and the rest
part_cons : (at n : ℕ) (p : List ℕ) → at < length p → part at (suc n) p ≡ get_or p at 0 ∷ part (at + 1) n p
part_cons at n p h = rw (add-one, drop-cons p at 0)

pub length_part : (at n : ℕ) (p : List ℕ) → at + n ≤ length p → length (part at n p) ≡ n
length_part at n p h = length-take-le n (drop at p) (rw length-drop (omega arith))

pub number_add : (at m n : ℕ) (p : List ℕ) → at + (m + n) ≤ length p
    → big_endian (part at (m + n) p) ≡ big_endian (part at m p) * 256 ^ n + big_endian (part (at + m) n p)
number_add at m n p h = rw (part_add, big_endian_append, length_part (at + m) n p (omega arith))

pub part_two : (at : ℕ) (p : List ℕ) → at + 2 ≤ length p → part at 2 p ≡ get_or p at 0 ∷ get_or p (at + 1) 0 ∷ []
part_two at p h = rw (part_cons at 1 p (omega arith), part_cons (at + 1) 0 p (omega arith))

pub part_four : (at : ℕ) (p : List ℕ) → at + 4 ≤ length p
    → part at 4 p ≡ get_or p at 0 ∷ get_or p (at + 1) 0 ∷ get_or p (at + 2) 0 ∷ get_or p (at + 3) 0 ∷ []
part_four at p h =
    rw (part_cons at 3 p (omega arith), part_cons (at + 1) 2 p (omega arith), part_cons (at + 1 + 1) 1 p (omega arith), part_cons (at + 1 + 1 + 1) 0 p (omega arith), add_assoc, add_assoc)

pub octets_number : (at n : ℕ) (p : List ℕ) → AreOctets p → at + n ≤ length p → octets n (big_endian (part at n p)) ≡ part at n p
octets_number at n p h l = octets_big_endian n (part at n p) (length_part at n p l) (are_part at n p h)

pub number_lt : (at n : ℕ) (p : List ℕ) → AreOctets p → at + n ≤ length p → big_endian (part at n p) < 256 ^ n
number_lt at n p h l = rw (length_part at n p l) at (big_endian_lt (part at n p) (are_part at n p h))

-- a run of stores is one run after another
pub sets_append : (l : List ℕ) (i : ℕ) (xs ys : List ℕ) → sets l i (xs ++ ys) ≡ sets (sets l i xs) (i + length xs) ys
sets_append l i [] ys = rw add-zero
sets_append l i (x ∷ xs) ys = rw (add-suc, ← suc-add) (sets_append (set l i x) (suc i) xs ys)

-- ---- by way of the number y whose octets are those of x in reverse order: its octets from the lowest on are those of x from the highest on

pub sets_reverse : (n : ℕ) (l : List ℕ) (at x y : ℕ) → y ≡ big_endian (reverse (octets n x))
    → sets l at (reverse (octets n y)) ≡ sets l at (octets n x)
sets_reverse n l at x y e =
    rw e (ap (sets l at) (reverse_octets n (octets n x) (length_octets n x) (are_octets n x)))

pub number_reverse : (n at : ℕ) (p : List ℕ) (y : ℕ) → AreOctets p → at + n ≤ length p → y ≡ big_endian (reverse (part at n p))
    → big_endian (reverse (octets n y)) ≡ big_endian (part at n p)
number_reverse n at p y h l e = rw e (ap big_endian (reverse_octets n (part at n p) (length_part at n p l) (are_part at n p h)))
