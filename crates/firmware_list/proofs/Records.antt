-- A list that 46 does not refuse: its records by their numbers, and their images, which are the list.
use mathlib.Core.Path.{◌≡◌, refl, sym, ap, ◌∙◌}
use mathlib.Core.Bool.{Bool, true, false, not, ◌&&◌, ◌||◌}
use mathlib.Core.List.{List, [], ◌∷◌, ◌++◌, append_assoc}
use Prim.Native.Nat.{ℕ, zero, suc, ◌+◌, ◌*◌, ◌%◌, ◌<◌}
use native.Mathlib.Nat.{le_of_suc-le-suc, not-suc-le-zero}
use native.Mathlib.Omega.{arith}
use borrow.Author.Tests.{eqb-true, ltb-true, ltb-false}
use lib.Dec.{eqb, ltb}
use lib.ListN.{length, get_or, set, take, drop, length-drop, take-append-drop}
use lib.Seq.{drop-drop, get_or-drop, drop_at, take-append-add, drop-append-add, set_out}
use Rattle.arithmetic.specs.Octets.{part, AreOctets}
use Rattle.arithmetic.proofs.Octets.{are_part}
use Rattle.client.specs.declared.Client.{Client}
use Rattle.std.specs.List.{list_any}
use Rattle.client.specs.Record.{fresh, illegal}
use Rattle.association_rules.specs.Associations.{any_illegal}
use Rattle.firmware_layouts.specs.Image.{has_values, is_image, record_in, image_of, image_read}
use Rattle.firmware_layouts.proofs.Layouts.{length_image}
use Rattle.firmware_layouts.proofs.Laws.{laws}
use Rattle.firmware_list.specs.Images.{count, each_image, is_list, list_has_values, records_of, records_in, images_of, with_record}

pub and_true : (a b : Bool) → a && b ≡ true → (a ≡ true) × (b ≡ true)
and_true true b e = (refl, e)
and_true false true e = (e, refl)
and_true false false e = (e, e)

-- ---- records by their numbers

pub length_records : (n : ℕ) (list : List ℕ) → length (records_of n list) ≡ n
unfolding records_of
length_records zero list = refl
length_records (suc n) list = ap suc (length_records n (drop 32 list))

later_image : (j : ℕ) (list : List ℕ) → part (32 * j) 32 (drop 32 list) ≡ part (32 * suc j) 32 list
later_image j list = let e : 32 + 32 * j ≡ 32 * suc j = omega arith in ap (take 32) (drop-drop (32 * j) 32 list ∙ ap (λ n. drop n list) e)

pub numbered : (n k : ℕ) (list : List ℕ) → k < n → get_or (records_of n list) k fresh ≡ record_in (part (32 * k) 32 list)
unfolding records_of
numbered zero k list h = absurd (not-suc-le-zero h)
numbered (suc n) zero list h = refl
numbered (suc n) (suc k) list h = numbered n k (drop 32 list) (le_of_suc-le-suc h) ∙ ap record_in (later_image k list)

-- ---- a list of legal values, and its records

exchanged : (a b c d : Bool) → (a && not b) && (c && not d) ≡ (a && c) && not (b || d)
exchanged false b c d = refl
exchanged true true true d = refl
exchanged true true false d = refl
exchanged true false c d = refl

an_image : (image : List ℕ) → is_image image ≡ has_values image && not (illegal (record_in image))
unfolding is_image has_values
an_image image = refl

legal_images : (n : ℕ) (list : List ℕ) → each_image is_image n list ≡ each_image has_values n list && not (any_illegal (records_of n list))
unfolding each_image records_of any_illegal
legal_images zero list = refl
legal_images (suc n) list =
    let image = take 32 list in
    let rest = drop 32 list in
    rw (an_image image, legal_images n rest)
    (exchanged (has_values image) (illegal (record_in image)) (each_image has_values n rest) (list_any illegal (records_of n rest)))

-- a list is legal where its values are and no record is illegal
pub legal_list : (list : List ℕ) → is_list list ≡ list_has_values list && not (any_illegal (records_in list))
unfolding is_list list_has_values
legal_list list = go (eqb (length list % 32) 0)
  where
    go : (w : Bool) → w && each_image is_image (count list) list ≡ (w && each_image has_values (count list) list) && not (any_illegal (records_in list))
    go true = legal_images (count list) list
    go false = refl

-- ---- the images of records

image_back : (image : List ℕ) → AreOctets image → is_image image ≡ true → image_of (record_in image) ≡ image
image_back image o e = sym (laws.one_image image (record_in image) o (unfold image_read in rw e))

are_drop : (list : List ℕ) → AreOctets list → AreOctets (drop 32 list)
are_drop list o i = rw (get_or-drop 32 list i 0) (o (32 + i))

images_back : (n : ℕ) (list : List ℕ) → AreOctets list → length list ≡ 32 * n → each_image is_image n list ≡ true → images_of (records_of n list) ≡ list
unfolding images_of records_of each_image
images_back zero [] o l e = refl
images_back zero (x ∷ list) o l e = absurd (omega arith)
images_back (suc n) list o l e =
    let (first, rest) = and_true (is_image (take 32 list)) _ e in
    let m : length (drop 32 list) ≡ 32 * n = length-drop 32 list ∙ omega arith in
    rw (image_back (take 32 list) (are_part 0 32 list o) first, images_back n (drop 32 list) (are_drop list o) m rest) (take-append-drop 32 list)

-- one record of them is another
placed : (cs : List Client) (at : ℕ) (c : Client) → at < length cs
    → images_of (set cs at c) ≡ take (32 * at) (images_of cs) ++ image_of c ++ drop (32 * at + 32) (images_of cs)
unfolding images_of
placed [] at c h = absurd (not-suc-le-zero h)
placed (x ∷ cs) zero c h = ap (λ rest. image_of c ++ rest) (sym (drop_at (image_of x) (images_of cs) 32 (length_image x)))
placed (x ∷ cs) (suc at) c h =
    let n : length (image_of x) + 32 * at ≡ 32 * suc at = rw (length_image x) (omega arith) in
    let m : length (image_of x) + (32 * at + 32) ≡ 32 * suc at + 32 = rw (length_image x) (omega arith) in
    let front = sym (take-append-add (image_of x) (images_of cs) (32 * at)) ∙ ap (λ k. take k (image_of x ++ images_of cs)) n in
    let back = sym (drop-append-add (image_of x) (images_of cs) (32 * at + 32)) ∙ ap (λ k. drop k (image_of x ++ images_of cs)) m in
    ap (λ rest. image_of x ++ rest) (placed cs at c (le_of_suc-le-suc h))
    ∙ sym (append_assoc (image_of x) (take (32 * at) (images_of cs) ++ image_of c) (drop (32 * at + 32) (images_of cs)))
    ∙ ap (λ z. z ++ drop (32 * at + 32) (images_of cs)) (sym (append_assoc (image_of x) (take (32 * at) (images_of cs)) (image_of c)))
    ∙ ap (λ z. z ++ image_of c ++ drop (32 * at + 32) (images_of cs)) front
    ∙ ap (λ z. take (32 * suc at) (image_of x ++ images_of cs) ++ image_of c ++ z) back

with_record_lem : (list : List ℕ) (at : ℕ) (c : Client) → ltb at (count list) ≡ true
    → with_record list at c ≡ take (32 * at) list ++ image_of c ++ drop (32 * at + 32) list
unfolding with_record
with_record_lem list at c e = rw e

without_record : (list : List ℕ) (at : ℕ) (c : Client) → ltb at (count list) ≡ false → with_record list at c ≡ list
unfolding with_record
without_record list at c e = rw e

-- ---- a list

module _ (list : List ℕ) (is : is_list list ≡ true) where
  whole : length list % 32 ≡ 0
  unfolding is_list
  whole = eqb-true (length list % 32) 0 (and_true (eqb (length list % 32) 0) _ is).0

  legal : each_image is_image (count list) list ≡ true
  unfolding is_list
  legal = (and_true (eqb (length list % 32) 0) _ is).1

  module _ (o : AreOctets list) where
    pub is_images : images_of (records_in list) ≡ list
    is_images = images_back (count list) list o (omega (arith, whole)) legal

    pub stored : (at : ℕ) (c : Client) → with_record list at c ≡ images_of (set (records_in list) at c)
    stored at c = go (ltb at (count list)) refl
      where
        go : (b : Bool) → ltb at (count list) ≡ b → with_record list at c ≡ images_of (set (records_in list) at c)
        go true e =
            let there = placed (records_in list) at c (rw (length_records (count list) list) (ltb-true at (count list) e)) in
            with_record_lem list at c e ∙ sym (there ∙ ap (λ z. take (32 * at) z ++ image_of c ++ drop (32 * at + 32) z) is_images)
        go false e =
            let past = set_out (records_in list) at c (rw (length_records (count list) list) (ltb-false at (count list) e)) in
            without_record list at c e ∙ sym (ap images_of past ∙ is_images)
