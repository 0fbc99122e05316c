-- Images one after another: the tests of each in turn, and an image in its place.
use mathlib.Core.Path.{◌≡◌, refl, sym, ap, ◌∙◌}
use mathlib.Core.Bool.{Bool, true, false, ◌&&◌}
use mathlib.Core.List.{List, ◌++◌, append_assoc}
use Prim.Native.Nat.{ℕ, suc, ◌+◌, ◌-◌, ◌*◌, ◌%◌, ◌≤◌, ◌<◌}
use native.Mathlib.Omega.{arith}
use borrow.Author.Tests.{lt-ltb, le-ltb, eq-eqb, ne_eqb, eqb-true, eqb-false}
use borrow.Rule.Slice.PartMut.{put_mid}
use lib.Dec.{eqb}
use lib.ListN.{length, get_or, set, take, drop, length-drop, length-append}
use lib.Seq.{drop-drop, take_at, drop_at, length-take-le, get_or-set_same, get_or-set_other, set_out}
use Rattle.std.specs.Prelude.{Some, None, is_some}
use Rattle.arithmetic.specs.Octets.{part}
use Rattle.client.specs.declared.Client.{Client}
use Rattle.client.specs.Record.{fresh}
use Rattle.firmware_layouts.specs.Image.{has_values, values_read, is_image, image_read, record_in, image_of, with_image}
use Rattle.firmware_layouts.proofs.Laws.{with_image_lem}
use Rattle.firmware_list.specs.Images.{count, each_image, all_images, HoldsFirst, with_record}

-- a part is cut by its two ends
span : (at : ℕ) → 32 * at + 32 - 32 * at ≡ 32
span at = omega arith

-- ---- what reading says of an image

module _ (image : List ℕ) where
  pub read_values : (c : Client) → values_read image ≡ Some c → (has_values image ≡ true) × (record_in image ≡ c)
  unfolding values_read
  read_values c q = go (has_values image) refl
    where
      go : (b : Bool) → has_values image ≡ b → (has_values image ≡ true) × (record_in image ≡ c)
      go true e = let r = rw e at q in (e, cc)
      go false e = absurd (cc (rw e at q))

  other_values : values_read image ≡ None → has_values image ≡ false
  unfolding values_read
  other_values q = go (has_values image) refl
    where
      go : (b : Bool) → has_values image ≡ b → has_values image ≡ false
      go true e = absurd (cc (rw e at q))
      go false e = e

  pub is_read : (b : Bool) → is_some (image_read image) ≡ b → is_image image ≡ b
  unfolding image_read
  is_read b q = go (is_image image) refl
    where
      go : (a : Bool) → is_image image ≡ a → is_image image ≡ b
      go true e = e ∙ rw e at q
      go false e = e ∙ rw e at q

-- ---- whether all images pass a test

module _ (test : List ℕ → Bool) (list : List ℕ) where
  pub not_whole : (length list % 32 ≡ 0 → ⊥) → all_images test list ≡ false
  not_whole h = rw (ne_eqb (length list % 32) 0 h)

  pub not_each : each_image test (count list) list ≡ false → all_images test list ≡ false
  not_each e = go (eqb (length list % 32) 0)
    where
      go : (b : Bool) → b && each_image test (count list) list ≡ false
      go true = e
      go false = refl

  pub each : each_image test (count list) list ≡ true → all_images test list ≡ eqb (length list % 32) 0
  each e = go (eqb (length list % 32) 0)
    where
      go : (b : Bool) → b && each_image test (count list) list ≡ b
      go true = e
      go false = refl

  pub whole_and_each : length list % 32 ≡ 0 → each_image test (count list) list ≡ true → all_images test list ≡ true
  whole_and_each h e = each e ∙ eq-eqb (length list % 32) 0 h

-- ---- a turn of the loop: an image comes off the front of what is left

module _ (rest image later : List ℕ) (n : ℕ) (step : (rest ≡ image ++ later) × (length image ≡ n)) (whole : n ≡ 32) where
  one_more : count rest ≡ suc (count later)
  one_more = let e : length rest ≡ 32 + length later = rw (step.0, length-append image later, step.1, whole) refl in rw e (omega arith)

  first : take 32 rest ≡ image
  first = rw step.0 (take_at image later 32 (step.1 ∙ whole))

  others : drop 32 rest ≡ later
  others = rw step.0 (drop_at image later 32 (step.1 ∙ whole))

  module _ (test : List ℕ → Bool) (b : Bool) (so_far : b ≡ each_image test (count rest) rest) where
    pub failed : test image ≡ false → b ≡ false
    unfolding each_image
    failed e = so_far ∙ rw (one_more, first, e)

    pub passed : test image ≡ true → b ≡ each_image test (count later) later
    unfolding each_image
    passed e = so_far ∙ rw (one_more, first, others, e)

  module _ (list : List ℕ) where
    pub no_values : each_image has_values (count list) list ≡ each_image has_values (count rest) rest → values_read image ≡ None → all_images has_values list ≡ false
    no_values so_far q = not_each has_values list (failed has_values _ so_far (other_values image q))

    pub no_image : each_image is_image (count list) list ≡ each_image is_image (count rest) rest → is_some (image_read image) ≡ false → all_images is_image list ≡ false
    no_image so_far q = not_each is_image list (failed is_image _ so_far (is_read image false q))

  module _ (list : List ℕ) (i j : ℕ) (here : rest ≡ drop (32 * i) list) (next : j ≡ i + 1) where
    pub later_images : later ≡ drop (32 * j) list
    later_images =
        let e : 32 * i + 32 ≡ 32 * j = omega (arith, next) in
        sym others ∙ ap (drop 32) here ∙ drop-drop 32 (32 * i) list ∙ ap (λ n. drop n list) e

    -- its record is put in its place, or past the eighth
    pub placed : (records : List Client) → HoldsFirst records i list → length records ≡ 8 → (at : ℕ) (c : Client) → at ≡ i → record_in image ≡ c
        → HoldsFirst (set records at c) j list
    placed records before eight at c same is k h few = go (eqb k at) refl
      where
        go : (b : Bool) → eqb k at ≡ b → get_or (set records at c) k fresh ≡ record_in (part (32 * k) 32 list)
        go true e =
            let this = eqb-true k at e in
            rw (this, get_or-set_same records at c fresh (omega (arith, this, eight)), same) (sym is ∙ ap record_in (sym first ∙ ap (take 32) here))
        go false e =
            let other = eqb-false k at e in
            get_or-set_other records at k c fresh other ∙ before k (omega (arith, next, same, other)) few

-- ---- the end of the loop

module _ (rest : List ℕ) (n : ℕ) (short : length rest < n) (whole : n ≡ 32) where
  pub all_pass : (test : List ℕ → Bool) (b : Bool) → b ≡ each_image test (count rest) rest → b ≡ true
  unfolding each_image
  all_pass test b so_far = let e : count rest ≡ 0 = omega (arith, short, whole) in so_far ∙ rw e

  pub all_passed : (list : List ℕ) (i : ℕ) → rest ≡ drop (32 * i) list → (k : ℕ) → k < count list → k < i
  all_passed list i here k h = let left = ap length here ∙ length-drop (32 * i) list in omega (arith, left, short, whole, h)

-- ---- an image in its place

-- what is written into the part of a number takes its place
pub put_image : (list : List ℕ) (at : ℕ) (c : Client) (x : List ℕ) → at < count list → x ≡ with_image (take (32 * at + 32 - 32 * at) (drop (32 * at) list)) c
    → put_mid (32 * at) (32 * at + 32 - 32 * at) list x ≡ with_record list at c
unfolding with_record
put_image list at c x inside is =
    let n : length (take 32 (drop (32 * at) list)) ≡ 32 = length-take-le 32 (drop (32 * at) list) (rw (length-drop (32 * at) list) (omega arith)) in
    let e = rw (span at) at is ∙ with_image_lem (take 32 (drop (32 * at) list)) c n in
    rw (lt-ltb at (count list) inside, span at, e)
    (ap (λ rest. take (32 * at) list ++ (image_of c ++ rest)) (drop-drop 32 (32 * at) list) ∙ sym (append_assoc (take (32 * at) list) (image_of c) (drop (32 * at + 32) list)))

pub past_end : (list : List ℕ) (at : ℕ) (c : Client) → count list ≤ at → list ≡ with_record list at c
unfolding with_record
past_end list at c past = rw (le-ltb at (count list) past)

pub past_eighth : (records : List Client) (at : ℕ) (c : Client) → length records ≤ at → records ≡ set records at c
past_eighth records at c past = sym (set_out records at c past)
