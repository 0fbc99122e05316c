-- No order: which difference it is, the laws, and what the answer says of the difference.
use Rattle.std.proofs.Common.{◌≡◌, ℕ, ◌+◌, ◌-◌, ◌*◌, ◌%◌, ◌^◌, ◌<◌, ◌≤◌, Bool, true, false, cond, ◌≢◌, ℤ, pos, ◌-ℤ◌, neg_ℤ, nat_abs, sym, refl, ◌∙◌, arith, to_z-of_z, of_z, to_z, w64, SFits, eq-eqb, ne_eqb, eqb-true}
use native.Mathlib.Decide.{dec_lt}
use borrow.Author.Tests.{eqb-false}
use mir.Facts.{of_z-to_z}
use Rattle.arithmetic.specs.TwosComplement.{signed}
use Rattle.arithmetic.proofs.Integers.{up, dn, integers, minus, neg, size_is}
use Rattle.arithmetic.proofs.Modulo.{Congruent, near}
use Rattle.arithmetic.proofs.Machine.{held, flags}
use Rattle.arithmetic.proofs.Machine.{signed_to_z}
use Rattle.arithmetic.proofs.TwosComplement.{difference_wraps, signed_low, signed_high, difference_congruent, difference_fits}
use Rattle.timestamp.specs.declared.Timestamp.{Timestamp}
use Rattle.std.specs.Prelude.{Option, Some, None, not, eqb}
use Rattle.std.specs.Bool.{then_some}
use Rattle.timestamp.specs.Timestamp.{◌since◌, has_no_order, ordered}
use Rattle.timestamp.specs.Order.{Orders}

-- ---- the answer, taken apart

module _ (z : ℤ) where
  pub order : has_no_order z ≡ false → ordered z ≡ Some z
  unfolding ordered
  order e = rw e

  pub none : has_no_order z ≡ true → ordered z ≡ None
  unfolding ordered
  none e = rw e

  pub from_none : ordered z ≡ None → has_no_order z ≡ true
  unfolding ordered
  from_none e = go (has_no_order z) e
    where
      go : (b : Bool) → cond b None (Some z) ≡ None → b ≡ true
      go true e = refl
      go false e = cc

  pub from_order : {r : ℤ} → ordered z ≡ Some r → (has_no_order z ≡ false) × (r ≡ z)
  unfolding ordered
  from_order {r} e = go (has_no_order z) e
    where
      go : (b : Bool) → cond b None (Some z) ≡ Some r → (b ≡ false) × (r ≡ z)
      go true e = (cc, cc)
      go false e = (refl, cc)

  pub is_half : has_no_order z ≡ true → nat_abs z ≡ 2 ^ 63
  unfolding has_no_order
  is_half e = eqb-true (nat_abs z) (2 ^ 63) e

  pub half_is : nat_abs z ≡ 2 ^ 63 → has_no_order z ≡ true
  unfolding has_no_order
  half_is e = eq-eqb (nat_abs z) (2 ^ 63) e

  pub not_half : has_no_order z ≡ false → nat_abs z ≢ 2 ^ 63
  unfolding has_no_order
  not_half e = eqb-false (nat_abs z) (2 ^ 63) e

  pub half_not : nat_abs z ≢ 2 ^ 63 → has_no_order z ≡ false
  unfolding has_no_order
  half_not e = ne_eqb (nat_abs z) (2 ^ 63) e

-- ---- the bits that code has

pub half_bits : has_no_order (signed 64 (2 ^ 63)) ≡ true
unfolding has_no_order signed
half_bits = refl

pub other_bits : (n : ℕ) → n < 2 ^ 64 → n ≢ 2 ^ 63 → has_no_order (signed 64 n) ≡ false
other_bits n h ne = half_not (signed 64 n) (go (dec_lt n (2 ^ 63)))
  where
    go : Dec (n < 2 ^ 63) → nat_abs (signed 64 n) ≢ 2 ^ 63
    go (yes l) = rw (signed_low 64 n l) (omega arith)
    go (no f) = rw (signed_high 64 n (omega arith)) (omega (arith, size_is (pos n -ℤ pos (2 ^ 64)), minus (pos n) (pos (2 ^ 64))))

-- ---- the difference as code takes it: modulo 2^64, read as a signed number; the language writes it back as its bits for a comparison

module _ (x y : Timestamp) (h : x.0 < 2 ^ 64) (k : y.0 < 2 ^ 64) where
  abbrev raw_bits : ℕ
  raw_bits = (x.0 + (2 ^ 64 - y.0)) % 2 ^ 64

  since_bits : x since y ≡ signed 64 raw_bits
  unfolding ◌since◌
  since_bits = difference_wraps 64 raw_bits x.0 y.0 (omega arith) (omega arith)

  module _ {r : ℤ} (e : r ≡ signed 64 raw_bits) where
    back : of_z w64 r ≡ raw_bits
    back = rw (e, signed_to_z w64 raw_bits (omega arith)) (of_z-to_z {w = w64} (record { fits = omega arith }))

    same_test : eqb (of_z w64 r) (2 ^ 63) ≡ has_no_order (x since y)
    same_test = rw (back, since_bits) (go (eqb raw_bits (2 ^ 63)) refl)
      where
        go : (b : Bool) → eqb raw_bits (2 ^ 63) ≡ b → b ≡ has_no_order (signed 64 raw_bits)
        go true e = sym (rw (eqb-true raw_bits (2 ^ 63) e) half_bits)
        go false e = sym (other_bits raw_bits (omega arith) (eqb-false raw_bits (2 ^ 63) e))

    pub differs : then_some (not (eqb (of_z w64 r) (2 ^ 63))) (to_z w64 (of_z w64 r)) ≡ ordered (x since y)
    unfolding ordered
    differs = rw (same_test, back, sym (signed_to_z w64 raw_bits (omega arith)), sym since_bits) (go (has_no_order (x since y)))
      where
        go : (b : Bool) → then_some (not b) (x since y) ≡ cond b None (Some (x since y))
        go true = refl
        go false = refl

-- ---- the laws

module _ (x y : Timestamp) where
  pub congruent : Congruent (2 ^ 64) (x since y) (pos x.0 -ℤ pos y.0)
  unfolding ◌since◌
  congruent = difference_congruent 64 x.0 y.0 (omega arith)

  pub fits : (dn (x since y) ≤ up (x since y) + 2 ^ 63) × (up (x since y) < dn (x since y) + 2 ^ 63)
  unfolding ◌since◌
  fits =
      let f = difference_fits 64 x.0 y.0 (omega arith) in
      let low = neg (pos (2 ^ 63)) in
      (omega (arith, integers, f.low), omega (arith, integers, f.high))

  -- half a circle is read as -2^63
  pub lowest : has_no_order (x since y) ≡ true → dn (x since y) ≡ up (x since y) + 2 ^ 63
  lowest e = let f = fits in omega (arith, is_half (x since y) e, size_is (x since y))

  pub above_lowest : has_no_order (x since y) ≡ false → dn (x since y) < up (x since y) + 2 ^ 63
  above_lowest e = let f = fits in let n = not_half (x since y) e in omega (arith, size_is (x since y))

module _ (x y : Timestamp) where
  -- the two differences make a multiple of the circle
  opposite : up (x since y) + up (y since x) + 2 ^ 64 * ((congruent x y).less + (congruent y x).less) ≡ dn (x since y) + dn (y since x) + 2 ^ 64 * ((congruent x y).more + (congruent y x).more)
  opposite = omega (arith, (congruent x y).even, (congruent y x).even, minus (pos x.0) (pos y.0), minus (pos y.0) (pos x.0))

  reversed : has_no_order (x since y) ≡ false → y since x ≡ neg_ℤ (x since y)
  reversed e =
      let a = above_lowest x y e in
      let f = fits x y in
      let g = fits y x in
      let n = near (2 ^ 64) _ _ _ _ opposite (omega arith) (omega arith) in
      omega (arith, integers, neg (x since y))

  half_reversed : has_no_order (x since y) ≡ true → has_no_order (y since x) ≡ true
  half_reversed e =
      let l = lowest x y e in
      let g = fits y x in
      let n = near (2 ^ 64) (up (x since y) + up (y since x) + 2 ^ 64) (dn (x since y) + dn (y since x)) ((congruent x y).less + (congruent y x).less) ((congruent x y).more + (congruent y x).more + 1) (omega (arith, opposite)) (omega arith) (omega arith) in
      half_is (y since x) (omega (arith, size_is (y since x)))

  module _ (h : x.0 < 2 ^ 64) (k : y.0 < 2 ^ 64) where
    abbrev raw : ℤ
    raw = pos x.0 -ℤ pos y.0

    apart : has_no_order (x since y) ≡ true → nat_abs raw ≡ 2 ^ 63
    apart e = go (dec_lt x.0 y.0)
      where
        l : dn (x since y) ≡ up (x since y) + 2 ^ 63
        l = lowest x y e

        c : Congruent (2 ^ 64) (x since y) raw
        c = congruent x y

        m : up raw + y.0 ≡ x.0 + dn raw
        m = omega (arith, minus (pos x.0) (pos y.0))

        go : Dec (x.0 < y.0) → nat_abs raw ≡ 2 ^ 63
        go (yes p) = let n = near (2 ^ 64) _ _ _ _ c.even (omega (arith, l, m)) (omega (arith, l, m)) in omega (arith, l, m, size_is raw)
        go (no p) =
            let n = near (2 ^ 64) (up (x since y) + dn raw + 2 ^ 64) (up raw + dn (x since y)) c.less (c.more + 1) (omega (arith, c.even)) (omega (arith, l, m)) (omega (arith, l, m)) in
            omega (arith, l, m, size_is raw)

    half_way : nat_abs raw ≡ 2 ^ 63 → has_no_order (x since y) ≡ true
    half_way e = half_is (x since y) (go (dec_lt x.0 y.0))
      where
        f : (dn (x since y) ≤ up (x since y) + 2 ^ 63) × (up (x since y) < dn (x since y) + 2 ^ 63)
        f = fits x y

        c : Congruent (2 ^ 64) (x since y) raw
        c = congruent x y

        m : up raw + y.0 ≡ x.0 + dn raw
        m = omega (arith, minus (pos x.0) (pos y.0))

        s : nat_abs raw ≡ (up raw - dn raw) + (dn raw - up raw)
        s = size_is raw

        go : Dec (x.0 < y.0) → nat_abs (x since y) ≡ 2 ^ 63
        go (yes p) = let n = near (2 ^ 64) _ _ _ _ c.even (omega (arith, f, m, s)) (omega (arith, f, m, s)) in omega (arith, f, m, s, size_is (x since y))
        go (no p) =
            let n = near (2 ^ 64) (up (x since y) + dn raw + 2 ^ 64) (up raw + dn (x since y)) c.less (c.more + 1) (omega (arith, c.even)) (omega (arith, f, m, s)) (omega (arith, f, m, s)) in
            omega (arith, f, m, s, size_is (x since y))

pub orders : Orders
orders x y h k = record {
  exactly = (λ e. apart x y h k (from_none (x since y) e), λ e. none (x since y) (half_way x y h k e));
  both_ways = λ e. none (y since x) (half_reversed x y (from_none (x since y) e));
  negatives = reversed x y;
}

-- ---- in code: the answer r of x - y, taken apart; a local then holds the difference

pub sfits : (x y : Timestamp) → SFits w64 (x since y)
sfits x y = let f = fits x y in omega (arith, integers, flags)

module _ (x y : Timestamp) {r : Option ℤ} (e : r ≡ ordered (x since y)) where
  pub unordered : r ≡ None → has_no_order (x since y) ≡ true
  unordered k = from_none (x since y) (sym e ∙ k)

  pub taken : {v : ℤ} → r ≡ Some v → (has_no_order (x since y) ≡ false) × (held w64 v ≡ x since y)
  taken k = let (o, is) = from_order (x since y) (sym e ∙ k) in (o, rw is (to_z-of_z (sfits x y)))
