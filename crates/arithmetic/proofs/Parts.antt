-- Lists of one length, one after another, in place of the first parts of a list. Assumes nothing.
use Prim.Native.Nat.{ℕ, zero, suc, ◌+◌, ◌-◌, ◌*◌, ◌≤◌, ◌<◌}
use native.Mathlib.Omega.{arith}
use native.Mathlib.Nat.{mul-zero, mul-suc, one-mul, add-zero}
use native.Mathlib.Numerals.{add-one}
use mathlib.Core.Path.{◌≡◌, refl, ap, sym, ◌∙◌}
use mathlib.Core.List.{List, [], ◌∷◌, ◌++◌, append_assoc, append-nil}
use lib.ListN.{length, take, drop, set, get_or, length-append, length-drop}
use lib.Seq.{take_at, drop_at, drop-drop, get_or-take, get_or-drop, set_split, append_snoc}
use Rattle.arithmetic.specs.Octets.{part}
use Rattle.arithmetic.specs.Parts.{joined, replaced, Each, Replaced}

joined_last : (f : ℕ → List ℕ) (n : ℕ) → joined f n ++ f n ≡ joined f (suc n)
joined_last f zero = sym (append-nil (f 0))
joined_last f (suc n) = rw append_assoc (ap (λ l. f 0 ++ l) (joined_last (λ k. f (suc k)) n))

module _ (w : ℕ) where
  length_joined : (f : ℕ → List ℕ) (n : ℕ) → Each w f n → length (joined f n) ≡ w * n
  length_joined f zero each = sym (mul-zero w)
  length_joined f (suc n) each =
      rw (length-append, each 0 (omega arith), length_joined (λ k. f (suc k)) n (λ k h. each (suc k) (omega arith)), mul-suc) (omega arith)

  part_joined : (f : ℕ → List ℕ) (n k : ℕ) (rest : List ℕ) → Each w f n → k < n → part (w * k) w (joined f n ++ rest) ≡ f k
  part_joined f zero k rest each h = absurd (omega arith)
  part_joined f (suc n) zero rest each h = rw (mul-zero, append_assoc) (take_at (f 0) _ w (each 0 h))
  part_joined f (suc n) (suc k) rest each h =
      let e : w * suc k ≡ w + w * k = rw mul-suc (omega arith) in
      rw (e, ← drop-drop (w * k) w, append_assoc, drop_at (f 0) _ w (each 0 (omega arith)))
      (part_joined (λ k. f (suc k)) n k rest (λ k h. each (suc k) (omega arith)) (omega arith))

  module _ (l : List ℕ) (f : ℕ → List ℕ) (n : ℕ) (each : Each w f n) where
    pub part_replaced : (k : ℕ) → k < n → part (w * k) w (replaced w l f n) ≡ f k
    part_replaced k h = part_joined f n k _ each h

    pub past_replaced : drop (w * n) (replaced w l f n) ≡ drop (w * n) l
    past_replaced = drop_at (joined f n) _ (w * n) (length_joined f n each)

    pub length_replaced : w * n ≤ length l → length (replaced w l f n) ≡ length l
    length_replaced h = rw (length-append, length_joined f n each, length-drop) (omega arith)

    pub parts : w * n ≤ length l → Replaced w l f n
    parts h = record { place = part_replaced; past = past_replaced; length_kept = length_replaced h }

    -- one part more
    pub next_replaced : take (w * n) (replaced w l f n) ++ f n ++ drop (w * n + w) (replaced w l f n) ≡ replaced w l f (suc n)
    next_replaced =
        rw (take_at (joined f n) _ (w * n) (length_joined f n each), ← drop-drop w (w * n), past_replaced, drop-drop, joined_last f n, mul-suc)

-- a part of w elements, lent to g and put back
module _ (w : ℕ) (l : List ℕ) (at : ℕ) where
  pub same_part : part at (at + w - at) l ≡ part at w l
  same_part = let e : at + w - at ≡ w = omega arith in rw e

  pub put_back : (g : List ℕ → List ℕ) {after : List ℕ} → after ≡ g (part at (at + w - at) l)
      → take at l ++ (after ++ drop (at + w - at) (drop at l)) ≡ take at l ++ g (part at w l) ++ drop (at + w) l
  put_back g h = let e : at + w - at ≡ w = omega arith in rw (h, e, drop-drop, append_assoc)

-- one part more, where g makes part k of what stands there
module _ (w : ℕ) (l : List ℕ) (g : ℕ → List ℕ → List ℕ) (n : ℕ) (each : Each w (λ k. g k (part (w * k) w l)) n) where
  pub next_made : {held after : List ℕ} → held ≡ replaced w l (λ k. g k (part (w * k) w l)) n
      → after ≡ take (w * n) held ++ g n (part (w * n) w held) ++ drop (w * n + w) held → after ≡ replaced w l (λ k. g k (part (w * k) w l)) (n + 1)
  next_made h e =
      let f : ℕ → List ℕ = λ k. g k (part (w * k) w l) in
      e ∙ rw (h, past_replaced w l f n each, add-one n) (next_replaced w l f n each)

-- parts of one element
module _ (l : List ℕ) (f : ℕ → ℕ) where
  abbrev pub singles : ℕ → List ℕ
  singles n = replaced 1 l (λ k. f k ∷ []) n

  pub get_or_singles : (n k : ℕ) → k < n → get_or (singles n) k 0 ≡ f k
  get_or_singles n k h =
      let first : 0 < 1 = omega arith in
      rw (get_or-take, get_or-drop, one-mul k, add-zero) at (ap (λ l. get_or l 0 0) (part_replaced 1 l (λ k. f k ∷ []) n (λ k h. refl) k h))

  pub drop_singles : (n : ℕ) → drop n (singles n) ≡ drop n l
  drop_singles n = simp one-mul (simp one-mul at (past_replaced 1 l (λ k. f k ∷ []) n (λ k h. refl)))

  pub length_singles : (n : ℕ) → n ≤ length l → length (singles n) ≡ length l
  length_singles n h = length_replaced 1 l (λ k. f k ∷ []) n (λ k h. refl) (omega arith)

  pub set_singles : (n : ℕ) → n < length l → set (singles n) n (f n) ≡ singles (suc n)
  set_singles n h =
      let long : n < length (singles n) = rw (length_singles n (omega arith)) h in
      rw (set_split (singles n) n (f n) long) (simp one-mul (simp (one-mul, add-one, append_snoc) at (next_replaced 1 l (λ k. f k ∷ []) n (λ k h. refl))))
