-- A list in parts of one length: what it is once its first parts are replaced.
use Rattle.std.specs.Prelude.{ℕ, zero, suc, ◌*◌, ◌<◌, ◌≡◌, List, [], ◌++◌, length, drop}
use Rattle.arithmetic.specs.Octets.{part}

-- f 0, f 1, .., n of them
abbrev pub joined : (ℕ → List ℕ) → ℕ → List ℕ
joined f zero = []
joined f (suc n) = f 0 ++ joined (λ k. f (suc k)) n

-- l with these in place of its first n parts of w elements; what is past them stays
abbrev pub replaced : ℕ → List ℕ → (ℕ → List ℕ) → ℕ → List ℕ
replaced w l f n = joined f n ++ drop (w * n) l

-- each of the first n has w elements
abbrev pub Each : ℕ → (ℕ → List ℕ) → ℕ → Type 0
Each w f n = (k : ℕ) → k < n → length (f k) ≡ w

-- place for place, of a list that has n such parts
pub record Replaced (w : ℕ) (l : List ℕ) (f : ℕ → List ℕ) (n : ℕ) : Type 0 where
  pub place : (k : ℕ) → k < n → part (w * k) w (replaced w l f n) ≡ f k
  -- what is past them stays
  pub past : drop (w * n) (replaced w l f n) ≡ drop (w * n) l
  -- and so does the length
  pub length_kept : length (replaced w l f n) ≡ length l
