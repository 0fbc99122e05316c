-- Two's complement and differences, over the width: k bits are a number from 0 to 2^k - 1.
use Rattle.std.specs.Prelude.{ℕ, ◌-◌, ◌^◌, cond, ltb, ℤ, pos, neg_ℤ, ◌-ℤ◌, ◌≤ℤ◌, ◌<ℤ◌}
use Rattle.arithmetic.specs.Modulo.{◌modulo◌}

-- k bits n, read as a signed number: n where the top bit is clear, else n - 2^k
unfoldable pub signed : ℕ → ℕ → ℤ
signed k n = cond (ltb n (2 ^ (k - 1))) (pos n) (pos n -ℤ pos (2 ^ k))

-- the k bits of a whole number
unfoldable pub bits : ℕ → ℤ → ℕ
bits k z = z modulo 2 ^ k

-- z is one of the signed numbers that k bits stand for: -2^(k - 1) to 2^(k - 1) - 1
pub record Fits (k : ℕ) (z : ℤ) : Type 0 where
  pub low : neg_ℤ (pos (2 ^ (k - 1))) ≤ℤ z
  pub high : z <ℤ pos (2 ^ (k - 1))

-- the difference x - y, taken modulo 2^k and read as a signed number
unfoldable pub difference : ℕ → ℕ → ℕ → ℤ
difference k x y = signed k ((pos x -ℤ pos y) modulo 2 ^ k)
