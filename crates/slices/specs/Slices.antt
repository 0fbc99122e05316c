-- Numbers in a list of octets, big-endian, over the count of octets.
use Rattle.std.specs.Prelude.{ℕ, ◌+◌, cond, List, reverse, leb, length}
use Rattle.std.proofs.lemmas.List.Edits.{sets}
use Rattle.arithmetic.specs.Octets.{big_endian, octets, part}

-- the number of the n octets of p from index at on, and 0 if p does not have them
unfoldable pub read_at : ℕ → List ℕ → ℕ → ℕ
read_at n p at = cond (leb (at + n) (length p)) (big_endian (part at n p)) 0

-- p with the n octets of x from index at on, and p itself if there is no room for them
unfoldable pub write_at : ℕ → List ℕ → ℕ → ℕ → List ℕ
write_at n p at x = cond (leb (at + n) (length p)) (sets p at (octets n x)) p

-- the same with the lowest octet first
unfoldable pub write_reversed_at : ℕ → List ℕ → ℕ → ℕ → List ℕ
write_reversed_at n p at x = cond (leb (at + n) (length p)) (sets p at (reverse (octets n x))) p
