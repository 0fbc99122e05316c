-- The answer of an arrival: 24 octets (docs/C.md, "Layouts").
use Rattle.std.specs.Prelude.{ℕ, cond, List, [], ◌∷◌, ◌++◌, eqb, length}
use Rattle.arithmetic.specs.Octets.{octets}
use Rattle.arithmetic.specs.TwosComplement.{bits}
use Rattle.client.specs.Calls.{Told, refused, done, accepted, kiss}

-- 0 kind (1 accepted, 2 kiss), 1 half, 2 row, 3 zero, 4 to 7 code, 8 to 15 offset, 16 to 23 delay; what the answer does not name is zero. A refusal writes nothing.
unfoldable pub answer_in : List ℕ → Told → List ℕ
answer_in slice (refused n) = slice
answer_in slice done = slice
answer_in slice (accepted offset half delay) = (1 ∷ half ∷ 0 ∷ 0 ∷ []) ++ octets 4 0 ++ octets 8 (bits 64 offset) ++ octets 8 (bits 64 delay)
answer_in slice (kiss code row) = (2 ∷ 0 ∷ row ∷ 0 ∷ []) ++ octets 4 code ++ octets 8 0 ++ octets 8 0

-- what a slice holds that is to take an answer: one of another length stays
abbrev pub with_answer : List ℕ → Told → List ℕ
with_answer slice told = cond (eqb (length slice) 24) (answer_in slice told) slice
