-- The characters that octets are written as: two digits an octet, in upper case.
use Rattle.std.specs.Prelude.{ℕ, ◌+◌, ◌/◌, ◌%◌, cond, Option, Some, None, List, [], ◌∷◌, ◌++◌, ltb, leb, length}
use Rattle.std.proofs.lemmas.List.Edits.{sets}

-- the character of a digit's value
unfoldable pub character_of : ℕ → ℕ
character_of value = cond (ltb (value % 16) 10) (48 + value % 16) (55 + value % 16)

abbrev pub digits : List ℕ → List ℕ
digits [] = []
digits (x ∷ octets) = character_of (x / 16) ∷ character_of x ∷ digits octets

-- a line of octets: their digits and a line feed
abbrev pub text : List ℕ → List ℕ
text octets = digits octets ++ (10 ∷ [])

-- a line put into the output from index at on, where there is room for it, and the index after it
unfoldable pub put_line : List ℕ → ℕ → List ℕ → List ℕ
put_line output at octets = cond (leb (at + length (text octets)) (length output)) (sets output at (text octets)) output

unfoldable pub put_line_at : List ℕ → ℕ → List ℕ → Option ℕ
put_line_at output at octets = cond (leb (at + length (text octets)) (length output)) (Some (at + length (text octets))) None
