-- Kiss codes and their rows (docs/RULES.md, "The client").
use Rattle.std.specs.Prelude.{ℕ, suc, cond, List, [], ◌∷◌, eqb, get_or}
use Prim.Native.Char as char
use Prim.Native.String.{String}
use Prim.Native.String as text
use Rattle.arithmetic.specs.Octets.{big_endian}

-- a kiss code as the number of its four octets
abbrev pub code_of : List ℕ → ℕ
code_of name = big_endian (get_or name 0 0 ∷ get_or name 1 0 ∷ get_or name 2 0 ∷ get_or name 3 0 ∷ [])

-- the octets of a text
abbrev pub octets_of : String → List ℕ
octets_of text.[] = []
octets_of (text.◌∷◌ c s) = char.code c ∷ octets_of s

-- the rules' rows 1 to 14
abbrev pub names : List String
names = "ACST" ∷ "AUTH" ∷ "AUTO" ∷ "BCST" ∷ "CRYP" ∷ "DENY" ∷ "DROP" ∷ "RSTR" ∷ "INIT" ∷ "MCST" ∷ "NKEY" ∷ "RATE" ∷ "RMOT" ∷ "STEP" ∷ []

abbrev pub codes : List String → List ℕ
codes [] = []
codes (name ∷ rest) = code_of (octets_of name) ∷ codes rest

-- the row of a code in a list of codes whose first has the row k; 0 where the code is none of them
abbrev pub row_in : ℕ → List ℕ → ℕ → ℕ
row_in k [] code = 0
row_in k (first ∷ rest) code = cond (eqb code first) k (row_in (suc k) rest code)

unfoldable pub row_of : ℕ → ℕ
row_of code = row_in 1 (codes names) code
