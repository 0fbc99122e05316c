-- The characters of a line of hexadecimal, as they come in (docs/RULES.md, "Replay lines").
use Rattle.std.specs.Prelude.{ℕ, ◌+◌, ◌-◌, ◌*◌, ◌%◌, Bool, true, false, not, cond, ◌||◌, Option, Some, None, List, ltb, leb, length, set}
use Rattle.ordered_tests.specs.Tests.{between}
use Rattle.hex_decode.specs.declared.Rest.{Rest}
use Rattle.hex_decode.specs.declared.Rest.TheVariants.{Nothing, Digit, Malformed}
use Rattle.hex_decode.specs.declared.Line.{Line}

-- the value of a hexadecimal digit of either case
unfoldable pub digit_of : ℕ → Option ℕ
digit_of c =
    cond (between 48 57 c) (Some (c - 48))  -- 0 to 9
    (cond (between 65 70 c) (Some (c - 55))  -- A to F
    (cond (between 97 102 c) (Some (c - 87))  -- a to f
    None))

abbrev pub start : Line
start = record { count = 0; rest = Nothing }

abbrev pub refused : Line → Line
refused line = record { count = line.count; rest = Malformed }

-- the second digit of a pair makes an octet, for which there must be room in the buffer
abbrev pub paired : Line → List ℕ → Line
paired line buffer = cond (leb (length buffer) line.count) (refused line) (record { count = line.count + 1; rest = Nothing })

-- A line that begins at `start` has a digit below 16 here, which is its own remainder. The remainder lets the octet fit for any other line too.
abbrev pub paired_buffer : Line → List ℕ → ℕ → ℕ → List ℕ
paired_buffer line buffer high low = cond (leb (length buffer) line.count) buffer (set buffer line.count (high % 16 * 16 + low))

-- one more character of a line: what is malformed stays so, and a character that is no digit makes it so; the first digit of a pair waits
abbrev pub taken : Line → List ℕ → Rest → Option ℕ → Line
taken line buffer rest None = refused line
taken line buffer Nothing (Some digit) = record { count = line.count; rest = Digit digit }
taken line buffer (Digit high) (Some low) = paired line buffer
taken line buffer Malformed (Some digit) = refused line

abbrev pub taken_buffer : Line → List ℕ → Rest → Option ℕ → List ℕ
taken_buffer line buffer rest None = buffer
taken_buffer line buffer Nothing (Some digit) = buffer
taken_buffer line buffer (Digit high) (Some low) = paired_buffer line buffer high low
taken_buffer line buffer Malformed (Some digit) = buffer

unfoldable pub pushed : Line → List ℕ → ℕ → Line
pushed line buffer c = taken line buffer line.rest (digit_of c)

unfoldable pub pushed_buffer : Line → List ℕ → ℕ → List ℕ
pushed_buffer line buffer c = taken_buffer line buffer line.rest (digit_of c)

abbrev pub is_nothing : Rest → Bool
is_nothing Nothing = true
is_nothing (Digit high) = false
is_nothing Malformed = false

-- no digit waits for its second one, and nothing was malformed
abbrev pub is_complete : Line → Bool
is_complete line = is_nothing line.rest

-- a character has come
unfoldable pub has_begun : Line → Bool
has_begun line = ltb 0 line.count || not (is_nothing line.rest)
