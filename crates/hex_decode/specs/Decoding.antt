-- What the octets of a whole line are: two digits an octet. proofs/Decoding.antt proves `Decoding`.
use Rattle.std.specs.Prelude.{ℕ, ◌+◌, ◌*◌, ◌≡◌, Bool, true, false, cond, Option, Some, None, List, [], ◌∷◌, leb, eqb, length, take, drop}
use Rattle.hex_decode.specs.declared.Line.{Line}
use Rattle.hex_decode.specs.declared.PushedLine.{PushedLine}
use Rattle.hex_decode.specs.Lines.{digit_of, start, pushed, pushed_buffer, is_complete, has_begun}

-- a line is octets or malformed: an Option in the words of the rules
pub data Frame : Type 0 where
  octets : List ℕ → Frame
  malformed : Frame

abbrev pub before : ℕ → Frame → Frame
before x (octets xs) = octets (x ∷ xs)
before x malformed = malformed

-- adds the octet of two digits before a frame's octets; malformed if either is not a digit
abbrev pub pair : Option ℕ → Option ℕ → Frame → Frame
pair (Some high) (Some low) frame = before (high * 16 + low) frame
pair (Some high) None frame = malformed
pair None low frame = malformed

-- decodes the characters of a line; malformed if a character is not a hexadecimal digit, or if their number is odd
abbrev pub decode : List ℕ → Frame
decode [] = octets []
decode (a ∷ []) = malformed
decode (a ∷ b ∷ rest) = pair (digit_of a) (digit_of b) (decode rest)

-- more than n octets are malformed
abbrev pub at_most : ℕ → Frame → Frame
at_most n (octets xs) = cond (leb (length xs) n) (octets xs) malformed
at_most n malformed = malformed

-- a line and its buffer after some characters, pushed one after another
pub record Held : Type 0 where
  pub line : Line
  pub buffer : List ℕ

abbrev pub next : Held → ℕ → Held
next h c = record { line = pushed h.line h.buffer c; buffer = pushed_buffer h.line h.buffer c }

abbrev pub after : Held → List ℕ → Held
after h [] = h
after h (c ∷ cs) = after (next h c) cs

-- the characters before a line feed
abbrev pub to_line_feed : List ℕ → List ℕ
to_line_feed [] = []
to_line_feed (c ∷ cs) = cond (eqb c 10) [] (c ∷ to_line_feed cs)

-- the line and its buffer after the characters from index at on, up to a line feed or to the last one
abbrev pub held_after : Line → List ℕ → List ℕ → ℕ → Held
held_after line buffer characters at = after (record { line = line; buffer = buffer }) (to_line_feed (drop at characters))

unfoldable pub pushed_line : Line → List ℕ → List ℕ → ℕ → PushedLine
pushed_line line buffer characters at = record {
  line = (held_after line buffer characters at).line;
  at = at + length (to_line_feed (drop at characters));
}

unfoldable pub pushed_line_buffer : Line → List ℕ → List ℕ → ℕ → List ℕ
pushed_line_buffer line buffer characters at = (held_after line buffer characters at).buffer

abbrev pub read : Held → Frame
read h = cond (is_complete h.line) (octets (take h.line.count h.buffer)) malformed

abbrev pub is_some : List ℕ → Bool
is_some [] = false
is_some (c ∷ cs) = true

-- whatever the characters and the buffer, what is read after them is what they decode to, if it has room in the buffer; and a line has begun where a
-- character has come
pub record Decoding : Type 0 where
  pub reads : (buffer characters : List ℕ) → read (after (record { line = start; buffer = buffer }) characters) ≡ at_most (length buffer) (decode characters)
  pub begins : (buffer characters : List ℕ) → has_begun (after (record { line = start; buffer = buffer }) characters).line ≡ is_some characters
