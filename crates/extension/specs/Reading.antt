-- The tail as a function, which the contracts cite. specs/TailLaws.antt says that it is the relation of specs/Tail.antt.
use Rattle.std.specs.Prelude.{ℕ, zero, suc, ◌-◌, ◌%◌, Bool, not, cond, ◌&&◌, ◌||◌, List, [], ◌∷◌, ltb, leb, eqb, length, drop}
use Rattle.arithmetic.specs.Octets.{big_endian, part}
use Rattle.extension.specs.Tail.{header_length, maximum_length, Field}

-- 0 octets left end the packet; 4, 20 or 24 are an authenticator
unfoldable pub ends_fields : ℕ → Bool
ends_fields left = eqb left 0 || eqb left 4 || eqb left 20 || eqb left 24

-- 28 or more begin a field, of a length that is at least 16, a multiple of 4 and not past the end
unfoldable pub is_field_length : ℕ → ℕ → Bool
is_field_length left n = leb 28 left && leb 16 n && eqb (n % 4) 0 && leb n left

-- what a head states, at the front of the octets t
abbrev pub stated_type : List ℕ → ℕ
stated_type t = big_endian (part 0 2 t)

abbrev pub stated_length : List ℕ → ℕ
stated_length t = big_endian (part 2 2 t)

abbrev pub begins_field : List ℕ → Bool
begins_field t = is_field_length (length t) (stated_length t)

abbrev pub first_field : List ℕ → Field
first_field t = record { field_type = stated_type t; body = part 4 (stated_length t - 4) t }

-- the fields that begin one after another, and what is left where none begins
pub record Reading : Type 0 where
  pub fields : List Field
  pub rest : List ℕ

abbrev pub no_field : List ℕ → Reading
no_field t = record { fields = []; rest = t }

abbrev pub field_then : Field → Reading → Reading
field_then f r = record { fields = f ∷ r.fields; rest = r.rest }

-- at most n fields
abbrev pub reading_up_to : ℕ → List ℕ → Reading
reading_up_to zero t = no_field t
reading_up_to (suc n) t = cond (begins_field t) (field_then (first_field t) (reading_up_to n (drop (stated_length t) t))) (no_field t)

-- all of them: there are no more fields than octets
unfoldable pub reading : List ℕ → Reading
reading t = reading_up_to (length t) t

-- the fields of a packet, and the octets behind them
abbrev pub extension_fields : List ℕ → List Field
extension_fields packet = (reading (drop header_length packet)).fields

abbrev pub after_fields : List ℕ → List ℕ
after_fields packet = (reading (drop header_length packet)).rest

-- a packet that 7 refuses: shorter than 48 octets, longer than 1024, or a tail that breaks the rules
unfoldable pub is_malformed : List ℕ → Bool
is_malformed packet = ltb (length packet) header_length || ltb maximum_length (length packet) || not (ends_fields (length (after_fields packet)))
