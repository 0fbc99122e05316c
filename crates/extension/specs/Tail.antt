-- The tail of a packet, its octets past the 48th: extension fields in the style of RFC 7822, and an authenticator (docs/RULES.md, "Extension fields").
use Rattle.std.specs.Prelude.{ℕ, ◌+◌, ◌%◌, ◌^◌, ◌≤◌, ◌<◌, ◌≡◌, List, [], ◌∷◌, ◌++◌, length, drop}
use Rattle.arithmetic.specs.Octets.{octets}

-- the octets of a packet before its tail, and the most that a packet may have
abbrev pub header_length : ℕ
header_length = 48

abbrev pub maximum_length : ℕ
maximum_length = 1024

-- an extension field: its type, and its body with its fill
pub record Field : Type 0 where
  pub field_type : ℕ
  pub body : List ℕ

-- the length that its head states, the head's 4 octets included
abbrev pub length_of : Field → ℕ
length_of f = 4 + length f.body

-- its octets: the type and the length, 16 bits each, and the body
abbrev pub octets_of : Field → List ℕ
octets_of f = octets 2 f.field_type ++ octets 2 (length_of f) ++ f.body

pub record Legal (f : Field) : Type 0 where
  pub type_fits : f.field_type < 2 ^ 16
  pub length_fits : length_of f < 2 ^ 16
  pub at_least_16 : 16 ≤ length_of f
  pub in_fours : length_of f % 4 ≡ 0

-- an authenticator has this number of octets
pub data Authenticator : ℕ → Type 0 where
  of_4 : Authenticator 4
  of_20 : Authenticator 20
  of_24 : Authenticator 24

-- the octets t are these fields and this authenticator, which is empty where there is none. That a field does not reach past the end is the equation.
pub data Tail : List ℕ → List Field → List ℕ → Type 0 where
  end : Tail [] [] []
  authenticator : {a : List ℕ} → Authenticator (length a) → Tail a [] a
  field : {t rest a : List ℕ} {f : Field} {fs : List Field}
      → 28 ≤ length t → Legal f → t ≡ octets_of f ++ rest → Tail rest fs a → Tail t (f ∷ fs) a

-- a packet that 7 does not refuse
pub record WellFormed (packet : List ℕ) (fs : List Field) (a : List ℕ) : Type 0 where
  pub at_least_48 : header_length ≤ length packet
  pub at_most_1024 : length packet ≤ maximum_length
  pub tail : Tail (drop header_length packet) fs a

-- fields one after another
abbrev pub joined : List Field → List ℕ
joined [] = []
joined (f ∷ fs) = octets_of f ++ joined fs
