-- The token of a request (docs/RULES.md, "The client").
use Rattle.std.specs.Prelude.{ℕ, Bool, eqb}
use Rattle.timestamp.specs.declared.Timestamp.{Timestamp}
use Rattle.timestamp.specs.Timestamp.{timestamp}
use Rattle.token.specs.declared.Token.{Token}

abbrev pub token : ℕ → Token
token bits = record { 0 = bits }

abbrev pub is_zero_token : Token → Bool
is_zero_token t = eqb t.0 0

-- the 64 bits of a packet's field that carries it
abbrev pub carried : Token → Timestamp
carried t = timestamp t.0
