-- The client's request, as fields and as octets (docs/RULES.md, "The client"). proofs/Request.antt proves `RequestOctets`.
use Rattle.std.specs.Prelude.{ℕ, ◌+◌, ◌*◌, ◌≤◌, ◌≡◌, List, ◌∷◌, ◌++◌, pos, length, drop, replicate}
use Rattle.arithmetic.specs.Octets.{octets}
use Rattle.timestamp.specs.Timestamp.{timestamp}
use Rattle.token.specs.declared.Token.{Token}
use Rattle.token.specs.Token.{carried}
use Rattle.packet.specs.declared.Fields.{Fields}
use Rattle.packet.specs.Packet.{packet_length, written}

-- all zero but the version, mode 3 and the transmit field, which carries the token
abbrev pub request_fields : ℕ → Token → Fields
request_fields version token = record {
  leap = 0;
  version = version;
  mode = 3;
  stratum = 0;
  poll = 0;
  precision = pos 0;
  root_delay = pos 0;
  root_dispersion = 0;
  identifier = 0;
  reference = timestamp 0;
  originate = timestamp 0;
  receive = timestamp 0;
  transmit = carried token;
}

-- its 48 octets
unfoldable pub request : ℕ → Token → List ℕ
request version token = (version * 8 + 3) ∷ replicate 39 0 ++ octets 8 token.0

-- written into a buffer that has room for them, they are followed by what stood there
abbrev pub RequestOctets : Type 0
RequestOctets =
    (buffer : List ℕ) (version : ℕ) (token : Token) → packet_length ≤ length buffer → version ≤ 7
    → written buffer (request_fields version token) ≡ request version token ++ drop packet_length buffer
