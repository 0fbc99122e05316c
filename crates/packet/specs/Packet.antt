-- The fields of a packet, its 48 octets, and what reading and writing give (docs/RULES.md, "The 48 octets" and "Numbers a caller may see").
use Rattle.std.specs.Prelude.{ℕ, suc, ◌+◌, ◌-◌, ◌*◌, ◌/◌, ◌%◌, Bool, ◌||◌, List, ◌∷◌, ◌++◌, length, drop, get_or, ltb, Result}
use Rattle.arithmetic.specs.TwosComplement.{signed, bits}
use Rattle.arithmetic.specs.Octets.{big_endian, octets, part}
use Rattle.refusals.specs.declared.Refusal.{Refusal}
use Rattle.refusals.specs.declared.Refusal.TheVariants.{PacketLengthWrong, BufferTooShort, FieldTooLarge}
use Rattle.ordered_tests.specs.Tests.{Tests, ◌if◌else◌, otherwise, given, kept, pass}
use Rattle.timestamp.specs.Timestamp.{timestamp}
use Rattle.extension.specs.Tail.{header_length}
use Rattle.extension.specs.Reading.{is_malformed}
use Rattle.packet.specs.declared.Fields.{Fields}

-- an octet of p, and the number that its octets from one index to another are
abbrev pub octet : ℕ → List ℕ → ℕ
octet i p = get_or p i 0

infixl 80 ◌from◌to◌
abbrev pub ◌from◌to◌ : List ℕ → ℕ → ℕ → ℕ
p from first to last = big_endian (part first (suc last - first) p)

-- the fields of a packet
unfoldable pub fields_of : List ℕ → Fields
fields_of p = record {
  leap = octet 0 p / 64;
  version = octet 0 p / 8 % 8;
  mode = octet 0 p % 8;
  stratum = octet 1 p;
  poll = octet 2 p;
  precision = signed 8 (octet 3 p);
  root_delay = signed 32 (p from 4 to 7);
  root_dispersion = p from 8 to 11;
  identifier = p from 12 to 15;
  reference = timestamp (p from 16 to 23);
  originate = timestamp (p from 24 to 31);
  receive = timestamp (p from 32 to 39);
  transmit = timestamp (p from 40 to 47);
}

-- the 48 octets of the fields
unfoldable pub octets_of : Fields → List ℕ
octets_of f =
    (f.leap * 64 + f.version * 8 + f.mode)  -- octet 0
    ∷ f.stratum  -- 1
    ∷ f.poll  -- 2
    ∷ bits 8 f.precision  -- 3
    ∷ octets 4 (bits 32 f.root_delay)  -- 4 to 7
    ++ octets 4 f.root_dispersion  -- 8 to 11
    ++ octets 4 f.identifier  -- 12 to 15
    ++ octets 8 f.reference.0  -- 16 to 23
    ++ octets 8 f.originate.0  -- 24 to 31
    ++ octets 8 f.receive.0  -- 32 to 39
    ++ octets 8 f.transmit.0  -- 40 to 47

-- the octets of a packet that has neither extension fields nor an authenticator
abbrev pub packet_length : ℕ
packet_length = header_length

-- packets that stand one after another: how many there are, and that at place k, counted from 0
abbrev pub packet_count : List ℕ → ℕ
packet_count packets = length packets / packet_length

abbrev pub packet_at : ℕ → List ℕ → List ℕ
packet_at k packets = part (packet_length * k) packet_length packets

-- a slice that has not the octets of a packet
abbrev pub too_short : List ℕ → Bool
too_short buffer = ltb (length buffer) packet_length

-- reading the first 48 octets refuses by 7 what is shorter
abbrev pub header_tests : List ℕ → Tests Fields
header_tests packet =
    PacketLengthWrong if too_short packet else
    otherwise (fields_of packet)

abbrev pub header_answer : List ℕ → Result Fields Refusal
header_answer packet = given (header_tests packet)

-- reading a packet refuses by 7 only
abbrev pub read_tests : List ℕ → Tests Fields
read_tests packet =
    PacketLengthWrong if is_malformed packet else
    otherwise (fields_of packet)

abbrev pub read_answer : List ℕ → Result Fields Refusal
read_answer packet = given (read_tests packet)

-- a field that is too large to write
abbrev pub is_field_too_large : Fields → Bool
is_field_too_large f = ltb 3 f.leap || ltb 7 f.version || ltb 7 f.mode

-- writing refuses by 1, then 27
abbrev pub write_tests : List ℕ → Fields → Tests (Unit {0})
write_tests buffer f =
    BufferTooShort if too_short buffer else
    FieldTooLarge if is_field_too_large f else
    pass

abbrev pub write_answer : List ℕ → Fields → Result (Unit {0}) Refusal
write_answer buffer f = given (write_tests buffer f)

-- what the buffer holds after writing
abbrev pub written : List ℕ → Fields → List ℕ
written buffer f = kept (write_tests buffer f) buffer (octets_of f ++ drop packet_length buffer)
