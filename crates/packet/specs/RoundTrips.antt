-- Reading and writing a packet undo each other: stated of the definitions that the contracts of `read` and `write` cite.
use Rattle.std.specs.Prelude.{ℕ, ◌^◌, ◌≤◌, ◌<◌, ◌≡◌, false, List, ◌++◌, length, take, drop, Ok}
use Rattle.arithmetic.specs.TwosComplement.{Fits}
use Rattle.arithmetic.specs.Octets.{AreOctets}
use Rattle.packet.specs.declared.Fields.{Fields}
use Rattle.packet.specs.Packet.{packet_length, read_answer, is_field_too_large, write_answer, written}

-- fields that writing does not refuse, each a value of its type
pub record Legal (f : Fields) : Type 0 where
  pub small : is_field_too_large f ≡ false
  pub stratum : f.stratum < 2 ^ 8
  pub poll : f.poll < 2 ^ 8
  pub precision : Fits 8 f.precision
  pub root_delay : Fits 32 f.root_delay
  pub root_dispersion : f.root_dispersion < 2 ^ 32
  pub identifier : f.identifier < 2 ^ 32
  pub reference : f.reference.0 < 2 ^ 64
  pub originate : f.originate.0 < 2 ^ 64
  pub receive : f.receive.0 < 2 ^ 64
  pub transmit : f.transmit.0 < 2 ^ 64

pub record RoundTrips : Type 0 where
  -- octets that are read into fields are written back the same
  pub octets_back : (p b : List ℕ) (f : Fields) → AreOctets p → read_answer p ≡ Ok f → packet_length ≤ length b
      → (write_answer b f ≡ Ok tt) × (written b f ≡ take packet_length p ++ drop packet_length b)
  -- legal fields that are written are read back the same
  pub fields_back : (b : List ℕ) (f : Fields) → Legal f → packet_length ≤ length b
      → (write_answer b f ≡ Ok tt) × (read_answer (take packet_length (written b f)) ≡ Ok f)
  -- the fields of a packet that is not refused depend on its first 48 octets alone: what stands past them is not read
  pub first_48_read : (p q : List ℕ) (f g : Fields) → read_answer p ≡ Ok f → read_answer q ≡ Ok g
      → take packet_length p ≡ take packet_length q → f ≡ g
  -- writing leaves the octets past the 48th, and the length, as they were
  pub rest_kept : (b : List ℕ) (f : Fields) → drop packet_length (written b f) ≡ drop packet_length b
  pub length_kept : (b : List ℕ) (f : Fields) → length (written b f) ≡ length b
