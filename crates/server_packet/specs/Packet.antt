-- The packet of a server, in a reply and in broadcast (docs/RULES.md, "The server" and "Broadcast").
use Rattle.std.specs.Prelude.{Bool, cond, ◌||◌, ltb, pos, neg_ℤ}
use Rattle.std.specs.Int.Signed.{lt_z}
use Rattle.timestamp.specs.Timestamp.{constants}
use Rattle.packet.specs.declared.Fields.{Fields}
use Rattle.kiss.specs.Kiss as kiss
use Rattle.server_packet.specs.declared.Settings.{Settings}
use Rattle.server_packet.specs.declared.Message.{Message}

-- set LI not 0 to 2, or set precision not in -32 to 0
unfoldable pub out_of_range : Settings → Bool
out_of_range s = ltb 2 s.leap || lt_z s.precision (neg_ℤ (pos 32)) || lt_z (pos 0) s.precision

-- synchronised: the set LI, precision, identifier and reference, stratum 1, zero root delay and dispersion; the rest is of the message
abbrev pub synchronised_fields : Settings → Message → Fields
synchronised_fields s m = record {
  leap = s.leap;
  version = m.version;
  mode = m.mode;
  stratum = 1;
  poll = m.poll;
  precision = s.precision;
  root_delay = pos 0;
  root_dispersion = 0;
  identifier = s.identifier;
  reference = s.reference;
  originate = m.originate;
  receive = m.receive;
  transmit = m.transmit;
}

-- not synchronised: LI 3, stratum 0, identifier INIT, and these three timestamps zero
abbrev pub unsynchronised_fields : Settings → Message → Fields
unsynchronised_fields s m = record (synchronised_fields s m) {
  leap = 3;
  stratum = 0;
  identifier = kiss.code_of (kiss.octets_of "INIT");
  reference = constants.zero;
  receive = constants.zero;
  transmit = constants.zero;
}

unfoldable pub packet_fields : Settings → Message → Fields
packet_fields s m = cond s.synchronised (synchronised_fields s m) (unsynchronised_fields s m)
