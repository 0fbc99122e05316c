-- Broadcast: the writer's packet, and the client that takes it (docs/RULES.md, "Broadcast").
use Rattle.std.specs.Prelude.{ℕ, not, ◌&&◌, List, ◌++◌, eqb, ltb, ℤ, length, drop, Result}
use Rattle.refusals.specs.declared.Refusal.{Refusal}
use Rattle.refusals.specs.declared.Refusal.TheVariants.{BufferTooShort, RequestVersionUnsupported, SettingsOutOfRange, PollOutOfRange, ServerTimestampZero, PacketLengthWrong, BroadcastModeWrong, BroadcastVersionUnsupported, BroadcastUnsynchronised, BroadcastStratumWrong, BroadcastTransmitZero, OwnClockZero, NoOrder}
use Rattle.ordered_tests.specs.Tests.{Tests, ◌if◌else◌, otherwise, given, kept, between, pass}
use Rattle.timestamp.specs.declared.Timestamp.{Timestamp}
use Rattle.timestamp.specs.Timestamp.{constants, is_zero, ◌since◌, has_no_order}
use Rattle.extension.specs.Reading.{is_malformed}
use Rattle.packet.specs.declared.Fields.{Fields}
use Rattle.packet.specs.Packet.{packet_length, fields_of, octets_of}
use Rattle.server_packet.specs.declared.Settings.{Settings}
use Rattle.server_packet.specs.declared.Message.{Message}
use Rattle.server_packet.specs.Packet.{out_of_range, packet_fields}

-- ---- the writer

-- mode 5, the version and the poll setting; originate and receive zero
abbrev pub broadcast_message : (version poll : ℕ) → Timestamp → Message
broadcast_message version poll t3 = record {
  mode = 5;
  version = version;
  poll = poll;
  originate = constants.zero;
  receive = constants.zero;
  transmit = t3;
}

-- into a buffer of `room` octets
unfoldable pub write_tests : Settings → (version poll : ℕ) → Timestamp → ℕ → Tests (Unit {0})
write_tests s version poll t3 room =
    BufferTooShort if ltb room packet_length else
    RequestVersionUnsupported if not (between 1 4 version) else
    SettingsOutOfRange if out_of_range s else
    PollOutOfRange if not (between 4 14 poll) else
    ServerTimestampZero if s.synchronised && is_zero t3 else
    pass

-- what the call answers, and what the buffer holds after it
unfoldable pub broadcast_written : Settings → (version poll : ℕ) → Timestamp → ℕ → Result (Unit {0}) Refusal
broadcast_written s version poll t3 room = given (write_tests s version poll t3 room)

unfoldable pub broadcast_buffer : Settings → (version poll : ℕ) → Timestamp → List ℕ → List ℕ
broadcast_buffer s version poll t3 buffer =
    kept (write_tests s version poll t3 (length buffer)) buffer (octets_of (packet_fields s (broadcast_message version poll t3)) ++ drop packet_length buffer)

-- ---- the client

unfoldable pub field_tests : Fields → Timestamp → Tests ℤ
field_tests f t4 =
    BroadcastModeWrong if not (eqb f.mode 5) else
    BroadcastVersionUnsupported if not (between 1 4 f.version) else
    BroadcastUnsynchronised if eqb f.leap 3 else
    BroadcastStratumWrong if not (between 1 15 f.stratum) else
    BroadcastTransmitZero if is_zero f.transmit else
    OwnClockZero if is_zero t4 else
    NoOrder if has_no_order (f.transmit since t4) else
    otherwise (f.transmit since t4)

abbrev pub arrival_tests : List ℕ → Timestamp → Tests ℤ
arrival_tests packet t4 =
    PacketLengthWrong if is_malformed packet else
    field_tests (fields_of packet) t4

unfoldable pub broadcast_arrived : List ℕ → Timestamp → Result ℤ Refusal
broadcast_arrived packet t4 = given (arrival_tests packet t4)
