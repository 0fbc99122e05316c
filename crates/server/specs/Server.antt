-- What the server replies to a request (docs/RULES.md, "The server").
use Rattle.std.specs.Prelude.{ℕ, not, ◌&&◌, ◌||◌, List, ◌++◌, drop, ◌==◌, Result}
use Rattle.refusals.specs.declared.Refusal.{Refusal}
use Rattle.refusals.specs.declared.Refusal.TheVariants.{BufferTooShort, PacketLengthWrong, RequestModeWrong, RequestVersionUnsupported, SettingsOutOfRange, ServerTimestampZero, AnsweredBeforeReceived, NoOrder}
use Rattle.ordered_tests.specs.Tests.{Tests, ◌if◌else◌, given, kept, between, pass}
use Rattle.timestamp.specs.declared.Timestamp.{Timestamp}
use Rattle.timestamp.specs.Timestamp.{is_zero, ◌since◌, has_no_order, negative}
use Rattle.extension.specs.Reading.{is_malformed}
use Rattle.packet.specs.declared.Fields.{Fields}
use Rattle.packet.specs.Packet.{packet_length, fields_of, octets_of, too_short}
use Rattle.server_packet.specs.declared.Settings.{Settings}
use Rattle.server_packet.specs.declared.Message.{Message}
use Rattle.server_packet.specs.Packet.{out_of_range, packet_fields}

-- the tests in order: those of a request with these fields, and before them those of its length and tail and of the buffer
unfoldable pub request_tests : Settings → Fields → (t2 t3 : Timestamp) → Tests (Unit {0})
request_tests s request t2 t3 =
    RequestModeWrong if not (request.mode == 3) else
    RequestVersionUnsupported if not (between 1 4 request.version) else
    SettingsOutOfRange if out_of_range s else
    ServerTimestampZero if s.synchronised && (is_zero t2 || is_zero t3) else
    NoOrder if s.synchronised && has_no_order (t3 since t2) else
    AnsweredBeforeReceived if s.synchronised && negative (t3 since t2) else
    pass

unfoldable pub reply_tests : Settings → List ℕ → (t2 t3 : Timestamp) → List ℕ → Tests (Unit {0})
reply_tests s request t2 t3 buffer =
    BufferTooShort if too_short buffer else
    PacketLengthWrong if is_malformed request else
    request_tests s (fields_of request) t2 t3

-- the reply has mode 4, copies VN and poll, and has the request's transmit timestamp as originate
abbrev pub reply_message : Fields → (t2 t3 : Timestamp) → Message
reply_message request t2 t3 = record {
  mode = 4;
  version = request.version;
  poll = request.poll;
  originate = request.transmit;
  receive = t2;
  transmit = t3;
}

abbrev pub reply_fields : Settings → Fields → (t2 t3 : Timestamp) → Fields
reply_fields s request t2 t3 = packet_fields s (reply_message request t2 t3)

-- what the call answers, and what the buffer holds after it
unfoldable pub replied : Settings → List ℕ → (t2 t3 : Timestamp) → List ℕ → Result (Unit {0}) Refusal
replied s request t2 t3 buffer = given (reply_tests s request t2 t3 buffer)

unfoldable pub replied_buffer : Settings → List ℕ → (t2 t3 : Timestamp) → List ℕ → List ℕ
replied_buffer s request t2 t3 buffer =
    kept (reply_tests s request t2 t3 buffer) buffer (octets_of (reply_fields s (fields_of request) t2 t3) ++ drop packet_length buffer)
