-- The checks of a reply to the request that was sent at T1 with this token and version (docs/RULES.md, "The client").
use Rattle.std.specs.Prelude.{ℕ, Bool, not, List, eqb, Result}
use Rattle.ordered_tests.specs.Tests.{Tests, ◌if◌else◌, ◌when◌else◌, given, carry}
use Rattle.refusals.specs.declared.Refusal.{Refusal}
use Rattle.refusals.specs.declared.Refusal.TheVariants.{PacketLengthWrong, NotWaiting, OriginateMismatch, ReplyModeWrong, VersionMismatch}
use Rattle.timestamp.specs.declared.Timestamp.{Timestamp}
use Rattle.timestamp.specs.Timestamp.{◌since◌}
use Rattle.offset.specs.Offset.{offset_tests}
use Rattle.extension.specs.Reading.{is_malformed}
use Rattle.packet.specs.declared.Fields.{Fields}
use Rattle.packet.specs.Packet.{fields_of}
use Rattle.kiss.specs.Kiss.{row_of}
use Rattle.token.specs.declared.Token.{Token}
use Rattle.sanity.specs.Sanity.{header_tests, root_tests}
use Rattle.reply_checks.specs.declared.ArrivalAnswer.{ArrivalAnswer}
use Rattle.reply_checks.specs.declared.ArrivalAnswer.TheVariants.{Accepted, Kiss}

-- the packet answers the request; then the rest
abbrev pub match_tests : {A : Type 0} → Token → ℕ → Fields → Tests A → Tests A
match_tests token version f rest =
    OriginateMismatch if not (eqb f.originate.0 token.0) else
    ReplyModeWrong if not (eqb f.mode 4) else
    VersionMismatch if not (eqb f.version version) else
    rest

-- T2 and T3 are the receive and the transmit timestamp of the reply
unfoldable pub check_tests : Timestamp → Token → ℕ → Fields → Timestamp → Tests ArrivalAnswer
check_tests t1 token version f t4 =
    match_tests token version f (
    Kiss f.identifier (row_of f.identifier) when eqb f.stratum 0 else
    header_tests f t4 (
    root_tests f (
    carry Accepted (offset_tests (t4 since t1) (f.transmit since f.receive) (f.receive since t1) (f.transmit since t4)))))

unfoldable pub checked : Timestamp → Token → ℕ → Fields → Timestamp → Result ArrivalAnswer Refusal
checked t1 token version f t4 = given (check_tests t1 token version f t4)

-- a client that waits checks the reply
unfoldable pub waiting_tests : Bool → Timestamp → Token → ℕ → Fields → Timestamp → Tests ArrivalAnswer
waiting_tests waiting t1 token version f t4 =
    NotWaiting if not waiting else
    check_tests t1 token version f t4

abbrev pub packet_tests : Bool → Timestamp → Token → ℕ → List ℕ → Timestamp → Tests ArrivalAnswer
packet_tests waiting t1 token version packet t4 =
    PacketLengthWrong if is_malformed packet else
    waiting_tests waiting t1 token version (fields_of packet) t4

unfoldable pub checked_packet : Bool → Timestamp → Token → ℕ → List ℕ → Timestamp → Result ArrivalAnswer Refusal
checked_packet waiting t1 token version packet t4 = given (packet_tests waiting t1 token version packet t4)
