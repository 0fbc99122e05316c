-- Laws of the broadcast's tests: where none of the writer's holds, the packet can be written, and the last of the client's with its answer.
use Rattle.std.proofs.Common.{◌≡◌, ℕ, ◌≤◌, Bool, true, false, cond, List, length, leb, ℤ, refl, ap, arith}
use mir.Facts.{and_yes, T_not-not, leb_yes, ltb_no}
use Rattle.std.specs.Prelude.{Some, None, Ok}
use Rattle.std.specs.Option.{ok_or}
use Rattle.refusals.specs.declared.Refusal.TheVariants.{NoOrder}
use Rattle.ordered_tests.specs.Tests.{◌if◌else◌, otherwise, given, tested_of, between}
use Rattle.ordered_tests.proofs.Tests.{Passes, passed}
use Rattle.timestamp.specs.declared.Timestamp.{Timestamp}
use Rattle.timestamp.specs.Timestamp.{has_no_order, ordered}
use Rattle.packet.specs.Packet.{is_field_too_large, write_answer, written}
use Rattle.packet.proofs.Packet.{answer_written, octets_written}
use Rattle.server_packet.specs.declared.Settings.{Settings}
use Rattle.server_packet.specs.Packet.{packet_fields}
use Rattle.server_packet.proofs.Packet.{packet_small}
use Rattle.broadcast.specs.Broadcast.{broadcast_message, write_tests, broadcast_written, broadcast_buffer}

module _ (s : Settings) (version poll : ℕ) (t3 : Timestamp) (b : List ℕ) (passes : given (write_tests s version poll t3 (length b)) ≡ Ok tt) where
  all : Passes (write_tests s version poll t3 (length b))
  unfolding write_tests
  all = passed (write_tests s version poll t3 (length b)) tt (ap tested_of passes)

  long : 48 ≤ length b
  unfolding write_tests
  long = ltb_no all.0

  version_le : version ≤ 4
  unfolding write_tests
  version_le = leb_yes (and_yes (leb 1 version) (leb version 4) (T_not-not (between 1 4 version) all.1.0)).1

  small : is_field_too_large (packet_fields s (broadcast_message version poll t3)) ≡ false
  unfolding write_tests
  small = packet_small s all.1.1.0 (broadcast_message version poll t3) (omega (arith, version_le)) (omega arith)

  pub write_answers : write_answer b (packet_fields s (broadcast_message version poll t3)) ≡ broadcast_written s version poll t3 (length b)
  unfolding broadcast_written
  write_answers = rw (answer_written b _ long small, passes)

  pub write_stores : written b (packet_fields s (broadcast_message version poll t3)) ≡ broadcast_buffer s version poll t3 b
  unfolding broadcast_buffer
  write_stores = rw (octets_written b _ long small, passes)

pub told : (z : ℤ) → ok_or (ordered z) NoOrder ≡ given (NoOrder if has_no_order z else otherwise z)
unfolding ordered
told z = go (has_no_order z)
  where
    go : (b : Bool) → ok_or (cond b None (Some z)) NoOrder ≡ given (NoOrder if b else otherwise z)
    go true = refl
    go false = refl
