-- The two calls of broadcast meet their forms.
use mathlib.Core.Path.{refl}
use mathlib.Core.List.{◌++◌}
use lib.ListN.{length, drop}
use Rattle.packet.specs.Packet.{fields_of, octets_of}
use Rattle.broadcast.specs.Broadcast.{write_tests, broadcast_written, broadcast_buffer, field_tests, arrival_tests, broadcast_arrived}
use Rattle.timestamp.specs.Timestamp.{◌since◌}
use Rattle.demands.specs.Broadcast.{broadcast_fields, broadcast, ours_broadcast, broadcast_arrival, ours_arrival}
use Rattle.ordered_tests.proofs.Reflection.{negated, refuted, guarded, is_true, at_least, equal, within}
use Rattle.demands.proofs.Facts.{available, in_order, packet}
use Rattle.demands.proofs.Form.{Meets, ◌and◌, end, by, acceptance_shown, written_meets, given_meets}
use Rattle.demands.proofs.Reply.{legally_set}

pub broadcast_meets : Meets broadcast ours_broadcast
unfolding broadcast_written broadcast_buffer write_tests
broadcast_meets = written_meets (λ x. x.buffer) (λ x. octets_of (broadcast_fields x) ++ drop 48 x.buffer)
    (λ x. write_tests x.settings x.version x.poll x.t3 (length x.buffer)) (λ old. by 0) (λ x. acceptance_shown) (λ x. refl)
    (λ x. at_least (length x.buffer) 48
    and negated (within 1 4 x.version)
    and legally_set x.settings
    and negated (within 4 14 x.poll)
    and guarded (is_true x.settings.synchronised) (available x.t3)
    and end refl)

pub broadcast_arrival_meets : Meets broadcast_arrival ours_arrival
unfolding broadcast_arrived field_tests
broadcast_arrival_meets = given_meets (λ x. arrival_tests x.packet x.t4) (by 1) (λ x. acceptance_shown) (λ x. refl) (λ x.
    let f = fields_of x.packet in
    packet x.packet
    and negated (equal f.mode 5)
    and negated (within 1 4 f.version)
    and refuted (equal f.leap 3)
    and negated (within 1 15 f.stratum)
    and available f.transmit
    and available x.t4
    and in_order (f.transmit since x.t4)
    and end refl)
