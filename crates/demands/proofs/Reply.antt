-- The server's reply meets its form.
use mathlib.Core.Path.{refl}
use mathlib.Core.List.{◌++◌}
use lib.IntN.{pos, neg_ℤ}
use lib.ListN.{length, drop}
use Rattle.timestamp.specs.Timestamp.{◌since◌}
use Rattle.packet.specs.Packet.{fields_of, octets_of}
use Rattle.server_packet.specs.declared.Settings.{Settings}
use Rattle.server_packet.specs.Packet.{out_of_range}
use Rattle.server.specs.Server.{request_tests, reply_tests, reply_fields, replied, replied_buffer}
use Rattle.demands.specs.Reply.{LegallySet, reply, ours}
use Rattle.ordered_tests.proofs.Reflection.{WhereFalse, negated, both, guarded, is_true, at_least, equal, within}
use Rattle.demands.proofs.Facts.{available, in_order, packet}
use Rattle.demands.proofs.Form.{Meets, ◌and◌, end, by, acceptance_shown, written_meets}
use Rattle.demands.proofs.Measure.{not_negative, at_most}

pub legally_set : (s : Settings) → WhereFalse (LegallySet s) (out_of_range s)
unfolding out_of_range
legally_set s =
    let three = both (both (at_least 2 s.leap) (at_most (neg_ℤ (pos 32)) s.precision)) (at_most s.precision (pos 0)) in
    record {
      to = λ l. three.to ((l.leap, l.precision.0), l.precision.1);
      from = λ t. let ((leap, low), high) = three.from t in record { leap = leap; precision = (low, high) };
    }

pub reply_meets : Meets reply ours
unfolding replied replied_buffer reply_tests request_tests
reply_meets = written_meets (λ x. x.buffer) (λ x. octets_of (reply_fields x.settings (fields_of x.request) x.t2 x.t3) ++ drop 48 x.buffer)
    (λ x. reply_tests x.settings x.request x.t2 x.t3 x.buffer) (λ old. by 0) (λ x. acceptance_shown) (λ x. refl)
    (λ x. at_least (length x.buffer) 48
    and packet x.request
    and negated (equal (fields_of x.request).mode 3)
    and negated (within 1 4 (fields_of x.request).version)
    and legally_set x.settings
    and guarded (is_true x.settings.synchronised) (both (available x.t2) (available x.t3))
    and guarded (is_true x.settings.synchronised) (in_order (x.t3 since x.t2))
    and guarded (is_true x.settings.synchronised) (not_negative (x.t3 since x.t2))
    and end refl)
