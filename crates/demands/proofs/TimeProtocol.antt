-- Writing and reading the four octets of the Time Protocol meet their forms.
use mathlib.Core.Path.{refl}
use mathlib.Core.List.{◌++◌}
use lib.ListN.{length, drop}
use Rattle.arithmetic.specs.Octets.{octets}
use Rattle.time_protocol.specs.TimeProtocol.{write_tests, read_tests}
use Rattle.demands.specs.TimeProtocol.{write_count, ours_write, read_count, ours_read}
use Rattle.ordered_tests.proofs.Reflection.{negated, at_least, equal}
use Rattle.demands.proofs.Form.{Meets, ◌and◌, end, by, acceptance_shown, written_meets, given_meets}

pub write_count_meets : Meets write_count ours_write
write_count_meets = written_meets (λ x. x.buffer) (λ x. octets 4 x.count ++ drop 4 x.buffer) (λ x. write_tests x.buffer) (λ old. by 0) (λ x. acceptance_shown) (λ x. refl)
    (λ x. at_least (length x.buffer) 4 and end refl)

pub read_count_meets : Meets read_count ours_read
read_count_meets = given_meets read_tests (by 1) (λ p. acceptance_shown) (λ p. refl) (λ p. negated (equal (length p) 4) and end refl)
