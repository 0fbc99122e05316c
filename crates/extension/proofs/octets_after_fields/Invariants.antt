-- What is left after the fields that are left is left after all.
use Rattle.std.proofs.Common.{◌≡◌, length}
use Rattle.extension.specs.Reading.{reading, after_fields}
use Rattle.extension.proofs.octets_after_fields.Given as goal

abbrev pub invariant-loop-n : goal.invariant-loop-n
invariant-loop-n l = (reading l.left).rest ≡ after_fields l.packet

abbrev pub decreases-loop-n : goal.decreases-loop-n
decreases-loop-n l = length l.left
