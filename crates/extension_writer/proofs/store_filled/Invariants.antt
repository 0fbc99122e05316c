-- The octets before the index are the body's, or 0 where it has none.
use Rattle.std.proofs.Common.{◌≡◌, ℕ, ◌<◌, get_or}
use Rattle.extension_writer.proofs.store_filled.Given as goal

abbrev pub invariant-loop-i : goal.invariant-loop-i
invariant-loop-i l = (k : ℕ) → k < l.i → get_or l.octets k 0 ≡ get_or l.body k 0
