-- The answer of `minus`, taken apart.
use Rattle.offset.proofs.Differences.{in_order}
use Rattle.offset.proofs.difference.Goals as goal

pub returns : goal.returns
returns c = rw (c.ok_or.ensures.value, c.minus.ensures) (in_order _)
