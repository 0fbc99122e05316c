use Rattle.std.proofs.Common.{length}
use Rattle.replay.specs.Feeding.{Answers}
use Rattle.replay.proofs.feed_all.Given as goal

abbrev pub invariant-loop-left : goal.invariant-loop-left
invariant-loop-left g l = Answers l.initial.replay l.input l.replay l.left (g.W.Write.contents l.initial.writer) (g.W.Write.contents l.writer)

abbrev pub decreases-loop-left : goal.decreases-loop-left
decreases-loop-left g l = length l.left
