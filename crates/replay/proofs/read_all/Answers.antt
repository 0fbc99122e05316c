use Rattle.replay.proofs.Feeding.{reads_both}
use Rattle.replay.proofs.read_all.Goals as goal

pub loop-preserved : goal.loop-preserved
loop-preserved g c = reads_both c.loop.invariant c.in_ok-reading.ensures.answered

pub returns-in-Some-clause-answered : goal.returns-in-Some-clause-answered
returns-in-Some-clause-answered g c = reads_both c.loop.invariant c.in_ok-reading.ensures.answered
