use Rattle.replay.proofs.Feeding.{reads_nothing}
use Rattle.replay.proofs.read_some.Goals as goal

pub returns-in-Err-clause-answered : goal.returns-in-Err-clause-answered
returns-in-Err-clause-answered g c = reads_nothing _ _ _ _ c.in-Err.ensures.bytes
