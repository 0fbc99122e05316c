use Rattle.std.proofs.Common.{◌-◌, length}
use Rattle.replay_lines.proofs.Steps.{Kept}
use Rattle.replay_lines.proofs.Replay.feed.Given as goal

abbrev pub invariant-lines : goal.invariant-lines
invariant-lines l = Kept l.initial.replay l.input l.initial.output l.replay l.output l.consumed l.written

abbrev pub decreases-lines : goal.decreases-lines
decreases-lines l = length l.input - l.consumed
