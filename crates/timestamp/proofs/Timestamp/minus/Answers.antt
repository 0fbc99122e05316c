-- The code's difference is that of the rules, and the lowest number is the one half a circle away.
use Rattle.std.proofs.Common.{◌∙◌, arith}
use Rattle.timestamp.proofs.Order.{differs}
use Rattle.timestamp.proofs.Timestamp.minus.Goals as goal

pub returns : goal.returns
returns c = c.then_some.ensures ∙ differs c.args.self c.args.other (omega arith) (omega arith) c.signed64-difference.ensures
