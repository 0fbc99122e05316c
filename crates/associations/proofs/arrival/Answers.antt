-- No test of the list refuses: what the client's own call gives.
use Rattle.std.proofs.Common.{sym}
use Rattle.association_rules.proofs.Lists.{taken_arrival}
use Rattle.associations.proofs.arrival.Goals as goal

pub returns-clause-result : goal.returns-clause-result
returns-clause-result c =
    let a = c.args in
    rw c.use_after.ensures (taken_arrival a.list.now a.at a.in_use (sym c.in_default.ensures) _ a.packet.now a.t4 c.alternate-alternate.ensures c.is_some.ensures c.arrival-called.ensures)
