-- No test of the list refuses: what the client's own call gives.
use Rattle.std.proofs.Common.{sym}
use Rattle.association_rules.specs.Associations.{gave_up_for}
use Rattle.association_rules.proofs.Lists.{taken_call}
use Rattle.client.specs.GiveUp.{gave_up}
use Rattle.associations.proofs.give_up.Goals as goal

pub returns-clause-result : goal.returns-clause-result
unfolding gave_up_for
returns-clause-result c =
    let a = c.args in
    taken_call a.list.now a.at a.in_use (sym c.in_default.ensures) _ (λ x. gave_up x a.uptime) c.give_up-called.ensures
