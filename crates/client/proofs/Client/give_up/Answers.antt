-- No test refuses: the answer of the table's last row.
use Rattle.std.proofs.Common.{sym}
use Rattle.ordered_tests.proofs.Tests.{by_passing}
use Rattle.client.specs.Record.{refused_call}
use Rattle.client.specs.GiveUp.{give_up_tests, gave_up}
use Rattle.client.proofs.Client.give_up.Goals as goal

pub returns : goal.returns
unfolding gave_up give_up_tests
returns c =
    let a = c.args in
    rw c.back_off.ensures (by_passing (refused_call a.self) (give_up_tests a.self a.uptime) tt (sym c.in_default.ensures))
