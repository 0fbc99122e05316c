-- No test refuses: the answer of the table's last row.
use Rattle.std.proofs.Common.{sym, length}
use Rattle.ordered_tests.proofs.Tests.{by_passing}
use Rattle.client.specs.Record.{refused_call}
use Rattle.client.specs.Ask.{ask_tests, after_ask}
use Rattle.client.proofs.Client.ask.Goals as goal

pub returns-clause-answer : goal.returns-clause-answer
unfolding after_ask ask_tests
returns-clause-answer c =
    let a = c.args in
    by_passing (refused_call a.self) (ask_tests a.self (length a.buffer.now) a.version a.clock a.token a.uptime) tt (sym c.in_default.ensures)
