-- No test of the list refuses: what the client's own call gives.
use Rattle.std.proofs.Common.{sym, length}
use Rattle.association_rules.specs.Associations.{asked_for, buffer_after_ask}
use Rattle.association_rules.proofs.Lists.{taken_call, taken_octets}
use Rattle.client.specs.Ask.{after_ask, after_ask_buffer}
use Rattle.associations.proofs.ask.Goals as goal

pub returns-clause-result : goal.returns-clause-result
unfolding asked_for
returns-clause-result c =
    let a = c.args in
    taken_call a.list.now a.at a.in_use (sym c.in_default.ensures) _ (λ x. after_ask x (length a.buffer.now) a.version a.clock a.token a.uptime) c.ask-called.ensures.answer

pub returns-clause-buffer : goal.returns-clause-buffer
unfolding buffer_after_ask
returns-clause-buffer c =
    let a = c.args in
    taken_octets a.list.now a.at a.in_use (sym c.in_default.ensures) _ (λ x. after_ask_buffer x a.buffer.now a.version a.clock a.token a.uptime) _ c.ask-called.ensures.buffer
