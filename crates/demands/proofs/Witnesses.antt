-- The premises of demand 3 are met.
use mathlib.Core.Path.{refl, subst}
use mathlib.Core.Logic.{◌≢◌}
use lib.Dec.{T, lit<, lit≤}
use lib.Signed.{le_z_yes}
use Rattle.arithmetic.specs.Modulo.{◌modulo◌}
use Rattle.timestamp.specs.Timestamp.{is_zero}
use Rattle.clocks.specs.Exchange.{Exchange, reading, readings, Orderly}
use Rattle.clocks.specs.WorkedExchanges.{replay, ahead, behind}
use Rattle.clocks.proofs.WorkedExchanges.{worked_exchanges}
use Rattle.packet.specs.Packet.{fields_of}
use Rattle.client.specs.Record.{illegal}
use Rattle.client.specs.Ask.{ask_tests, after_ask}
use Rattle.demands.specs.Form.{refusal}
use Rattle.demands.specs.Measure.{Four}
use Rattle.demands.specs.Behaviour.{Behaviour, client, form, ours}
use Rattle.demands.specs.Demand3.{the_ask, CallPremises, Premises}
use Rattle.demands.specs.Witnesses.{run, Witnesses}
use Rattle.demands.proofs.Form.{acceptance_shown}

-- of any behaviour that does not refuse the ask
pub call_premises : (b : Behaviour) (t : Four) (e : Exchange) → ((form client).shown (the_ask b t (run e))).kind ≢ refusal → CallPremises b t (run e)
unfolding fields_of
call_premises b t e asked = record {
  ask_accepted = asked;
  fits = lit< tt;
  synchronised = refl;
  set = record { leap = lit≤ tt; precision = (le_z_yes tt, le_z_yes tt) };
  room = lit≤ tt;
  permitted = (tt, ((λ packet same. subst (λ t. T (is_zero t)) same tt), ((λ packet same. subst (λ t. T (is_zero t)) same tt), (lit< tt, tt))));
}

pub premises : (b : Behaviour) (e : Exchange) → Orderly e → ((form client).shown (the_ask b (readings e) (run e))).kind ≢ refusal → Premises b (run e)
premises b e o asked = record { orderly = o; calls = call_premises b (readings e) e asked }

pub witnesses : Witnesses
unfolding after_ask ask_tests illegal reading ◌modulo◌
witnesses = record {
  replay_met = premises ours replay worked_exchanges.replay_orderly acceptance_shown.0;
  ahead_met = premises ours ahead worked_exchanges.ahead_orderly acceptance_shown.0;
  behind_met = premises ours behind worked_exchanges.behind_orderly acceptance_shown.0;
}
