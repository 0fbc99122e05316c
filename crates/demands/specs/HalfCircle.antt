-- No exchange within demand 3's premises meets 43, whether its clocks tick or not, and no broadcast packet within those of the broadcast statement: every
-- difference that is tested has an order.
use Rattle.std.specs.Prelude.{ℕ}
use Rattle.timestamp.specs.Timestamp.{◌since◌}
use Rattle.clocks.specs.Exchange.{Exchange, Orderly, readings}
use Rattle.clocks.specs.Ticks as ticks
use Rattle.demands.specs.Common.{InOrder}
use Rattle.demands.specs.Measure.{Four, P, Q}
use Rattle.demands.specs.OneWay as one_way
use Rattle.demands.specs.OneWay.{OneWay}

abbrev pub AllInOrder : Four → Type 0
AllInOrder t = InOrder (t.t4 since t.t1) × InOrder (t.t3 since t.t2) × InOrder (P t) × InOrder (Q t)

pub record NeverHalfCircle : Type 0 where
  pub exchange : (e : Exchange) → Orderly e → AllInOrder (readings e)
  pub ticking : (client_tick server_tick : ℕ) (e : Exchange) → ticks.Orderly client_tick server_tick e → AllInOrder (ticks.readings client_tick server_tick e)
  pub broadcast : (e : OneWay) → one_way.Orderly e → InOrder (one_way.T3 e since one_way.T4 e)
