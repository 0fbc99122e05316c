-- No exchange and no broadcast packet within the premises meets 43.
use mathlib.Core.Path.{subst}
use Rattle.clocks.proofs.OneUnit.{readings_are, at_tick_1}
use Rattle.demands.specs.HalfCircle.{AllInOrder, NeverHalfCircle}
use Rattle.demands.proofs.Ticks.{all_in_order}
use Rattle.demands.proofs.OneWay.{one_way_in_order}

pub never_half_circle : NeverHalfCircle
never_half_circle = record {
  exchange = λ e o. subst AllInOrder (readings_are e) (all_in_order 1 1 e ((at_tick_1 e).0 o));
  ticking = all_in_order;
  broadcast = one_way_in_order;
}
