-- Demand 3 follows, of any behaviour, from the statement for clocks that tick, at ticks of one unit: there d is not negative, so that 18 is not given.
use mathlib.Core.Path.{◌≡◌, sym, subst}
use mathlib.Core.Logic.{⊎_elim}
use native.Mathlib.Omega.{arith}
use lib.IntN.{pos, nat_abs, ◌+ℤ◌, ◌-ℤ◌}
use lib.Signed.{◌≤ℤ◌}
use Rattle.arithmetic.proofs.Integers.{integers, sum}
use Rattle.offset.specs.Halving.{twice}
use Rattle.client.specs.Calls.{accepted}
use Rattle.clocks.specs.Exchange.{Exchange, true_difference}
use Rattle.clocks.specs.Ticks.{readings}
use Rattle.clocks.proofs.Exchange.{least}
use Rattle.clocks.proofs.OneUnit.{readings_are, at_tick_1}
use Rattle.demands.specs.Measure.{d}
use Rattle.demands.specs.Behaviour.{Behaviour, ours}
use Rattle.demands.specs.Demand3.{Run, the_arrival, CallPremises, CallConclusions, Premises, Conclusions, Demand3}
use Rattle.demands.specs.Ticks as ticks
use Rattle.demands.specs.Ticks.{Ticks, Demand3Follows}
use Rattle.demands.proofs.Ticks as ours-ticks

module _ (b : Behaviour) (met : Ticks b) (r : Run) (p : Premises b r) where
  abbrev e : Exchange
  e = r.exchange

  concluded : ticks.Conclusions 1 1 b r
  concluded = met 1 1 r (record { orderly = (at_tick_1 e).0 p.orderly; calls = subst (λ t. CallPremises b t r) (sym (readings_are e)) p.calls })

  from : ticks.Accepted 1 1 b r → Conclusions b r
  from a = record {
    calls = subst (λ t. CallConclusions b t r) (readings_are e) concluded.calls;
    offset = a.offset;
    half = a.half;
    half_0_or_1 = omega (arith, a.half_0_or_1);
    reply = subst (λ t. (the_arrival b t r).result ≡ accepted a.offset a.half (d t)) (readings_are e) a.reply;
    bound =
        let delay = d (readings 1 1 e) in
        subst (λ t. pos (nat_abs (twice a.offset +ℤ pos a.half -ℤ twice (true_difference e))) ≤ℤ d t) (readings_are e)
        (omega (arith, integers, a.in_bound.bound, sum delay (pos 0)));
  }

  pub kept : Conclusions b r
  kept = ⊎_elim (λ s. absurd (omega (arith, integers, least 1 1 e ((at_tick_1 e).0 p.orderly), s.negative))) from concluded.reply

pub follows : Demand3Follows
follows = kept

pub demand3 : Demand3 ours
demand3 = follows ours ours-ticks.ticks
