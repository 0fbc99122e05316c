-- Ticks of one unit: the readings and the premises are those of clocks that read to the unit.
use mathlib.Core.Path.{◌≡◌, sym, subst}
use mathlib.Core.Logic.{◌≢◌, ◌↔◌}
use native.Mathlib.Omega.{arith}
use lib.IntN.{ℤ, pos, ◌+ℤ◌, ◌-ℤ◌}
use Rattle.arithmetic.proofs.Integers.{integers, sum}
use Rattle.timestamp.specs.Timestamp.{constants}
use Rattle.clocks.specs.Four.{Four}
use Rattle.clocks.specs.Exchange.{Exchange, reading, readings, Orderly}
use Rattle.clocks.specs.Ticks as ticks
use Rattle.clocks.proofs.Cut.{cut_1}

-- a clock with a tick of one unit reads its time
reads : (constant t : ℤ) → ticks.reading 1 constant t ≡ reading constant t
unfolding ticks.reading reading
reads constant t = rw (cut_1 (t +ℤ constant))

pub readings_are : (e : Exchange) → ticks.readings 1 1 e ≡ readings e
readings_are e = λ i. record {
  t1 = reads e.client e.sent i;
  t2 = reads e.server e.received i;
  t3 = reads e.server e.answered i;
  t4 = reads e.client e.arrived i;
}

-- no reading is zero
abbrev NonZero : Four → Type 0
NonZero t = (t.t1 ≢ constants.zero) × (t.t2 ≢ constants.zero) × (t.t3 ≢ constants.zero) × (t.t4 ≢ constants.zero)

pub at_tick_1 : (e : Exchange) → Orderly e ↔ ticks.Orderly 1 1 e
at_tick_1 e =
    let s = sum (e.arrived -ℤ e.sent) (pos 0) in (
      λ o. record {
        ticks = ((0, omega arith, omega arith), (0, omega arith, omega arith));
        outward = o.outward;
        hold = o.hold;
        back = o.back;
        short = omega (arith, integers, o.short);
        nonzero = subst NonZero (sym (readings_are e)) o.nonzero;
        near = omega (arith, o.near);
      },
      λ o. record {
        outward = o.outward;
        hold = o.hold;
        back = o.back;
        short = omega (arith, integers, o.short);
        nonzero = subst NonZero (readings_are e) o.nonzero;
        near = omega (arith, o.near);
      },
    )
