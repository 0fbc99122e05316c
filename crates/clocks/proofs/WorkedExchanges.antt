-- The worked exchanges, computed.
use Prim.Native.Nat.{ℕ, ◌+◌, ◌-◌, ◌^◌}
use mathlib.Core.Path.{refl, ap}
use mathlib.Core.Logic.{◌≢◌}
use mathlib.Core.Bool.{Bool, true, not, ◌&&◌}
use mathlib.Core.List.{List, [], ◌∷◌}
use lib.Dec.{T, leb, ltb, lit<, lit≤}
use lib.IntN.{pos, nat_abs, ◌+ℤ◌, ◌-ℤ◌}
use lib.Signed.{le_z, le_z_yes}
use mir.Facts.{and_yes, eqb_no}
use Rattle.arithmetic.specs.Modulo.{◌modulo◌}
use Rattle.arithmetic.specs.TwosComplement.{signed, difference}
use Rattle.timestamp.specs.declared.Timestamp.{Timestamp}
use Rattle.timestamp.specs.Timestamp.{constants, is_zero, ◌since◌}
use Rattle.clocks.specs.Four.{Four}
use Rattle.clocks.specs.Exchange.{longest_trip, clocks_apart, Exchange, reading, true_difference, Orderly}
use Rattle.clocks.specs.Ticks as ticks
use Rattle.clocks.specs.Ticks.{cut_down}
use Rattle.clocks.specs.WorkedExchanges.{replay, ahead, behind, WorkedExchanges}
use Rattle.clocks.proofs.OneUnit.{at_tick_1}

-- tests, together and one by one
abbrev pub all : List Bool → Bool
all [] = true
all (x ∷ xs) = x && all xs

abbrev pub Each : List Bool → Type 0
Each [] = Unit {0}
Each (x ∷ xs) = T x × Each xs

pub each : (xs : List Bool) → T (all xs) → Each xs
each [] t = tt
each (x ∷ xs) t = let (first, rest) = and_yes x (all xs) t in (first, each xs rest)

some_time : (t : Timestamp) → T (not (is_zero t)) → t ≢ constants.zero
some_time t n e = eqb_no n (ap (λ (x : Timestamp). x.0) e)

-- ticks of 2^i and 2^j units
module _ (i j : ℕ) (e : Exchange) where
  abbrev t : Four
  t = ticks.readings (2 ^ i) (2 ^ j) e

  -- where ticks, times and constants are numbers, these compute
  abbrev pub tests : List Bool
  tests =
      leb i 32
      ∷ leb j 32
      ∷ le_z e.sent e.received
      ∷ le_z e.received e.answered
      ∷ le_z e.answered e.arrived
      ∷ le_z ((e.arrived -ℤ e.sent) +ℤ pos (2 ^ i - 1)) (pos longest_trip)
      ∷ not (is_zero t.t1)
      ∷ not (is_zero t.t2)
      ∷ not (is_zero t.t3)
      ∷ not (is_zero t.t4)
      ∷ ltb (nat_abs (true_difference e) + (2 ^ i - 1) + (2 ^ j - 1)) clocks_apart
      ∷ []

  pub ticking_orderly : T (all tests) → ticks.Orderly (2 ^ i) (2 ^ j) e
  ticking_orderly passed =
      let (i-small, (j-small, (outward, (hold, (back, (short, (t1, (t2, (t3, (t4, (near, end))))))))))) = each tests passed in
      record {
        ticks = ((i, lit≤ i-small, refl), (j, lit≤ j-small, refl));
        outward = le_z_yes outward;
        hold = le_z_yes hold;
        back = le_z_yes back;
        short = le_z_yes short;
        nonzero = (some_time t.t1 t1, some_time t.t2 t2, some_time t.t3 t3, some_time t.t4 t4);
        near = lit< near;
      }

pub orderly : (e : Exchange) → T (all (tests 0 0 e)) → Orderly e
orderly e passed = (at_tick_1 e).1 (ticking_orderly 0 0 e passed)

pub worked_exchanges : WorkedExchanges
unfolding reading ticks.reading cut_down ◌modulo◌ ◌since◌ difference signed
worked_exchanges = record {
  replay_orderly = orderly replay tt;
  replay_read = (refl, refl, refl, refl);
  ahead_orderly = orderly ahead tt;
  ahead_highest = refl;
  behind_orderly = orderly behind tt;
  behind_lowest = refl;
}
