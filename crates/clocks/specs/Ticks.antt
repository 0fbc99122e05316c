-- An exchange between two clocks that tick: a reading is cut down to a multiple of the clock's tick.
use Rattle.std.specs.Prelude.{ℕ, ◌+◌, ◌-◌, ◌%◌, ◌^◌, ◌≤◌, ◌<◌, max, ◌≡◌, ◌≢◌, ℤ, pos, neg_ℤ, nat_abs, ◌+ℤ◌, ◌-ℤ◌, ◌≤ℤ◌}
use Rattle.arithmetic.specs.Modulo.{◌modulo◌}
use Rattle.timestamp.specs.declared.Timestamp.{Timestamp}
use Rattle.timestamp.specs.Timestamp.{timestamp, constants}
use Rattle.offset.specs.Halving.{twice}
use Rattle.clocks.specs.Four.{Four, d, offset, half}
use Rattle.clocks.specs.Exchange.{longest_trip, clocks_apart, Exchange, true_difference}

-- a power of two units, up to 2^32
abbrev pub IsTick : ℕ → Type 0
IsTick tick = (k : ℕ) × (k ≤ 32) × (tick ≡ 2 ^ k)

-- z cut down to a multiple of the tick, toward minus infinity
unfoldable pub cut_down : ℕ → ℤ → ℤ
cut_down tick z = z -ℤ pos (z modulo tick)

-- what a clock with this tick and this constant reads at true time t
unfoldable pub reading : ℕ → ℤ → ℤ → Timestamp
reading tick constant t = timestamp (cut_down tick (t +ℤ constant) modulo 2 ^ 64)

-- cutting down after the reduction is the same
abbrev pub EitherWay : Type 0
EitherWay = (tick : ℕ) (z : ℤ) → IsTick tick → cut_down tick z modulo 2 ^ 64 ≡ (z modulo 2 ^ 64) - (z modulo 2 ^ 64) % tick

-- twice the offset plus the half, less twice the true difference: twice the miss
abbrev pub excess : Exchange → ℤ → ℕ → ℤ
excess e offset half = twice offset +ℤ pos half -ℤ twice (true_difference e)

-- the ticks of the two clocks, in units
module _ (client_tick server_tick : ℕ) (e : Exchange) where
  abbrev pub readings : Four
  readings = record {
    t1 = reading client_tick e.client e.sent;
    t2 = reading server_tick e.server e.received;
    t3 = reading server_tick e.server e.answered;
    t4 = reading client_tick e.client e.arrived;
  }

  -- as in demand 3, with the client's tick less one unit added to the trip, and both ticks, each less one unit, to the clocks' difference
  pub record Orderly : Type 0 where
    pub ticks : IsTick client_tick × IsTick server_tick
    pub outward : e.sent ≤ℤ e.received
    pub hold : e.received ≤ℤ e.answered
    pub back : e.answered ≤ℤ e.arrived
    pub short : ((e.arrived -ℤ e.sent) +ℤ pos (client_tick - 1)) ≤ℤ pos longest_trip
    pub nonzero : (readings.t1 ≢ constants.zero) × (readings.t2 ≢ constants.zero) × (readings.t3 ≢ constants.zero) × (readings.t4 ≢ constants.zero)
    pub near : nat_abs (true_difference e) + (client_tick - 1) + (server_tick - 1) < clocks_apart

  -- the miss is at most half the delay plus the larger tick less one unit; more sharply, the client's tick bounds it above, and the server's below
  pub record InBound (offset : ℤ) (half : ℕ) : Type 0 where
    pub bound : pos (nat_abs (excess e offset half)) ≤ℤ (d readings +ℤ twice (pos (max client_tick server_tick - 1)))
    pub above : excess e offset half ≤ℤ (d readings +ℤ twice (pos (client_tick - 1)))
    pub below : neg_ℤ (excess e offset half) ≤ℤ (d readings +ℤ twice (pos (server_tick - 1)))

-- the offset that the rules make of the readings is within the bound
abbrev pub Bounded : Type 0
Bounded =
    (client_tick server_tick : ℕ) (e : Exchange) → Orderly client_tick server_tick e
    → let t = readings client_tick server_tick e in InBound client_tick server_tick e (offset t) (half t)
