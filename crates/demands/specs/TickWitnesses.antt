-- Worked exchanges between clocks that tick: one that 18 refuses, two that meet the bound to the unit, and the one of the rules' replay at ticks of a second.
use Rattle.std.specs.Prelude.{ℕ, ◌+◌, ◌-◌, ◌*◌, ◌^◌, max, ◌≡◌, ℤ, pos, neg_ℤ, nat_abs, ◌+ℤ◌}
use Rattle.timestamp.specs.Timestamp.{timestamp}
use Rattle.offset.specs.Halving.{twice}
use Rattle.client.specs.Calls.{Told, refused, accepted}
use Rattle.demands.specs.Measure.{d}
use Rattle.demands.specs.Behaviour.{ours}
use Rattle.clocks.specs.Exchange.{Exchange, true_difference}
use Rattle.clocks.specs.Ticks.{readings, excess}
use Rattle.clocks.specs.WorkedExchanges.{replay}
use Rattle.demands.specs.Demand3.{the_arrival}
use Rattle.demands.specs.Ticks.{Premises}
use Rattle.demands.specs.Witnesses.{run}

module _ (client_tick server_tick : ℕ) (e : Exchange) where
  -- the premises are met, the clocks read these four, and the arrival of the reply tells this
  pub record Works (t1 t2 t3 t4 : ℕ) (result : Told) : Type 0 where
    pub met : Premises client_tick server_tick ours (run e)
    pub read : readings client_tick server_tick e ≡ record { t1 = timestamp t1; t2 = timestamp t2; t3 = timestamp t3; t4 = timestamp t4 }
    pub told : (the_arrival ours (readings client_tick server_tick e) (run e)).result ≡ result

  -- the bound cannot be less
  abbrev pub MeetsBound : ℤ → ℕ → Type 0
  MeetsBound offset half = pos (nat_abs (excess e offset half)) ≡ d (readings client_tick server_tick e) +ℤ twice (pos (max client_tick server_tick - 1))

-- the server's clock ticks while the packet is there, and the client's clock, with the smaller tick, shows less time for the whole trip
abbrev pub short_trip : Exchange
short_trip = record { sent = pos 0; received = pos 0; answered = pos 1; arrived = pos 1; client = pos 1; server = pos 3 }

-- no difference of the clocks, and a client whose clock still shows the time of sending when the reply arrives
abbrev pub slow_out : Exchange
slow_out = record { sent = pos 4; received = pos 7; answered = pos 7; arrived = pos 7; client = pos 0; server = pos 0 }

-- no difference of the clocks, no time on the way, and a server whose clock last ticked 3 units ago
abbrev pub no_trip : Exchange
no_trip = record { sent = pos 7; received = pos 7; answered = pos 7; arrived = pos 7; client = pos 0; server = pos 0 }

pub record TickWitnesses : Type 0 where
  pub by_18 : Works 1 2 short_trip 1 2 4 2 (refused 18)
  pub by_18_delay : d (readings 1 2 short_trip) ≡ neg_ℤ (pos 1)
  pub highest : Works 4 1 slow_out 4 7 7 4 (accepted (pos 3) 0 (pos 0))
  pub highest_bound : MeetsBound 4 1 slow_out (pos 3) 0
  pub lowest : Works 1 4 no_trip 7 4 4 7 (accepted (neg_ℤ (pos 3)) 0 (pos 0))
  pub lowest_bound : MeetsBound 1 4 no_trip (neg_ℤ (pos 3)) 0
  -- 10 s, where the true difference is 10.125 s
  pub seconds : Works (2 ^ 32) (2 ^ 32) replay 0xFFFFFFFA00000000 0x400000000 0x500000000 0xFFFFFFFB00000000 (accepted (pos (10 * 2 ^ 32)) 0 (pos 0))
  pub seconds_true : true_difference replay ≡ pos (10 * 2 ^ 32 + 2 ^ 29)
