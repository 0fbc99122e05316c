-- Demand 3 for clocks that tick: the reply is accepted, or refused by 18, and the offset misses the true difference by at most half the delay plus the larger
-- tick less one unit.
use Rattle.std.specs.Prelude.{ℕ, ◌≤◌, ◌≡◌, ◌⊎◌, ℤ, pos, ◌<ℤ◌}
use Rattle.refusals.specs.Numbers.{number}
use Rattle.refusals.specs.declared.Refusal.TheVariants.{DelayNegative}
use Rattle.clocks.specs.Ticks.{readings, Orderly, InBound}
use Rattle.client.specs.Calls.{accepted}
use Rattle.demands.specs.Measure.{Four, d}
use Rattle.demands.specs.Behaviour.{Behaviour, client, form}
use Rattle.demands.specs.Demand3.{Run, reply_arriving, the_arrival, CallPremises, CallConclusions, Demand3}

-- the ticks of the two clocks, in units
module _ (client_tick server_tick : ℕ) (b : Behaviour) (r : Run) where
  abbrev t : Four
  t = readings client_tick server_tick r.exchange

  pub record Premises : Type 0 where
    pub orderly : Orderly client_tick server_tick r.exchange
    pub calls : CallPremises b t r

  -- the delay is negative, and the arrival is refused by 18 and changes nothing
  pub record TooShort : Type 0 where
    pub negative : d t <ℤ pos 0
    pub reply : the_arrival b t r ≡ (form client).refusing (reply_arriving b t r) (number DelayNegative)

  pub record Accepted : Type 0 where
    pub offset : ℤ
    pub half : ℕ
    pub half_0_or_1 : half ≤ 1
    pub reply : (the_arrival b t r).result ≡ accepted offset half (d t)
    pub in_bound : InBound client_tick server_tick r.exchange offset half

  pub record Conclusions : Type 0 where
    pub calls : CallConclusions b t r
    pub reply : TooShort ⊎ Accepted

-- One statement over all ticks and all that demand 3 speaks of.
abbrev pub Ticks : Behaviour → Type 0
Ticks b = (client_tick server_tick : ℕ) (r : Run) → Premises client_tick server_tick b r → Conclusions client_tick server_tick b r

-- demand 3 is this at ticks of one unit
abbrev pub Demand3Follows : Type 0
Demand3Follows = (b : Behaviour) → Ticks b → Demand3 b
