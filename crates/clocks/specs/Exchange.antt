-- An exchange between two clocks that run at the true rate and read it to the unit.
use Rattle.std.specs.Prelude.{ℕ, ◌-◌, ◌^◌, ◌<◌, ◌≢◌, ℤ, pos, nat_abs, ◌+ℤ◌, ◌-ℤ◌, ◌≤ℤ◌}
use Rattle.arithmetic.specs.Modulo.{◌modulo◌}
use Rattle.timestamp.specs.declared.Timestamp.{Timestamp}
use Rattle.timestamp.specs.Timestamp.{timestamp, constants}
use Rattle.clocks.specs.Four.{Four}

-- 16 seconds, and how far the clocks may be apart, in units
abbrev pub longest_trip : ℕ
longest_trip = 2 ^ 36

abbrev pub clocks_apart : ℕ
clocks_apart = 2 ^ 63 - 2 ^ 36

-- true times, and the constants of the two clocks, in units of 2^-32 s: whole numbers of either sign
pub record Exchange : Type 0 where
  pub sent : ℤ
  pub received : ℤ
  pub answered : ℤ
  pub arrived : ℤ
  pub client : ℤ
  pub server : ℤ

-- what a clock with this constant reads at true time t
unfoldable pub reading : ℤ → ℤ → Timestamp
reading constant t = timestamp ((t +ℤ constant) modulo 2 ^ 64)

module _ (e : Exchange) where
  abbrev pub T1 : Timestamp
  T1 = reading e.client e.sent

  abbrev pub T2 : Timestamp
  T2 = reading e.server e.received

  abbrev pub T3 : Timestamp
  T3 = reading e.server e.answered

  abbrev pub T4 : Timestamp
  T4 = reading e.client e.arrived

  abbrev pub readings : Four
  readings = record { t1 = T1; t2 = T2; t3 = T3; t4 = T4 }

  -- the rules' true difference, not reduced
  abbrev pub true_difference : ℤ
  true_difference = e.server -ℤ e.client

  -- sent, received, answered and arrived in that order within 16 seconds, no reading zero, and clocks less than 2^63 - 2^36 units apart
  pub record Orderly : Type 0 where
    pub outward : e.sent ≤ℤ e.received
    pub hold : e.received ≤ℤ e.answered
    pub back : e.answered ≤ℤ e.arrived
    pub short : (e.arrived -ℤ e.sent) ≤ℤ pos longest_trip
    pub nonzero : (T1 ≢ constants.zero) × (T2 ≢ constants.zero) × (T3 ≢ constants.zero) × (T4 ≢ constants.zero)
    pub near : nat_abs true_difference < clocks_apart
