-- Broadcast between two clocks that run at the true rate: the packet of our writer is accepted, and its result is below the true difference by exactly the time
-- that it travelled.
use Rattle.refusals.specs.Given.{Given, answered}
use Rattle.std.specs.Prelude.{ℕ, ◌+◌, ◌-◌, ◌^◌, ◌≤◌, ◌<◌, ◌≡◌, ◌≢◌, true, List, ℤ, pos, neg_ℤ, nat_abs, ◌-ℤ◌, length, take, ◌≤ℤ◌}
use Rattle.timestamp.specs.declared.Timestamp.{Timestamp}
use Rattle.timestamp.specs.Timestamp.{timestamp}
use Rattle.server_packet.specs.declared.Settings.{Settings}
use Rattle.demands.specs.Common.{not_available, Written}
use Rattle.demands.specs.Reply.{LegallySet}
use Rattle.demands.specs.Behaviour.{Behaviour, broadcast, broadcast_arrival, ours}
use Rattle.clocks.specs.Exchange.{longest_trip, reading}
use Rattle.demands.specs.Witnesses.{settings, buffer}

-- how far the clocks may be apart, in units
abbrev pub broadcast_clocks_apart : ℕ
broadcast_clocks_apart = 2 ^ 62 - 2 ^ 36

-- the true times at which the packet is sent and arrives, and the constants of the two clocks, in units of 2^-32 s: whole numbers of either sign
pub record OneWay : Type 0 where
  pub sent : ℤ
  pub arrived : ℤ
  pub client : ℤ
  pub server : ℤ

module _ (e : OneWay) where
  abbrev pub T3 : Timestamp
  T3 = reading e.server e.sent

  abbrev pub T4 : Timestamp
  T4 = reading e.client e.arrived

  abbrev pub true_difference : ℤ
  true_difference = e.server -ℤ e.client

  abbrev pub travelled : ℤ
  travelled = e.arrived -ℤ e.sent

  -- 0 to 16 seconds on the way, no reading zero, and clocks less than 2^62 - 2^36 units apart
  pub record Orderly : Type 0 where
    pub forth : e.sent ≤ℤ e.arrived
    pub short : travelled ≤ℤ pos longest_trip
    pub nonzero : (T3 ≢ not_available) × (T4 ≢ not_available)
    pub near : nat_abs true_difference < broadcast_clocks_apart

pub record Run : Type 0 where
  pub way : OneWay
  pub settings : Settings
  pub version : ℕ
  pub poll : ℕ
  pub buffer : List ℕ

module _ (b : Behaviour) (r : Run) where
  abbrev pub the_write : Written (Given (Unit {0}))
  the_write = b.does broadcast (record { settings = r.settings; version = r.version; poll = r.poll; t3 = T3 r.way; buffer = r.buffer })

  -- the 48 octets that it wrote
  abbrev pub the_arrival : Given ℤ
  the_arrival = b.does broadcast_arrival (record { packet = take 48 the_write.octets; t4 = T4 r.way })

  pub record Premises : Type 0 where
    pub orderly : Orderly r.way
    pub synchronised : r.settings.synchronised ≡ true
    pub set : LegallySet r.settings
    pub version : (1 ≤ r.version) × (r.version ≤ 4)
    pub poll : (4 ≤ r.poll) × (r.poll ≤ 14)
    pub room : 48 ≤ length r.buffer

  pub record Conclusions : Type 0 where
    pub written : the_write.answer ≡ answered tt
    pub result : the_arrival ≡ answered (true_difference r.way -ℤ travelled r.way)

abbrev pub BroadcastDifference : Behaviour → Type 0
BroadcastDifference b = (r : Run) → Premises b r → Conclusions b r

-- ---- the premises can be met: at both ends of the time on the way, for both signs of the difference, and across 2036

-- the server's clock is past the wrap of 2036, 10.125 s ahead of the client's; the packet travels 0.375 s
abbrev pub across : OneWay
across = record { sent = pos 0; arrived = pos 0x60000000; client = pos 0xFFFFFFFA00000000; server = pos 0x10000000420000000 }

abbrev farthest : ℕ
farthest = 2 ^ 62 - 2 ^ 36 - 1

-- 16 s on the way from a server that is ahead
abbrev pub slowest : OneWay
slowest = record { sent = pos 1; arrived = pos (1 + 2 ^ 36); client = pos 0; server = pos farthest }

-- no time on the way from a server that is behind
abbrev pub fastest : OneWay
fastest = record { sent = pos 1; arrived = pos 1; client = pos 0; server = neg_ℤ (pos farthest) }

abbrev pub run_of : OneWay → Run
run_of e = record { way = e; settings = settings; version = 4; poll = 6; buffer = buffer }

pub record OneWayWitnesses : Type 0 where
  pub across_met : Premises ours (run_of across)
  pub across_read : (T3 across ≡ timestamp 0x420000000) × (T4 across ≡ timestamp 0xFFFFFFFA60000000)
  pub slowest_met : Premises ours (run_of slowest)
  pub fastest_met : Premises ours (run_of fastest)
