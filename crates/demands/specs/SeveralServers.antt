-- A gateway with several servers does not fall silent: two laws over every list of calls, and a worked case.
use Rattle.std.specs.Prelude.{ℕ, ◌<◌, ◌≡◌, ◌≢◌, true, List, [], ◌∷◌, ◌++◌, length, take, replicate}
use Rattle.arithmetic.specs.Octets.{octets}
use Rattle.timestamp.specs.Timestamp.{timestamp}
use Rattle.token.specs.Token.{token}
use Rattle.kiss.specs.Kiss.{octets_of}
use Rattle.client.specs.declared.Client.{Client}
use Rattle.client.specs.declared.Phase.TheVariants.{Idle, Waiting, Stopped}
use Rattle.client.specs.declared.Phase.{Phase}
use Rattle.client.specs.Record.{fresh}
use Rattle.association_rules.specs.Associations.{association}
use Rattle.demands.specs.Associations.{ask, arrival}
use Rattle.demands.specs.Behaviour.{Behaviour, ours}
use Rattle.demands.specs.Demand3List.{Associations, Numbered, after}

abbrev pub Runs : List Client → ℕ → Type 0
Runs list i = (i < length list) × ((association list i).phase ≢ Stopped)

module _ (b : Behaviour) where
  -- where one record isn't stopped, it never comes to all of them stopped
  abbrev pub OneRuns : Type 0
  OneRuns = (s : Associations) (xs : List Numbered) (i : ℕ) → Runs s.list i → (j : ℕ) × Runs (after b s xs).list j

  -- where the record in use isn't stopped, the record then in use is never a stopped one
  abbrev pub UseRuns : Type 0
  UseRuns = (s : Associations) (xs : List Numbered) → Runs s.list s.in_use → Runs (after b s xs).list (after b s xs).in_use

-- ---- a worked case: three records, of which the one in use, record 1, waits and record 2 is stopped

-- a record that asked at uptime 0, in this phase, with this T1, token, version and exponent
abbrev asked : Phase → (t1 bits version exponent : ℕ) → Client
asked phase t1 bits version exponent = record { phase = phase; t1 = timestamp t1; token = token bits; version = version; asked = true; uptime = 0; exponent = exponent }

abbrev stopped : Client
stopped = asked Stopped 0 0 0 6

-- the kiss RATE to a request of version 4 with this token
abbrev pub rate : ℕ → List ℕ
rate bits = 0x24 ∷ replicate 11 0 ++ octets_of "RATE" ++ replicate 8 0 ++ octets 8 bits ++ replicate 16 0

abbrev pub three : Associations
three = record { list = fresh ∷ asked Waiting 7 70 4 6 ∷ stopped ∷ []; in_use = 1 }

-- record 1 is kissed; record 0 asks, and is kissed
abbrev pub kisses : List Numbered
kisses =
    record { at = 1; call = arrival (record { packet = rate 70; t4 = timestamp 8 }) }
    ∷ record { at = 0; call = ask (record { buffer = replicate 48 0; version = 4; clock = timestamp 9; token = token 90; uptime = 0 }) }
    ∷ record { at = 0; call = arrival (record { packet = rate 90; t4 = timestamp 10 }) }
    ∷ []

pub record Worked : Type 0 where
  -- use moves past the stopped record 2 and wraps to record 0
  pub moved : after ours three (take 1 kisses) ≡ record { list = fresh ∷ stopped ∷ stopped ∷ []; in_use = 0 }
  -- record 0 is the last one left, and backs off
  pub backed_off : after ours three kisses ≡ record { list = asked Idle 0 0 0 7 ∷ stopped ∷ stopped ∷ []; in_use = 0 }
