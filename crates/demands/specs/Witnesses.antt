-- Runs that meet the premises of demand 3, in the exchange of the rules' replay, over 2036, and in two at the edge of what is allowed.
use Rattle.std.specs.Prelude.{ℕ, true, false, List, [], ◌∷◌, pos, neg_ℤ, replicate}
use Rattle.timestamp.specs.Timestamp.{timestamp}
use Rattle.token.specs.Token.{token}
use Rattle.server_packet.specs.declared.Settings.{Settings}
use Rattle.clocks.specs.Exchange.{Exchange}
use Rattle.clocks.specs.WorkedExchanges.{replay, ahead, behind}
use Rattle.client.specs.Record.{fresh}
use Rattle.client.specs.Calls.{Call, ask, arrival, give_up}
use Rattle.demands.specs.Behaviour.{ours}
use Rattle.demands.specs.Demand3.{Run, Premises}

-- those of the replay's reply: identifier GPS, reference 4 s
abbrev pub settings : Settings
settings = record { synchronised = true; leap = 0; precision = neg_ℤ (pos 20); identifier = 0x47505300; reference = timestamp 0x400000000 }

abbrev pub buffer : List ℕ
buffer = replicate 48 0

-- one of each kind: an ask, an arrival with another originate timestamp, one that is too short, and a give-up too early
abbrev pub calls : List Call
calls =
    ask (record { buffer = buffer; version = 4; clock = timestamp 0xFFFFFFFA80000000; token = token 8; uptime = 1 })
    ∷ arrival (record { packet = buffer; t4 = timestamp 0xFFFFFFFB00000000; alternate = true })
    ∷ arrival (record { packet = replicate 47 0; t4 = timestamp 0xFFFFFFFB40000000; alternate = false })
    ∷ give_up (record { uptime = 15 })
    ∷ []

-- a fresh client asks in version 4 with the token 7 at uptime 0
abbrev pub run : Exchange → Run
run e = record { exchange = e; client = fresh; buffer = buffer; version = 4; token = token 7; uptime = 0; settings = settings; reply_buffer = buffer; calls = calls; alternate = true }

pub record Witnesses : Type 0 where
  pub replay_met : Premises ours (run replay)
  pub ahead_met : Premises ours (run ahead)
  pub behind_met : Premises ours (run behind)
