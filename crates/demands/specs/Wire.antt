-- What the wire shows of the client's clock: whether the ask is refused, the octets of the request, and the server's reply to them are the same for any two clock
-- readings that are not zero.
use Rattle.refusals.specs.Given.{Given}
use Rattle.std.specs.Prelude.{ℕ, ◌≡◌, ◌≢◌, List, take}
use Rattle.timestamp.specs.declared.Timestamp.{Timestamp}
use Rattle.token.specs.declared.Token.{Token}
use Rattle.client.specs.declared.Client.{Client}
use Rattle.client.specs.Calls.{ask, Outcome}
use Rattle.server_packet.specs.declared.Settings.{Settings}
use Rattle.demands.specs.Common.{not_available, Written}
use Rattle.demands.specs.Behaviour.{Behaviour, client, reply}

-- an ask but for its clock reading
pub record Asking : Type 0 where
  pub client : Client
  pub buffer : List ℕ
  pub version : ℕ
  pub token : Token
  pub uptime : ℕ

module _ (b : Behaviour) (x : Asking) where
  abbrev pub the_ask : Timestamp → Outcome
  the_ask clock = b.does client (x.client, ask (record { buffer = x.buffer; version = x.version; clock = clock; token = x.token; uptime = x.uptime }))

  abbrev pub the_reply : Timestamp → Settings → (t2 t3 : Timestamp) → List ℕ → Written (Given (Unit {0}))
  the_reply clock s t2 t3 buffer = b.does reply (record { settings = s; request = take 48 (the_ask clock).octets; t2 = t2; t3 = t3; buffer = buffer })

  pub record Unseen (t u : Timestamp) : Type 0 where
    pub told : (the_ask t).result ≡ (the_ask u).result
    pub octets : (the_ask t).octets ≡ (the_ask u).octets
    pub reply : (s : Settings) (t2 t3 : Timestamp) (buffer : List ℕ) → the_reply t s t2 t3 buffer ≡ the_reply u s t2 t3 buffer

abbrev pub ClockUnseen : Behaviour → Type 0
ClockUnseen b = (x : Asking) (t u : Timestamp) → t ≢ not_available → u ≢ not_available → Unseen b x t u
