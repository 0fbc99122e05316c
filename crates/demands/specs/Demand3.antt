-- Demand 3: between two clocks that run at the true rate, the reply to an ask is accepted whatever calls come in between, and the offset misses the
-- true difference by at most half the delay.
use Rattle.refusals.specs.Given.{answered}
use Rattle.refusals.specs.Given.{Given}
use Rattle.std.specs.Prelude.{ℕ, ◌+◌, ◌^◌, ◌≤◌, ◌<◌, ◌≡◌, ◌≢◌, Bool, true, List, [], ◌∷◌, T, ℤ, pos, nat_abs, ◌+ℤ◌, ◌-ℤ◌, length, take, ◌≤ℤ◌}
use Rattle.refusals.specs.Numbers as numbers
use Rattle.offset.specs.Halving.{twice}
use Rattle.clocks.specs.Exchange.{Exchange, readings, true_difference, Orderly}
use Rattle.token.specs.declared.Token.{Token}
use Rattle.token.specs.Token.{carried}
use Rattle.packet.specs.Packet.{fields_of}
use Rattle.client.specs.declared.Client.{Client}
use Rattle.client.specs.Calls.{Call, ask, arrival, give_up, accepted, Outcome}
use Rattle.server_packet.specs.declared.Settings.{Settings}
use Rattle.demands.specs.Form.{refusal}
use Rattle.demands.specs.Common.{IsPacket, Written}
use Rattle.demands.specs.Measure.{Four, d}
use Rattle.demands.specs.Reply.{LegallySet}
use Rattle.demands.specs.Behaviour.{Behaviour, client, reply, form}

-- ---- the calls in between

-- A call between the ask, with this token and uptime, and the arrival of its reply: anything but an arrival whose originate field has the token, and a give-up
-- 16 seconds or more past the ask. A packet that 7 refuses has no originate field.
abbrev pub Permitted : Token → ℕ → Call → Type 0
Permitted token uptime (ask x) = Unit {0}
Permitted token uptime (arrival x) = IsPacket x.packet → (fields_of x.packet).originate ≢ carried token
Permitted token uptime (give_up x) = x.uptime < uptime + 16

abbrev pub AllPermitted : Token → ℕ → List Call → Type 0
AllPermitted token uptime [] = Unit {0}
AllPermitted token uptime (x ∷ xs) = Permitted token uptime x × AllPermitted token uptime xs

-- ---- a run: the ask with what it is given, the server's settings and buffer, and the calls between the ask and the arrival of the reply

pub record Run : Type 0 where
  pub exchange : Exchange
  pub client : Client
  pub buffer : List ℕ
  pub version : ℕ
  pub token : Token
  pub uptime : ℕ
  pub settings : Settings
  pub reply_buffer : List ℕ
  pub calls : List Call
  pub alternate : Bool  -- what the arrival of the reply is told

module _ (b : Behaviour) where
  -- the call is refused by a listed number, and changes nothing
  pub record IsRefused (c : Client) (x : Call) : Type 0 where
    pub by : ℕ
    pub listed : T (numbers.listed by)
    pub is : b.does client (c, x) ≡ (form client).refusing (c, x) by

  -- the record after the calls, of which each gets the record that the call before handed back
  abbrev pub after : Client → List Call → Client
  after c [] = c
  after c (x ∷ xs) = after (b.does client (c, x)).next xs

  abbrev pub AllRefused : Client → List Call → Type 0
  AllRefused c [] = Unit {0}
  AllRefused c (x ∷ xs) = IsRefused c x × AllRefused (b.does client (c, x)).next xs

  -- a run in which the clocks read these four
  module _ (t : Four) (r : Run) where
    -- the ask at T1, the server's answer to the 48 octets that it wrote, and the arrival of the 48 octets of that answer after the calls in between
    abbrev pub the_ask : Outcome
    the_ask = b.does client (r.client, ask (record { buffer = r.buffer; version = r.version; clock = t.t1; token = r.token; uptime = r.uptime }))

    abbrev pub the_reply : Written (Given (Unit {0}))
    the_reply = b.does reply (record { settings = r.settings; request = take 48 the_ask.octets; t2 = t.t2; t3 = t.t3; buffer = r.reply_buffer })

    abbrev pub reply_arriving : Client × Call
    reply_arriving = (after the_ask.next r.calls, arrival (record { packet = take 48 the_reply.octets; t4 = t.t4; alternate = r.alternate }))

    abbrev pub the_arrival : Outcome
    the_arrival = b.does client reply_arriving

    pub record CallPremises : Type 0 where
      pub ask_accepted : ((form client).shown the_ask).kind ≢ refusal  -- the ask is given any record, buffer, version, token and uptime, so long as it isn't refused
      pub fits : r.token.0 < 2 ^ 64  -- the token is a value of its type
      pub synchronised : r.settings.synchronised ≡ true
      pub set : LegallySet r.settings
      pub room : 48 ≤ length r.reply_buffer
      pub permitted : AllPermitted r.token r.uptime r.calls

    pub record CallConclusions : Type 0 where
      pub refusals : AllRefused the_ask.next r.calls
      pub unchanged : after the_ask.next r.calls ≡ the_ask.next
      pub answered : the_reply.answer ≡ answered tt

  -- ---- demand 3

  module _ (r : Run) where
    abbrev e : Exchange
    e = r.exchange

    pub record Premises : Type 0 where
      pub orderly : Orderly e
      pub calls : CallPremises (readings e) r

    pub record Conclusions : Type 0 where
      pub calls : CallConclusions (readings e) r
      pub offset : ℤ
      pub half : ℕ
      pub half_0_or_1 : half ≤ 1
      pub reply : (the_arrival (readings e) r).result ≡ accepted offset half (d (readings e))
      pub bound : pos (nat_abs (twice offset +ℤ pos half -ℤ twice (true_difference e))) ≤ℤ d (readings e)

  -- One statement over every exchange, record, buffer, version, token, uptime, setting and list of calls, with or without an alternate.
  abbrev pub Demand3 : Type 0
  Demand3 = (r : Run) → Premises r → Conclusions r
