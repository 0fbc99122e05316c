-- Demand 3 for one record of a list, whatever calls are made for the other records in between.
use Rattle.refusals.specs.Given.{answered}
use Rattle.refusals.specs.Given.{Given}
use Rattle.std.specs.Prelude.{ℕ, ◌^◌, ◌≤◌, ◌<◌, ◌≡◌, ◌≢◌, Bool, true, List, [], ◌∷◌, T, ℤ, pos, nat_abs, ◌+ℤ◌, ◌-ℤ◌, length, take, ◌≤ℤ◌}
use Rattle.refusals.specs.Numbers as numbers
use Rattle.token.specs.declared.Token.{Token}
use Rattle.offset.specs.Halving.{twice}
use Rattle.client.specs.declared.Client.{Client}
use Rattle.client.specs.Calls.{accepted}
use Rattle.server_packet.specs.declared.Settings.{Settings}
use Rattle.association_rules.specs.Associations.{association}
use Rattle.demands.specs.Form.{refusal}
use Rattle.demands.specs.Common.{Written}
use Rattle.demands.specs.Measure.{d}
use Rattle.demands.specs.Reply.{LegallySet}
use Rattle.demands.specs.Associations as associations
use Rattle.demands.specs.Associations.{ListCall, ask, arrival, client_call, ListOutcome}
use Rattle.demands.specs.Behaviour as behaviour
use Rattle.demands.specs.Behaviour.{Behaviour, reply, form}
use Rattle.demands.specs.Demand3 as one_record
use Rattle.clocks.specs.Exchange.{Exchange, T1, T2, T3, T4, readings, true_difference, Orderly}

-- the list and the number in use, as a call finds them and leaves them
pub record Associations : Type 0 where
  pub list : List Client
  pub in_use : ℕ

-- a call for the record of a number, in the list or out of it
pub record Numbered : Type 0 where
  pub at : ℕ
  pub call : ListCall

-- calls for this record are those that demand 3 permits, and calls for any other carry anything
abbrev pub AllPermitted : ℕ → Token → ℕ → List Numbered → Type 0
AllPermitted at token uptime [] = Unit {0}
AllPermitted at token uptime (x ∷ xs) =
    (x.at ≡ at → (told : Bool) → one_record.Permitted token uptime (client_call told x.call)) × AllPermitted at token uptime xs

-- ---- the whole run: as that of demand 3, at the record `at` of a list

pub record Run : Type 0 where
  pub exchange : Exchange
  pub before : Associations
  pub at : ℕ
  pub buffer : List ℕ
  pub version : ℕ
  pub token : Token
  pub uptime : ℕ
  pub settings : Settings
  pub reply_buffer : List ℕ
  pub calls : List Numbered

module _ (b : Behaviour) where
  abbrev pub given : Associations → Numbered → associations.ListInput
  given s x = record { list = s.list; at = x.at; in_use = s.in_use; call = x.call }

  abbrev pub does : Associations → Numbered → ListOutcome
  does s x = b.does behaviour.association (given s x)

  abbrev pub left : ListOutcome → Associations
  left o = record { list = o.list; in_use = o.in_use }

  -- each call gets list and number in use as the call before left them
  abbrev pub after : Associations → List Numbered → Associations
  after s [] = s
  after s (x ∷ xs) = after (left (does s x)) xs

  -- the call is refused by a listed number, and changes nothing
  pub record IsRefused (s : Associations) (x : Numbered) : Type 0 where
    pub by : ℕ
    pub listed : T (numbers.listed by)
    pub is : does s x ≡ (form behaviour.association).refusing (given s x) by

  -- each call for this record is
  abbrev pub AllRefused : ℕ → Associations → List Numbered → Type 0
  AllRefused at s [] = Unit {0}
  AllRefused at s (x ∷ xs) = (x.at ≡ at → IsRefused s x) × AllRefused at (left (does s x)) xs

  module _ (r : Run) where
    abbrev e : Exchange
    e = r.exchange

    abbrev pub the_ask : ListOutcome
    the_ask = does r.before (record { at = r.at; call = ask (record { buffer = r.buffer; version = r.version; clock = T1 e; token = r.token; uptime = r.uptime }) })

    abbrev pub the_reply : Written (Given (Unit {0}))
    the_reply = b.does reply (record { settings = r.settings; request = take 48 the_ask.octets; t2 = T2 e; t3 = T3 e; buffer = r.reply_buffer })

    abbrev pub at_end : Associations
    at_end = after (left the_ask) r.calls

    abbrev pub the_arrival : ListOutcome
    the_arrival = does at_end (record { at = r.at; call = arrival (record { packet = take 48 the_reply.octets; t4 = T4 e }) })

    pub record Premises : Type 0 where
      pub orderly : Orderly e
      pub ask_accepted : ((form behaviour.association).shown the_ask).kind ≢ refusal
      pub fits : r.token.0 < 2 ^ 64
      pub synchronised : r.settings.synchronised ≡ true
      pub set : LegallySet r.settings
      pub room : 48 ≤ length r.reply_buffer
      pub permitted : AllPermitted r.at r.token r.uptime r.calls

    pub record Conclusions : Type 0 where
      pub refusals : AllRefused r.at (left the_ask) r.calls
      pub unchanged : association at_end.list r.at ≡ association the_ask.list r.at
      pub answered : the_reply.answer ≡ answered tt
      pub offset : ℤ
      pub half : ℕ
      pub half_0_or_1 : half ≤ 1
      pub reply : the_arrival.result ≡ accepted offset half (d (readings e))
      pub bound : pos (nat_abs (twice offset +ℤ pos half -ℤ twice (true_difference e))) ≤ℤ d (readings e)

  -- One statement over every exchange, list, number, buffer, version, token, uptime, setting and list of calls.
  abbrev pub Demand3List : Type 0
  Demand3List = (r : Run) → Premises r → Conclusions r
