-- Demand 3 for C: over lists of calls on one image that nobody else writes, where 46 refuses neither the server's call nor the arrival that brings the reply.
-- A call in between may be refused by 46, and then changes nothing.
use Rattle.std.specs.Prelude.{ℕ, ◌^◌, ◌≤◌, ◌<◌, ◌≡◌, ◌≢◌, List, [], ◌∷◌, T, ℤ, pos, neg_ℤ, nat_abs, ◌+ℤ◌, ◌-ℤ◌, length, take, replicate, ◌≤ℤ◌}
use Rattle.refusals.specs.Numbers as numbers
use Rattle.refusals.specs.declared.Refusal.TheVariants.{ImageNotLegal}
use Rattle.offset.specs.Halving.{twice}
use Rattle.clocks.specs.WorkedExchanges.{replay}
use Rattle.clocks.specs.Exchange.{Exchange, readings, true_difference, Orderly}
use Rattle.token.specs.Token as tokens
use Rattle.client.specs.Calls.{accepted}
use Rattle.firmware_layouts.specs.Answer.{answer_in}
use Rattle.firmware.specs.Client.{LentCall, ask, arrival, give_up, inner}
use Rattle.demands.specs.Common.{Written}
use Rattle.demands.specs.Measure.{Four, d}
use Rattle.demands.specs.Reply.{LegallySet}
use Rattle.demands.specs.ForC.{ImageOutcome, RequestForC, inner_request}
use Rattle.demands.specs.Behaviour.{Behaviour, client_for_c, reply_for_c, form, ours}
use Rattle.demands.specs.Demand3.{Permitted}

-- each call in between is one that demand 3 permits
abbrev pub AllPermitted : (token uptime : ℕ) → List LentCall → Type 0
AllPermitted token uptime [] = Unit {0}
AllPermitted token uptime (x ∷ xs) = Permitted (tokens.token token) uptime (inner x) × AllPermitted token uptime xs

-- the image and what the ask is given beside it, the server's settings and buffer, the calls in between, and what the arrival of the reply is lent and told
pub record Run : Type 0 where
  pub exchange : Exchange
  pub image : List ℕ
  pub buffer : List ℕ
  pub version : ℕ
  pub token : ℕ
  pub uptime : ℕ
  pub synchronised : ℕ
  pub leap : ℕ
  pub precision : ℤ
  pub identifier : ℕ
  pub reference : ℕ
  pub reply_buffer : List ℕ
  pub calls : List LentCall
  pub answer : List ℕ
  pub alternate : ℕ

module _ (b : Behaviour) where
  -- the call is refused by a listed number, and changes nothing
  pub record IsRefused (image : List ℕ) (x : LentCall) : Type 0 where
    pub by : ℕ
    pub listed : T (numbers.listed by)
    pub is : b.does client_for_c (record { image = image; call = x }) ≡ (form client_for_c).refusing (record { image = image; call = x }) by

  -- the image after the calls, each of which is lent the image that the call before left
  abbrev pub after : List ℕ → List LentCall → List ℕ
  after image [] = image
  after image (x ∷ xs) = after (b.does client_for_c (record { image = image; call = x })).image xs

  abbrev pub AllRefused : List ℕ → List LentCall → Type 0
  AllRefused image [] = Unit {0}
  AllRefused image (x ∷ xs) = IsRefused image x × AllRefused (b.does client_for_c (record { image = image; call = x })).image xs

  module _ (r : Run) where
    abbrev t : Four
    t = readings r.exchange

    -- the ask at T1, the server's answer to the 48 octets that it wrote, and the arrival of the 48 octets of that answer after the calls in between
    abbrev pub the_ask : ImageOutcome
    the_ask = b.does client_for_c (record { image = r.image; call = ask r.buffer r.version t.t1.0 r.token r.uptime })

    abbrev pub request : RequestForC
    request = record {
      synchronised = r.synchronised;
      leap = r.leap;
      precision = r.precision;
      identifier = r.identifier;
      reference = r.reference;
      t2 = t.t2.0;
      t3 = t.t3.0;
      buffer = r.reply_buffer;
      request = take 48 the_ask.octets;
    }

    abbrev pub the_reply : Written ℕ
    the_reply = b.does reply_for_c request

    abbrev pub the_arrival : ImageOutcome
    the_arrival = b.does client_for_c (record { image = after the_ask.image r.calls; call = arrival r.answer t.t4.0 r.alternate (take 48 the_reply.octets) })

    pub record Premises : Type 0 where
      pub orderly : Orderly r.exchange
      pub ask_accepted : the_ask.number ≡ 0  -- the ask is given any image, buffer, version, token and uptime, so long as it isn't refused
      pub token_fits : r.token < 2 ^ 64  -- the numbers are values of their types
      pub uptime_fits : r.uptime < 2 ^ 64
      pub synchronised : r.synchronised ≢ 0
      pub set : LegallySet (inner_request request).settings
      pub room : 48 ≤ length r.reply_buffer
      pub permitted : AllPermitted r.token r.uptime r.calls
      pub reply_admitted : the_reply.answer ≢ numbers.number ImageNotLegal
      pub arrival_admitted : the_arrival.number ≢ numbers.number ImageNotLegal

    pub record Conclusions : Type 0 where
      pub refusals : AllRefused the_ask.image r.calls
      pub unchanged : after the_ask.image r.calls ≡ the_ask.image
      pub answered : the_reply.answer ≡ 0
      pub offset : ℤ
      pub half : ℕ
      pub half_0_or_1 : half ≤ 1
      pub accepted_reply : the_arrival.number ≡ 0
      pub answer : the_arrival.answer ≡ answer_in r.answer (accepted offset half (d t))
      pub bound : pos (nat_abs (twice offset +ℤ pos half -ℤ twice (true_difference r.exchange))) ≤ℤ d t

  abbrev pub Demand3ForC : Type 0
  Demand3ForC = (r : Run) → Premises r → Conclusions r

-- Its premises can be met: the exchange of the rules' replay, on 32 zero octets. In between one call of each kind, and an arrival that 46 refuses.
abbrev pub run : Run
run = record {
  exchange = replay;
  image = replicate 32 0;
  buffer = replicate 48 0;
  version = 4;
  token = 7;
  uptime = 0;
  synchronised = 1;
  leap = 0;
  precision = neg_ℤ (pos 20);
  identifier = 0x47505300;
  reference = 0x400000000;
  reply_buffer = replicate 48 0;
  calls =
      ask (replicate 48 0) 4 0xFFFFFFFA80000000 8 1
      ∷ arrival (replicate 24 0) 0xFFFFFFFB00000000 1 (replicate 48 0)
      ∷ arrival (replicate 23 0) 0xFFFFFFFB40000000 0 []
      ∷ give_up 15
      ∷ [];
  answer = replicate 24 0;
  alternate = 1;
}

abbrev pub PremisesMet : Type 0
PremisesMet = Premises ours run
