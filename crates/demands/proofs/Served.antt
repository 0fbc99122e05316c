-- An ask, our server's reply to the 48 octets that it wrote, and what the record that waits for it finds in that reply.
use Rattle.refusals.specs.Given.{Given, answered}
use Rattle.ordered_tests.specs.Tests.{given}
use mathlib.Core.Path.{◌≡◌, refl, sym, ap, subst, ◌∙◌}
use mathlib.Core.Logic.{◌≢◌, inr}
use mathlib.Core.Bool.{Bool, true, false, cond}
use mathlib.Core.List.{List, ◌++◌}
use Prim.Native.Nat.{ℕ, ◌%◌, ◌^◌, ◌≤◌, ◌<◌}
use native.Mathlib.Nat.{mod-eq_of_lt}
use native.Mathlib.Omega.{arith}
use borrow.Author.Tests.{le-ltb}
use lib.IntN.{pos}
use lib.ListN.{length, take, drop}
use lib.Seq.{take-append-le, take_all}
use lib.Signed.{◌≤ℤ◌}
use Rattle.arithmetic.proofs.Integers.{integers, neg}
use Rattle.arithmetic.proofs.Octets.{octets_mod}
use Rattle.timestamp.specs.declared.Timestamp.{Timestamp}
use Rattle.token.specs.declared.Token.{Token}
use Rattle.token.specs.Token.{carried}
use Rattle.timestamp.specs.Timestamp.{timestamp, ◌since◌}
use Rattle.packet.specs.declared.Fields.{Fields}
use Rattle.packet.specs.Packet.{fields_of, octets_of}
use Rattle.packet.specs.RoundTrips as round_trips
use Rattle.packet.proofs.Packet.{length_octets_of}
use Rattle.packet.proofs.RoundTrips.{fields_of_octets_of}
use Rattle.client.specs.declared.Client.{Client}
use Rattle.request.specs.Request.{request, request_fields}
use Rattle.client.specs.Ask.{waiting_for}
use Rattle.request.proofs.Request.{request_octets}
use Rattle.server_packet.specs.declared.Settings.{Settings}
use Rattle.server_packet.specs.declared.Message.{Message}
use Rattle.server_packet.specs.Packet.{synchronised_fields, unsynchronised_fields, packet_fields}
use Rattle.server.specs.Server.{reply_message, reply_fields}
use Rattle.client.specs.Calls as calls
use Rattle.client.specs.Calls.{ask, Outcome}
use Rattle.demands.specs.Form.{refusal, Rules, Gives}
use Rattle.demands.specs.Common.{not_available, no_token, IsPacket, Written, InOrder}
use Rattle.demands.specs.Legal.{Legal}
use Rattle.demands.specs.Ask.{request_sent}
use Rattle.demands.specs.Arrival.{match_rules}
use Rattle.demands.specs.Reply.{Request, LegallySet, written}
use Rattle.demands.specs.Behaviour.{client, reply, form, ours}
use Rattle.demands.proofs.Facts.{of_48}
use Rattle.demands.proofs.Form.{facts, done_so}
use Rattle.demands.proofs.Legal.{waiting_legal}
use Rattle.demands.proofs.Client.{client_meets}
use Rattle.demands.proofs.Reply.{reply_meets}

-- ---- an ask that is not refused

pub record Asked (c : Client) (x : calls.Ask) : Type 0 where
  pub legal : Legal c
  pub version : (1 ≤ x.version) × (x.version ≤ 4)
  pub clock : x.clock ≢ not_available
  pub token : x.token ≢ no_token
  pub is : ours.does client (c, ask x) ≡ request_sent c x

pub asked_is : (c : Client) (x : calls.Ask) → ((form client).shown (ours.does client (c, ask x))).kind ≢ refusal → Asked c x
asked_is c x accepted =
    let (o, (legal, (room, (version, (clock, (token, (running, (free, (late, e))))))))) = facts client_meets (c, ask x) accepted in
    record {
      legal = legal;
      version = version;
      clock = clock;
      token = token;
      is = done_so client_meets (c, ask x) (request_sent c x) (legal, (room, (version, (clock, (token, (running, (free, (late, refl))))))));
    }

-- ---- the 48 octets of fields

-- at the start of a buffer
pub front : (f : Fields) (rest : List ℕ) → take 48 (octets_of f ++ rest) ≡ octets_of f
front f rest =
    let l = length_octets_of f in
    take-append-le 48 (octets_of f) rest (omega arith) ∙ take_all 48 (octets_of f) (omega arith)

-- an identifier and a reference timestamp that are values of their types have the octets of any others
abbrev pub typed : Fields → Fields
typed f = record f { identifier = f.identifier % 256 ^ 4; reference = timestamp (f.reference.0 % 256 ^ 8) }

typed_octets : (f : Fields) → octets_of (typed f) ≡ octets_of f
unfolding octets_of
typed_octets f = rw (octets_mod 4 f.identifier, octets_mod 8 f.reference.0)

-- where they are such values, the fields are the same
pub typed_is : (f : Fields) → f.identifier < 2 ^ 32 → f.reference.0 < 2 ^ 64 → typed f ≡ f
typed_is f id rf =
    let e : f.identifier % 256 ^ 4 ≡ f.identifier = mod-eq_of_lt (omega arith) in
    let r : f.reference.0 % 256 ^ 8 ≡ f.reference.0 = mod-eq_of_lt (omega arith) in
    λ i. record f { identifier = e i; reference = timestamp (r i) }

-- the fields of a packet, of which those that depend on whether the server is synchronised are given
abbrev packet_with : Settings → Message → (leap stratum identifier : ℕ) → (reference receive transmit : Timestamp) → Fields
packet_with s m leap stratum identifier reference receive transmit = record (synchronised_fields s m) {
  leap = leap;
  stratum = stratum;
  identifier = identifier;
  reference = reference;
  receive = receive;
  transmit = transmit;
}

-- the fields of a packet of the server are those of a synchronised server or those of one that is not
pub packet_either : (s : Settings) (m : Message) (Q : Fields → Type 0) → Q (synchronised_fields s m) → Q (unsynchronised_fields s m) → Q (packet_fields s m)
unfolding packet_fields
packet_either s m Q synchronised unsynchronised = go s.synchronised
  where
    go : (b : Bool) → Q (cond b (synchronised_fields s m) (unsynchronised_fields s m))
    go true = synchronised
    go false = unsynchronised

-- a packet of the server is read back as its fields
pub packet_fields_lem : (s : Settings) → LegallySet s → (m : Message) (leap stratum identifier : ℕ) (reference receive transmit : Timestamp)
    → m.version ≤ 7 → m.mode ≤ 7 → m.poll < 2 ^ 8 → m.originate.0 < 2 ^ 64 → leap ≤ 3 → stratum < 2 ^ 8 → receive.0 < 2 ^ 64 → transmit.0 < 2 ^ 64
    → let f = packet_with s m leap stratum identifier reference receive transmit in fields_of (octets_of f) ≡ typed f
packet_fields_lem s set m leap stratum identifier reference receive transmit version mode poll originate l st r t =
    let f = packet_with s m leap stratum identifier reference receive transmit in
    ap fields_of (sym (typed_octets f)) ∙ fields_of_octets_of (typed f) (record {
      small = rw (le-ltb 3 leap l, le-ltb 7 m.version version, le-ltb 7 m.mode mode);
      stratum = st;
      poll = poll;
      precision = record { low = let low = set.precision.0 in omega (arith, integers, neg (pos (2 ^ 7))); high = let high = set.precision.1 in omega (arith, integers) };
      root_delay = record { low = omega (arith, integers); high = omega (arith, integers) };
      root_dispersion = omega arith;
      identifier = omega arith;
      reference = omega arith;
      originate = originate;
      receive = r;
      transmit = t;
    })

-- ---- the request's fields

request_packet : (version : ℕ) (token : Token) → IsPacket (request version token)
request_packet version token = of_48 (request version token) (ap length (sym (request_octets version token)) ∙ length_octets_of (request_fields version token))

module _ (version : ℕ) (token : Token) (small : version ≤ 4) (fits : token.0 < 2 ^ 64) where
  request_legal : round_trips.Legal (request_fields version token)
  request_legal = record {
    small = rw (le-ltb 7 version (omega arith));
    stratum = omega arith;
    poll = omega arith;
    precision = record { low = omega (arith, integers); high = omega (arith, integers) };
    root_delay = record { low = omega (arith, integers); high = omega (arith, integers) };
    root_dispersion = omega arith;
    identifier = omega arith;
    reference = omega arith;
    originate = omega arith;
    receive = omega arith;
    transmit = fits;
  }

  request_fields_lem : fields_of (request version token) ≡ request_fields version token
  request_fields_lem = ap fields_of (sym (request_octets version token)) ∙ fields_of_octets_of (request_fields version token) request_legal

  -- a reply to it is read back as its fields
  pub reply_fields_lem : (s : Settings) → LegallySet s → (leap stratum identifier : ℕ) (reference receive transmit : Timestamp)
      → leap ≤ 3 → stratum < 2 ^ 8 → receive.0 < 2 ^ 64 → transmit.0 < 2 ^ 64
      → let f = packet_with s (reply_message (request_fields version token) receive transmit) leap stratum identifier reference receive transmit in fields_of (octets_of f) ≡ typed f
  reply_fields_lem s set leap stratum identifier reference receive transmit =
      packet_fields_lem s set (reply_message (request_fields version token) receive transmit) leap stratum identifier reference receive transmit (omega arith) (omega arith) (omega arith) fits

-- ---- the server's reply to an ask that is not refused

pub record Served (c : Client) (x : calls.Ask) (s : Settings) (t2 t3 : Timestamp) (buffer : List ℕ) : Type 0 where
  pub asked : Asked c x
  pub fits : x.token.0 < 2 ^ 64
  pub room : 48 ≤ length buffer
  pub set : LegallySet s
  pub available : s.synchronised ≡ true → (t2 ≢ not_available) × (t3 ≢ not_available)
  pub in_order : s.synchronised ≡ true → InOrder (t3 since t2)
  pub hold : s.synchronised ≡ true → pos 0 ≤ℤ (t3 since t2)

module _ {c : Client} {x : calls.Ask} {s : Settings} {t2 t3 : Timestamp} {buffer : List ℕ} (r : Served c x s t2 t3 buffer) where
  abbrev to : List ℕ → Request
  to request = record { settings = s; request = request; t2 = t2; t3 = t3; buffer = buffer }

  abbrev asking : List ℕ
  asking = request x.version x.token

  abbrev pub the_reply : Written (Given (Unit {0}))
  the_reply = ours.does reply (to (take 48 (ours.does client (c, ask x)).octets))

  sent : take 48 (ours.does client (c, ask x)).octets ≡ asking
  sent =
      ap (λ o. take 48 o.octets) r.asked.is
      ∙ subst (λ q. take 48 (q ++ drop 48 x.buffer) ≡ q) (request_octets x.version x.token) (front (request_fields x.version x.token) (drop 48 x.buffer))

  of_request : fields_of asking ≡ request_fields x.version x.token
  of_request = request_fields_lem x.version x.token r.asked.version.1 r.fits

  reply_is : the_reply ≡ written (to asking)
  reply_is =
      ap (λ q. ours.does reply (to q)) sent
      ∙ done_so reply_meets (to asking) (written (to asking)) (
        r.room,
        (
          request_packet x.version x.token,
          (
            ap (λ f. f.mode) of_request,
            (
              rw (ap (λ f. f.version) of_request) r.asked.version,
              (
                r.set,
                (
                  r.available,
                  (r.in_order, (r.hold, refl)),
                ),
              ),
            ),
          ),
        ),
      )

  -- it is written, and its 48 octets are those of its fields
  pub reply_written : the_reply.answer ≡ answered tt
  reply_written = ap (λ w. w.answer) reply_is

  pub reply_octets : take 48 the_reply.octets ≡ octets_of (reply_fields s (request_fields x.version x.token) t2 t3)
  reply_octets =
      ap (λ w. take 48 w.octets) reply_is
      ∙ front (reply_fields s (fields_of asking) t2 t3) (drop 48 buffer)
      ∙ ap (λ f. octets_of (reply_fields s f t2 t3)) of_request

  -- it answers the request of the record that waits for it: the rules up to a kiss
  pub matched : (said : Fields) (t4 : Timestamp) (alternate : Bool) (rest : Rules Outcome) (g : Given Outcome) → fields_of (octets_of said) ≡ typed said → said.originate ≡ carried x.token → said.mode ≡ 4 → said.version ≡ x.version
      → Gives rest g → Gives (match_rules (waiting_for c x.version x.clock x.token x.uptime) (record { packet = octets_of said; t4 = t4; alternate = alternate }) rest) g
  matched said t4 alternate rest g e originate mode version given = inr (
    waiting_legal c x.version x.clock x.token x.uptime r.asked.legal r.asked.version r.asked.clock r.asked.token,
    inr (
      of_48 (octets_of said) (length_octets_of said),
      inr (
        refl,
        inr (
          ap (λ f. f.originate) e ∙ originate,
          inr (
            ap (λ f. f.mode) e ∙ mode,
            inr (ap (λ f. f.version) e ∙ version, given),
          ),
        ),
      ),
    ),
  )
