-- Demand 3 for clocks that tick holds of ours: the server answers the request, and the client that still waits accepts the reply, or refuses it by 18.
use Rattle.refusals.specs.Given.{Given, refused, answered}
use Rattle.ordered_tests.specs.Tests.{given}
use mathlib.Core.Path.{◌≡◌, refl, sym, ap, subst, ◌∙◌}
use mathlib.Core.Logic.{◌⊎◌, ⊎_map, inl, inr}
use Prim.Native.Nat.{ℕ, ◌^◌, ◌<◌}
use native.Mathlib.Decide.{dec_lt}
use native.Mathlib.Omega.{arith}
use lib.IntN.{ℤ, pos, nat_abs, ◌+ℤ◌}
use lib.Signed.{◌≤ℤ◌}
use Rattle.refusals.specs.Numbers.{number}
use Rattle.refusals.specs.declared.Refusal.TheVariants.{DelayNegative}
use Rattle.arithmetic.proofs.Integers.{up, dn, integers}
use Rattle.timestamp.specs.Timestamp.{◌since◌}
use Rattle.offset.proofs.Halving.{halving}
use Rattle.clocks.specs.Exchange.{Exchange}
use Rattle.clocks.specs.Ticks.{readings, Orderly}
use Rattle.clocks.proofs.Exchange.{reading_below, timely, bounded}
use Rattle.packet.specs.declared.Fields.{Fields}
use Rattle.packet.specs.Packet.{fields_of, octets_of}
use Rattle.client.specs.declared.Client.{Client}
use Rattle.client.specs.Ask.{waiting_for}
use Rattle.client.specs.Calls as calls
use Rattle.client.specs.Calls.{Call, arrival, Outcome}
use Rattle.request.specs.Request.{request_fields}
use Rattle.server_packet.specs.Packet.{synchronised_fields, packet_fields}
use Rattle.server.specs.Server.{reply_message, reply_fields}
use Rattle.demands.specs.Form.{◌unless◌then◌, does, Gives, outcome}
use Rattle.demands.specs.Common.{InOrder}
use Rattle.demands.specs.Arrival.{accepted, sanity_rules, arrival_rules}
use Rattle.demands.specs.Measure.{Four, four_rules, P, Q, d, offset, half}
use Rattle.demands.specs.Behaviour.{client, form, ours}
use Rattle.demands.specs.Demand3.{Run, after, AllRefused, the_ask, reply_arriving}
use Rattle.demands.specs.Ticks.{Premises, TooShort, Accepted, Conclusions, Ticks}
use Rattle.demands.proofs.Form.{does_it}
use Rattle.demands.proofs.Client.{client_meets}
use Rattle.demands.proofs.Between.{all_refused, unchanged}
use Rattle.demands.proofs.Served.{asked_is, Served, typed, reply_fields_lem, reply_written, reply_octets, matched}

-- less than half a circle apart
pub ordered : (z : ℤ) → nat_abs z < 2 ^ 63 → InOrder z
ordered z low h = omega arith

module _ (m n : ℕ) (e : Exchange) (orderly : Orderly m n e) where
  abbrev four : Four
  four = readings m n e

  pub all_in_order : InOrder (four.t4 since four.t1) × InOrder (four.t3 since four.t2) × InOrder (P four) × InOrder (Q four)
  all_in_order =
      let k = timely m n e orderly in
      (ordered (four.t4 since four.t1) k.trip_small, ordered (four.t3 since four.t2) k.hold_small, ordered (P four) k.first_small, ordered (Q four) k.second_small)

  -- every rule of the four readings holds but for 18
  but_18 : {O : Type 0} (o : O) (g : Given O) → Gives (DelayNegative unless pos 0 ≤ℤ d four then does o) g → Gives (four_rules four (does o)) g
  but_18 o g given =
      let k = timely m n e orderly in
      let (trip, hold, first, second) = all_in_order in
      inr (trip, inr (k.arrived_after, inr (k.within_limit, inr (hold, inr (k.answered_after, ⊎_map (λ x. x) (λ (h, is). (h, inr (first, inr (second, inr (k.same_side h, is))))) given)))))

module _ (m n : ℕ) (r : Run) (p : Premises m n ours r) where
  abbrev e : Exchange
  e = r.exchange

  abbrev t : Four
  t = readings m n e

  abbrev x : calls.Ask
  x = record { buffer = r.buffer; version = r.version; clock = t.t1; token = r.token; uptime = r.uptime }

  served : Served r.client x r.settings t.t2 t.t3 r.reply_buffer
  served = record {
    asked = asked_is r.client x p.calls.ask_accepted;
    fits = p.calls.fits;
    room = p.calls.room;
    set = p.calls.set;
    available = λ z. (p.orderly.nonzero.1, p.orderly.nonzero.2);
    in_order = λ z. (all_in_order m n e p.orderly).1;
    hold = λ z. (timely m n e p.orderly).answered_after;
  }

  -- the record that the ask hands back, and the fields of the reply
  abbrev w : Client
  w = waiting_for r.client r.version t.t1 r.token r.uptime

  abbrev said : Fields
  said = synchronised_fields r.settings (reply_message (request_fields r.version r.token) t.t2 t.t3)

  octets_are : octets_of (reply_fields r.settings (request_fields r.version r.token) t.t2 t.t3) ≡ octets_of said
  unfolding packet_fields
  octets_are = rw p.calls.synchronised

  of_reply : fields_of (octets_of said) ≡ typed said
  of_reply =
      reply_fields_lem r.version r.token served.asked.version.1 served.fits r.settings p.calls.set r.settings.leap 1 r.settings.identifier r.settings.reference
      t.t2 t.t3 (let l = p.calls.set.leap in omega arith) (omega arith) (reading_below n e.server e.received) (reading_below n e.server e.answered)

  -- its arrival
  abbrev y : calls.Arrival
  y = record { packet = octets_of said; t4 = t.t4; alternate = r.alternate }

  abbrev with : Fields → Four
  with f = record { t1 = t.t1; t2 = f.receive; t3 = f.transmit; t4 = t.t4 }

  gives : (g : Given Outcome) → Gives (DelayNegative unless pos 0 ≤ℤ d t then does (accepted w y)) g → Gives (arrival_rules w y) g
  gives g given = matched served said t.t4 r.alternate (sanity_rules w y) g of_reply refl refl refl (inr (
    (λ z. let q = ap (λ f. f.stratum) of_reply in omega arith),
    inr (
      p.orderly.nonzero.3,
      inr (
        (λ z. let q = ap (λ f. f.leap) of_reply in let l = p.calls.set.leap in omega arith),
        inr (
          (let q = ap (λ f. f.stratum) of_reply in omega arith),
          inr (
            ((λ z. p.orderly.nonzero.1 (sym (ap (λ f. f.receive) of_reply) ∙ z)), (λ z. p.orderly.nonzero.2 (sym (ap (λ f. f.transmit) of_reply) ∙ z))),
            inr (
              (let q = ap (λ f. f.root_delay) of_reply in omega (arith, integers)),
              inr (
                (let q = ap (λ f. f.root_dispersion) of_reply in omega arith),
                subst (λ f. Gives (four_rules (with f) (does (accepted w y))) g) (sym of_reply) (but_18 m n e p.orderly (accepted w y) g given),
              ),
            ),
          ),
        ),
      ),
    ),
  ))

  after_is : after ours (the_ask ours t r).next r.calls ≡ w
  after_is = ap (λ (o : Outcome). after ours o.next r.calls) served.asked.is ∙ unchanged w refl r.calls p.calls.permitted

  arriving_is : reply_arriving ours t r ≡ (w, arrival y)
  arriving_is = λ i. (after_is i, arrival (record { packet = (reply_octets served ∙ octets_are) i; t4 = t.t4; alternate = r.alternate }))

  arrival_is : (g : Given Outcome) → Gives (DelayNegative unless pos 0 ≤ℤ d t then does (accepted w y)) g → ours.does client (reply_arriving ours t r) ≡ outcome (form client) (w, arrival y) g
  arrival_is g given = ap (ours.does client) arriving_is ∙ does_it client_meets.answers (w, arrival y) g (gives g given)

  reply : Dec (up (d t) < dn (d t)) → TooShort m n ours r ⊎ Accepted m n ours r
  reply (yes l) = inl (record {
    negative = omega (arith, integers);
    reply = arrival_is (refused (number DelayNegative)) (inl ((λ h. omega (arith, integers)), refl)) ∙ sym (ap (λ (i : Client × Call). (form client).refusing i (number DelayNegative)) arriving_is);
  })
  reply (no f) = inr (record {
    offset = offset t;
    half = half t;
    half_0_or_1 = (halving (P t +ℤ Q t)).small;
    reply = ap (λ (o : Outcome). o.result) (arrival_is (answered (accepted w y)) (inr (omega (arith, integers), refl))) ∙ ap (λ f. calls.accepted (offset (with f)) (half (with f)) (d (with f))) of_reply;
    in_bound = bounded m n e p.orderly;
  })

  pub conclusions : Conclusions m n ours r
  conclusions = record {
    calls = record {
      refusals = subst (λ (o : Outcome). AllRefused ours o.next r.calls) (sym served.asked.is) (all_refused w refl r.calls p.calls.permitted);
      unchanged = after_is ∙ sym (ap (λ (o : Outcome). o.next) served.asked.is);
      answered = reply_written served;
    };
    reply = reply (dec_lt (up (d t)) (dn (d t)));
  }

pub ticks : Ticks ours
ticks = conclusions
