-- Demand 3 for C holds of ours: the image is that of the record which waits, a call in between is refused and leaves it, and the rest is demand 3.
use Prim.Native.Nat.{ℕ, min, ◌^◌, ◌<◌}
use mathlib.Core.Path.{◌≡◌, refl, sym, ap, subst, ◌∙◌}
use mathlib.Core.Logic.{◌≢◌}
use mathlib.Core.Bool.{Bool, true, false}
use mathlib.Core.List.{List, [], ◌∷◌}
use native.Mathlib.Omega.{arith}
use borrow.Author.Tests.{ne_eqb}
use lib.Dec.{eqb}
use lib.ListN.{get_or, take}
use Rattle.refusals.specs.Numbers.{number}
use Rattle.refusals.specs.declared.Refusal.TheVariants.{ImageNotLegal}
use Rattle.arithmetic.proofs.Modulo.{modulo_below}
use Rattle.token.specs.Token as tokens
use Rattle.client.specs.declared.Client.{Client}
use Rattle.client.specs.declared.Phase.TheVariants.{Waiting}
use Rattle.client.specs.Ask.{waiting_for}
use Rattle.client.specs.Calls as calls
use Rattle.clocks.specs.Exchange.{reading, readings}
use Rattle.firmware_layouts.specs.Image.{image_of, record_in}
use Rattle.firmware_layouts.specs.Answer.{answer_in}
use Rattle.firmware_layouts.specs.Laws.{Typed}
use Rattle.firmware_layouts.proofs.Laws as layouts
use Rattle.firmware.specs.Numbers.{yes, number_of}
use Rattle.firmware.specs.Client as firmware
use Rattle.firmware.specs.Client.{LentCall, ask, arrival, inner}
use Rattle.demands.specs.Form.{refusal}
use Rattle.demands.specs.Common.{Written}
use Rattle.demands.specs.Legal.{Legal}
use Rattle.demands.specs.Client.{call_rules}
use Rattle.demands.specs.Measure.{Four, d}
use Rattle.demands.specs.Behaviour.{client, reply, client_for_c, form, ours}
use Rattle.demands.specs.ForC.{ImageCall, ImageOutcome, Admitted, lent_after, shown, inner_request, returned}
use Rattle.demands.specs.Demand3 as inner-demand
use Rattle.demands.specs.Demand3.{Permitted}
use Rattle.demands.specs.ForCDemand3.{AllPermitted, Run, IsRefused, after, AllRefused, the_ask, request, the_reply, the_arrival, Premises, Conclusions, Demand3ForC}
use Rattle.ordered_tests.proofs.Reflection.{is_true}
use Rattle.demands.proofs.Facts.{some}
use Rattle.demands.proofs.Form.{Accepted, either, facts, outcome_in}
use Rattle.demands.proofs.Legal.{waiting_legal, legal_tested}
use Rattle.demands.proofs.Client.{client_meets}
use Rattle.demands.proofs.Between as between
use Rattle.demands.proofs.Served.{Asked, asked_is}
use Rattle.demands.proofs.Demand3.{demand3}
use Rattle.refusals.specs.Given.{given_number}
use Rattle.demands.proofs.ForC.{reply_same, not_refusal, client_for_c_meets, agrees, not_admitted, refused_in, admitted_tested}

-- ---- a call that returns 0

kind_at_0 : (o : ImageOutcome) → o.number ≡ 0 → (shown o).kind ≢ refusal
kind_at_0 o e = rw e (not_refusal (eqb (get_or o.answer 0 0) 2))

admitted_at_0 : (i : ImageCall) → (ours.does client_for_c i).number ≡ 0 → Admitted i
admitted_at_0 i e = (facts client_for_c_meets i (kind_at_0 (ours.does client_for_c i) e)).1.0

-- the inner call is then not refused
inner_accepted : (c : Client) (x : calls.Call) → number_of (ours.does client (c, x)).result ≡ 0 → ((form client).shown (ours.does client (c, x))).kind ≢ refusal
inner_accepted c x =
    either client_meets (c, x) (λ o. number_of o.result ≡ 0 → ((form client).shown o).kind ≢ refusal)
    (λ n l g e. absurd (some n l e))
    (λ o q e. (outcome_in (Accepted (form client)) (call_rules c x) o (client_meets.proper.others (c, x)) q).0)

-- ---- the calls in between, on the image of a record that waits

module _ (w : Client) (waits : w.phase ≡ Waiting) (image : List ℕ) (is : record_in image ≡ w) where
  is_refused : (x : LentCall) → Permitted w.token w.uptime (inner x) → IsRefused ours image x
  is_refused x p = go (firmware.admitted image x) refl
    where
      i : ImageCall
      i = record { image = image; call = x }

      go : (b : Bool) → firmware.admitted image x ≡ b → IsRefused ours image x
      go false e = record { by = (number ImageNotLegal); listed = tt; is = not_admitted i e }
      go true e =
          let r = between.is_refused w waits (inner x) p in
          let a = (admitted_tested i).from ((is_true (firmware.admitted image x)).to e) in
          record { by = r.by; listed = r.listed; is = agrees i a ∙ ap (λ c. lent_after i (ours.does client (c, inner x))) is ∙ ap (lent_after i) r.is ∙ refused_in i w r.by }

  same : (x : LentCall) → Permitted w.token w.uptime (inner x) → (ours.does client_for_c (record { image = image; call = x })).image ≡ image
  same x p = ap (λ (o : ImageOutcome). o.image) (is_refused x p).is

  all_refused : (xs : List LentCall) → AllPermitted w.token.0 w.uptime xs → AllRefused ours image xs
  all_refused [] p = tt
  all_refused (x ∷ xs) p = (is_refused x p.0, subst (λ m. AllRefused ours m xs) (sym (same x p.0)) (all_refused xs p.1))

  unchanged : (xs : List LentCall) → AllPermitted w.token.0 w.uptime xs → after ours image xs ≡ image
  unchanged [] p = refl
  unchanged (x ∷ xs) p = subst (λ m. after ours m xs ≡ image) (sym (same x p.0)) (unchanged xs p.1)

-- ---- demand 3

module _ (r : Run) (p : Premises ours r) where
  abbrev t : Four
  t = readings r.exchange

  abbrev c : Client
  c = record_in r.image

  abbrev x : calls.Ask
  x = record { buffer = r.buffer; version = min r.version 255; clock = t.t1; token = tokens.token r.token; uptime = r.uptime }

  abbrev asking : ImageCall
  asking = record { image = r.image; call = ask r.buffer r.version t.t1.0 r.token r.uptime }

  admitted : Admitted asking
  admitted = admitted_at_0 asking p.ask_accepted

  asked_as : the_ask ours r ≡ lent_after asking (ours.does client (c, calls.ask x))
  asked_as = agrees asking admitted

  accepted : ((form client).shown (ours.does client (c, calls.ask x))).kind ≢ refusal
  accepted = inner_accepted c (calls.ask x) (sym (ap (λ (o : ImageOutcome). o.number) asked_as) ∙ p.ask_accepted)

  asked : Asked c x
  asked = asked_is c x accepted

  -- the record that waits
  abbrev w : Client
  w = waiting_for c x.version x.clock x.token x.uptime

  next_is : (ours.does client (c, calls.ask x)).next ≡ w
  next_is = ap (λ (o : calls.Outcome). o.next) asked.is

  legal : Legal w
  legal = waiting_legal c x.version x.clock x.token x.uptime asked.legal asked.version asked.clock asked.token

  t1_fits : t.t1.0 < 2 ^ 64
  unfolding reading
  t1_fits = modulo_below _ {n = 2 ^ 64} (omega arith)

  typed : Typed w
  typed = record { t1 = t1_fits; token = p.token_fits; uptime = p.uptime_fits }

  image_is : (the_ask ours r).image ≡ image_of w
  image_is =
      ap (λ (o : ImageOutcome). o.image) (asked_as ∙ ap (lent_after asking) asked.is)
      ∙ layouts.with_image_lem r.image w admitted.0.length_32

  back : record_in (the_ask ours r).image ≡ w
  back = ap record_in image_is ∙ layouts.record_back w typed ((legal_tested w).0 legal)

  octets_are : (the_ask ours r).octets ≡ (ours.does client (c, calls.ask x)).octets
  octets_are = ap (λ (o : ImageOutcome). o.octets) asked_as

  -- ---- the inner run, in which no call comes in between

  abbrev inner_run : inner-demand.Run
  inner_run = record {
    exchange = r.exchange;
    client = c;
    buffer = r.buffer;
    version = x.version;
    token = x.token;
    uptime = r.uptime;
    settings = (inner_request (request ours r)).settings;
    reply_buffer = r.reply_buffer;
    calls = [];
    alternate = yes r.alternate;
  }

  concluded : inner-demand.Conclusions ours inner_run
  concluded = demand3 inner_run (record {
    orderly = p.orderly;
    calls = record {
      ask_accepted = accepted;
      fits = p.token_fits;
      synchronised = rw (ne_eqb r.synchronised 0 p.synchronised) refl;
      set = p.set;
      room = p.room;
      permitted = tt;
    };
  })

  -- the server's reply to the octets of an ask
  abbrev reply_to_lem : List ℕ → Written ℕ
  reply_to_lem octets = returned (ours.does reply (record {
    settings = (inner_request (request ours r)).settings;
    request = take 48 octets;
    t2 = t.t2;
    t3 = t.t3;
    buffer = r.reply_buffer;
  }))

  reply_is : the_reply ours r ≡ returned (inner-demand.the_reply ours t inner_run)
  reply_is = reply_same (request ours r) ∙ ap reply_to_lem octets_are

  -- ---- the arrival

  abbrev arriving : ImageCall
  arriving = record { image = after ours (the_ask ours r).image r.calls; call = arrival r.answer t.t4.0 r.alternate (take 48 (the_reply ours r).octets) }

  image_stays : after ours (the_ask ours r).image r.calls ≡ (the_ask ours r).image
  image_stays = unchanged w refl (the_ask ours r).image back r.calls p.permitted

  arrival_admitted : Admitted arriving
  arrival_admitted = go (firmware.admitted arriving.image arriving.call) refl
    where
      go : (b : Bool) → firmware.admitted arriving.image arriving.call ≡ b → Admitted arriving
      go true e = (admitted_tested arriving).from ((is_true (firmware.admitted arriving.image arriving.call)).to e)
      go false e = absurd (p.arrival_admitted (ap (λ (o : ImageOutcome). o.number) (not_admitted arriving e)))

  arrived_as : the_arrival ours r ≡ lent_after arriving (ours.does client (record_in arriving.image, inner arriving.call))
  arrived_as = agrees arriving arrival_admitted

  -- what the inner arrival tells, of a record and of the octets of a reply
  abbrev told : Client → List ℕ → calls.Told
  told d octets = (ours.does client (d, calls.arrival (record { packet = take 48 octets; t4 = t.t4; alternate = yes r.alternate }))).result

  told_is : told (record_in arriving.image) (the_reply ours r).octets ≡ calls.accepted concluded.offset concluded.half (d t)
  told_is =
      ap (λ d. told d (the_reply ours r).octets) (ap record_in image_stays ∙ back ∙ sym next_is)
      ∙ ap (told (ours.does client (c, calls.ask x)).next) (ap (λ (o : Written ℕ). o.octets) reply_is)
      ∙ concluded.reply

  kept : Conclusions ours r
  kept = record {
    refusals = all_refused w refl (the_ask ours r).image back r.calls p.permitted;
    unchanged = image_stays;
    answered = ap (λ (o : Written ℕ). o.answer) reply_is ∙ ap given_number concluded.calls.answered;
    offset = concluded.offset;
    half = concluded.half;
    half_0_or_1 = concluded.half_0_or_1;
    accepted_reply = ap (λ (o : ImageOutcome). o.number) arrived_as ∙ ap number_of told_is;
    answer = ap (λ (o : ImageOutcome). o.answer) arrived_as ∙ ap (answer_in r.answer) told_is;
    bound = concluded.bound;
  }

pub demand3_for_c : Demand3ForC ours
demand3_for_c = kept
