-- Demand 3 for one record of a list holds of ours: calls for the record are refused, calls for others leave it, and the rest is demand 3.
use Rattle.refusals.specs.Given.{Given}
use Prim.Native.Nat.{ℕ, zero, suc, ◌<◌}
use mathlib.Core.Path.{◌≡◌, refl, sym, ap, subst, ◌∙◌}
use mathlib.Core.Logic.{◌≢◌}
use mathlib.Core.Bool.{Bool, true, false}
use mathlib.Core.List.{List, [], ◌∷◌}
use native.Mathlib.Omega.{arith}
use borrow.Author.Tests.{eqb-true, eqb-false}
use lib.Dec.{T, eqb}
use lib.ListN.{length, take, set, length-set}
use lib.Seq.{get_or-set_same, get_or-set_other}
use Rattle.refusals.specs.Numbers as numbers
use Rattle.client.specs.declared.Client.{Client}
use Rattle.client.specs.declared.Phase.TheVariants.{Waiting}
use Rattle.client.specs.Record.{fresh}
use Rattle.client.specs.Ask.{waiting_for}
use Rattle.client.specs.Calls as calls
use Rattle.std.specs.Prelude.{Option, Some, None}
use Rattle.association_rules.specs.Associations.{association, alternate}
use Rattle.association_rules.specs.InUse.{exists}
use Rattle.association_rules.proofs.Alternates.{alternates}
use Rattle.demands.specs.Legal.{Legal}
use Rattle.demands.specs.Client.{call_rules}
use Rattle.demands.specs.Form.{refusal}
use Rattle.demands.specs.Common.{Written}
use Rattle.demands.specs.Behaviour as behaviour
use Rattle.demands.specs.Behaviour.{client, reply, form, ours}
use Rattle.demands.specs.Associations as associations
use Rattle.demands.specs.Associations.{ListCall, ask, arrival, give_up, InList, AllLegal, use_after, client_call, placed, at_record}
use Rattle.demands.specs.Demand3 as one_record
use Rattle.clocks.specs.Exchange.{T1, T2, T3, T4, readings}
use Rattle.demands.specs.Demand3List.{Associations, Numbered, AllPermitted, Run, given, does, left, after, IsRefused, AllRefused, the_ask, the_reply, at_end, the_arrival, Premises, Conclusions, Demand3List}
use Rattle.demands.proofs.Form.{Passes, either, facts, unmapped}
use Rattle.demands.proofs.Legal.{waiting_legal}
use Rattle.demands.proofs.Associations.{associations_meets, in_place}
use Rattle.demands.proofs.Demand1.{next_legal}
use Rattle.demands.proofs.Between.{stays}
use Rattle.demands.proofs.Served.{Asked, asked_is}
use Rattle.demands.proofs.Demand3.{demand3}
use Rattle.demands.proofs.SeveralServers.{stepped}

-- ---- lists of legal records

legal_at : (list : List Client) (k : ℕ) → AllLegal list → k < length list → Legal (association list k)
legal_at [] k legal h = absurd (omega arith)
legal_at (c ∷ rest) zero (first, others) h = first
legal_at (c ∷ rest) (suc k) (first, others) h = legal_at rest k others (omega arith)

set_legal : (list : List Client) (k : ℕ) (next : Client) → AllLegal list → Legal next → AllLegal (set list k next)
set_legal [] k next legal l = tt
set_legal (c ∷ rest) zero next (first, others) l = (l, others)
set_legal (c ∷ rest) (suc k) next (first, others) l = (first, set_legal rest k next others l)

-- the number in use stays in the list
stays_in_list : (list : List Client) (r : calls.Told) (a : Option ℕ) (at in_use : ℕ) → at < length list → in_use < length list → alternate list at ≡ a → use_after r a at in_use < length list
stays_in_list list (calls.refused n) a at in_use inside used e = used
stays_in_list list calls.done a at in_use inside used e = used
stays_in_list list (calls.accepted offset half delay) a at in_use inside used e = used
stays_in_list list (calls.kiss code row) None at in_use inside used e = used
stays_in_list list (calls.kiss code row) (Some i) at in_use inside used e = go (eqb at in_use) refl
  where
    go : (b : Bool) → eqb at in_use ≡ b → use_after (calls.kiss code row) (Some i) at in_use < length list
    go true s = rw s (alternates.in_list list at i e inside).0
    go false s = rw s used

-- ---- the calls in between

-- the record `at` of a list of legal records is w, which waits
module _ (at : ℕ) (w : Client) (waits : w.phase ≡ Waiting) where
  record Sound (s : Associations) : Type 0 where
    pub inside : InList s.list at s.in_use
    pub legal : AllLegal s.list
    pub same : association s.list at ≡ w

  -- a call for another record leaves it so
  other_kept : (s : Associations) (x : Numbered) → x.at ≢ at → Sound s → Sound (left ours (does ours s x))
  other_kept s x other sound = stepped s x Sound sound (λ o inside legal p.
      let n = length-set s.list x.at o.next in
      let used = stays_in_list s.list o.result (alternate s.list x.at) x.at s.in_use inside.2 inside.3 refl in
      record {
        inside = (omega (arith, n, sound.inside.0), omega (arith, n, sound.inside.1), omega (arith, n, sound.inside.2), omega (arith, n, used));
        legal = set_legal s.list x.at o.next legal (next_legal (at_record (given ours s x)).0 (at_record (given ours s x)).1 o (legal_at s.list x.at legal inside.2) p);
        same = get_or-set_other s.list x.at at o.next fresh (λ e. other (sym e)) ∙ sound.same;
      })

  module _ (s : Associations) (x : Numbered) (here : x.at ≡ at) (permitted : (told : Bool) → one_record.Permitted w.token w.uptime (client_call told x.call)) (sound : Sound s) where
    -- a permitted call for it is refused
    refused_here : IsRefused ours s x
    refused_here =
        let i = given ours s x in
        let (n, listed, e) = either associations_meets i (λ o. (n : ℕ) × T (numbers.listed n) × (o ≡ (form behaviour.association).refusing i n))
        (λ n l g. (n, l, refl))
        (λ o (inside, (legal, q)).
        let (a, p, e) = unmapped (placed i) (call_rules (at_record i).0 (at_record i).1) o q in
        let is : association s.list x.at ≡ w = ap (association s.list) here ∙ sound.same in
        absurd (stays w waits (at_record i).1 a (permitted (exists (alternate s.list x.at))) (subst (λ c. Passes (call_rules c (at_record i).1) a) is p))) in
        record { by = n; listed = listed; is = e }

    here_kept : Sound (left ours (does ours s x))
    here_kept = subst (λ o. Sound (left ours o)) (sym refused_here.is) sound

  all_kept : (xs : List Numbered) (s : Associations) → AllPermitted at w.token w.uptime xs → Sound s → AllRefused ours at s xs × Sound (after ours s xs)
  all_kept [] s permitted sound = (tt, sound)
  all_kept (x ∷ xs) s (first, others) sound =
      let (refusals, kept) = all_kept xs (left ours (does ours s x)) others (next (eqb x.at at) refl) in
      ((λ here. refused_here s x here (first here) sound, refusals), kept)
    where
      next : (b : Bool) → eqb x.at at ≡ b → Sound (left ours (does ours s x))
      next true e = let here = eqb-true x.at at e in here_kept s x here (first here) sound
      next false e = other_kept s x (eqb-false x.at at e) sound

-- ---- the whole run

module _ (r : Run) (p : Premises ours r) where
  abbrev c : Client
  c = association r.before.list r.at

  abbrev x : calls.Ask
  x = record { buffer = r.buffer; version = r.version; clock = T1 r.exchange; token = r.token; uptime = r.uptime }

  abbrev asking : Numbered
  asking = record { at = r.at; call = ask x }

  abbrev w : Client
  w = waiting_for c r.version (T1 r.exchange) r.token r.uptime

  abbrev input : associations.ListInput
  input = given ours r.before asking

  -- the ask was made in the list, with all records legal
  inside_legal : InList r.before.list r.at r.before.in_use × AllLegal r.before.list
  inside_legal = let (o, (inside, (legal, q))) = facts associations_meets input p.ask_accepted in (inside, legal)

  ask_is : the_ask ours r ≡ placed input (calls.step c (calls.ask x))
  ask_is = in_place input inside_legal.0 inside_legal.1

  not_refused : ((form client).shown (ours.does client (c, calls.ask x))).kind ≢ refusal
  not_refused = subst (λ o. ((form behaviour.association).shown o).kind ≢ refusal) ask_is p.ask_accepted

  own : Asked c x
  own = asked_is c x not_refused

  left_is : left ours (the_ask ours r) ≡ record { list = set r.before.list r.at w; in_use = r.before.in_use }
  left_is = ap (left ours) (ask_is ∙ ap (placed input) own.is)

  sound : Sound r.at w refl (left ours (the_ask ours r))
  sound =
      let (inside, legal) = inside_legal in
      let n = length-set r.before.list r.at w in
      subst (Sound r.at w refl) (sym left_is) (record {
        inside = (omega (arith, n, inside.0), omega (arith, n, inside.1), omega (arith, n, inside.2), omega (arith, n, inside.3));
        legal = set_legal r.before.list r.at w legal (waiting_legal c r.version (T1 r.exchange) r.token r.uptime own.legal own.version own.clock own.token);
        same = get_or-set_same r.before.list r.at w fresh inside.2;
      })

  between : AllRefused ours r.at (left ours (the_ask ours r)) r.calls × Sound r.at w refl (at_end ours r)
  between = all_kept r.at w refl r.calls (left ours (the_ask ours r)) p.permitted sound

  -- the same run of the record by itself, with no call in between
  abbrev run : one_record.Run
  run = record {
    exchange = r.exchange;
    client = c;
    buffer = r.buffer;
    version = r.version;
    token = r.token;
    uptime = r.uptime;
    settings = r.settings;
    reply_buffer = r.reply_buffer;
    calls = [];
    alternate = exists (alternate (at_end ours r).list r.at);
  }

  by_itself : one_record.Conclusions ours run
  by_itself = demand3 run (record {
    orderly = p.orderly;
    calls = record { ask_accepted = not_refused; fits = p.fits; synchronised = p.synchronised; set = p.set; room = p.room; permitted = tt };
  })

  abbrev replied : List ℕ → Written (Given (Unit {0}))
  replied octets = ours.does reply (record { settings = r.settings; request = take 48 octets; t2 = T2 r.exchange; t3 = T3 r.exchange; buffer = r.reply_buffer })

  octets_are : (the_ask ours r).octets ≡ (one_record.the_ask ours (readings r.exchange) run).octets
  octets_are = ap (λ o. o.octets) ask_is

  record_is : association (at_end ours r).list r.at ≡ (one_record.the_ask ours (readings r.exchange) run).next
  record_is = between.1.same ∙ sym (ap (λ (o : calls.Outcome). o.next) own.is)

  arriving : (the_arrival ours r).result ≡ (one_record.the_arrival ours (readings r.exchange) run).result
  arriving =
      ap (λ o. o.result) (in_place (given ours (at_end ours r) (record { at = r.at; call = arrival (record { packet = take 48 (the_reply ours r).octets; t4 = T4 r.exchange }) })) between.1.inside between.1.legal)
      ∙ (λ j. (calls.step (record_is j) (calls.arrival (record { packet = take 48 (replied (octets_are j)).octets; t4 = T4 r.exchange; alternate = run.alternate }))).result)

  concluded : Conclusions ours r
  concluded = record {
    refusals = between.0;
    unchanged = between.1.same ∙ sym sound.same;
    answered = ap (λ octets. (replied octets).answer) octets_are ∙ by_itself.calls.answered;
    offset = by_itself.offset;
    half = by_itself.half;
    half_0_or_1 = by_itself.half_0_or_1;
    reply = arriving ∙ by_itself.reply;
    bound = by_itself.bound;
  }

pub demand3_list : Demand3List ours
demand3_list = concluded
