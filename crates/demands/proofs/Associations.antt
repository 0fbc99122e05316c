-- A call for an association meets its form.
use Rattle.reply_checks.specs.declared.ArrivalAnswer.{ArrivalAnswer}
use Rattle.ordered_tests.specs.Tests.{given, Tests, otherwise}
use Prim.Native.Nat.{ℕ}
use mathlib.Core.Path.{◌≡◌, refl, ap, ◌∙◌}
use mathlib.Core.Bool.{Bool, true, false}
use mathlib.Core.List.{List, [], ◌∷◌}
use lib.ListN.{length, set}
use lib.Seq.{set-get_or}
use Rattle.std.specs.Prelude.{Result, Ok, Err}
use Rattle.refusals.specs.declared.Refusal.{Refusal}
use Rattle.ordered_tests.specs.Tests as tests
use Rattle.client.specs.declared.Client.{Client}
use Rattle.client.specs.Record.{fresh}
use Rattle.client.specs.Calls as calls
use Rattle.association_rules.specs.InUse as rules
use Rattle.association_rules.specs.Associations.{any_illegal, list_tests, alternate, asked_for, list_after_ask, buffer_after_ask, gave_up_for, list_after_give_up, arrived_at, arrived_for, list_after_arrival}
use Rattle.association_rules.specs.InUse.{outside, exists}
use Rattle.client.specs.Ask.{after_ask}
use Rattle.client.specs.GiveUp.{gave_up}
use Rattle.demands.specs.Client as clients
use Rattle.demands.specs.Client.{call_rules, client}
use Rattle.demands.specs.Associations.{ListCall, ask, arrival, give_up, ListInput, ListOutcome, InList, AllLegal, use_after, at_record, placed, associations, ours}
use Rattle.ordered_tests.proofs.Reflection.{WhereFalse, negated, both, is_false, is_below, within}
use Rattle.demands.proofs.Form.{Meets, Accepted, by, acceptance_shown, kiss_shown, Leads, ◌before◌, inner, around, around_meets}
use Rattle.demands.proofs.Legal.{legal}
use Rattle.demands.proofs.Client.{client_meets, each_told}

-- ---- the two tests

in_list : (list : List Client) (at in_use : ℕ) → WhereFalse (InList list at in_use) (outside (length list) at in_use)
unfolding outside
in_list list at in_use =
    let all = both (both (negated (within 1 8 (length list))) (negated (is_below at (length list)))) (negated (is_below in_use (length list))) in
    record {
      to = λ (some, few, record-in, use-in). all.to (((some, few), record-in), use-in);
      from = λ t. let (((some, few), record-in), use-in) = all.from t in (some, few, record-in, use-in);
    }

all_legal : (list : List Client) → WhereFalse (AllLegal list) (any_illegal list)
unfolding any_illegal
all_legal [] = record { to = λ t. tt; from = λ t. tt }
all_legal (c ∷ rest) = both (legal c) (all_legal rest)

-- ---- the call around the client's

-- the tests before the client's own, and then the client's call at its record
abbrev table : ListInput → Tests (Client × calls.Call)
table i = list_tests i.list i.at i.in_use (otherwise (at_record i))

leads : (i : ListInput) → Leads client (at_record i) (placed i) (table i) (associations.rules i)
leads i = in_list i.list i.at i.in_use before all_legal i.list before inner

module _ (i : ListInput) where
  -- an inner refusal is a refusal by the same number
  refused_so : (n : ℕ) → placed i (client.refusing (at_record i) n) ≡ associations.refusing i n
  refused_so n = same i.call refl
    where
      same : (x : ListCall) → i.call ≡ x → placed i (client.refusing (at_record i) n) ≡ associations.refusing i n
      same (ask x) e = rw e (λ j. record { result = calls.refused n; list = set-get_or i.list i.at fresh j; in_use = i.in_use; octets = x.buffer })
      same (arrival x) e = rw e (λ j. record { result = calls.refused n; list = set-get_or i.list i.at fresh j; in_use = i.in_use; octets = x.packet })
      same (give_up x) e = rw e (λ j. record { result = calls.refused n; list = set-get_or i.list i.at fresh j; in_use = i.in_use; octets = [] })

  -- use stays after an ask and a give-up, and follows the answer of an arrival
  call_use : (a : Result (Unit {0}) Refusal) → i.in_use ≡ use_after (calls.said_call a) (alternate i.list i.at) i.at i.in_use
  call_use (Err r) = refl
  call_use (Ok u) = refl

  arrival_use : (a : Result ArrivalAnswer Refusal) → rules.use_after a (alternate i.list i.at) i.at i.in_use ≡ use_after (calls.said_arrival a) (alternate i.list i.at) i.at i.in_use
  arrival_use (Err r) = refl
  arrival_use (Ok (ArrivalAnswer.Accepted m)) = refl
  arrival_use (Ok (ArrivalAnswer.Kiss code row)) = refl

  -- the client's outcome in its place, with this number in use
  abbrev in_use : calls.Outcome → ℕ → ListOutcome
  in_use o n = record { result = o.result; list = set i.list i.at o.next; in_use = n; octets = o.octets }

  by_call : (x : ListCall) → i.call ≡ x → (a b : Bool) → outside (length i.list) i.at i.in_use ≡ a → any_illegal i.list ≡ b → ours i ≡ around client associations clients.ours placed i (tests.given (table i))
  unfolding asked_for list_after_ask buffer_after_ask gave_up_for list_after_give_up arrived_for list_after_arrival
  by_call (ask x) c true b e f = rw (c, e) refl
  by_call (ask x) c false true e f = rw (c, e, f) refl
  by_call (ask x) c false false e f = rw (c, e, f) (ap (in_use (calls.asks (at_record i).0 x)) (call_use (after_ask (at_record i).0 (length x.buffer) x.version x.clock x.token x.uptime).answer))
  by_call (arrival x) c true b e f = rw (c, e) refl
  by_call (arrival x) c false true e f = rw (c, e, f) refl
  by_call (arrival x) c false false e f =
      rw (c, e, f) (ap (in_use (calls.arrives (at_record i).0 (record { packet = x.packet; t4 = x.t4; alternate = exists (alternate i.list i.at) })))
      (arrival_use (arrived_at i.list i.at x.packet x.t4).answer))
  by_call (give_up x) c true b e f = rw (c, e) refl
  by_call (give_up x) c false true e f = rw (c, e, f) refl
  by_call (give_up x) c false false e f = rw (c, e, f) (ap (in_use (calls.gives_up (at_record i).0 x)) (call_use (gave_up (at_record i).0 x.uptime).answer))

  is_ours : ours i ≡ around client associations clients.ours placed i (tests.given (table i))
  is_ours = by_call i.call refl (outside (length i.list) i.at i.in_use) (any_illegal i.list) refl refl

  -- in the list and with all records legal, the client's call is made at the record
  pub in_place : InList i.list i.at i.in_use → AllLegal i.list → ours i ≡ placed i (calls.step (at_record i).0 (at_record i).1)
  in_place inside legal =
      let e = (is_false (outside (length i.list) i.at i.in_use)).from ((in_list i.list i.at i.in_use).to inside) in
      let f = (is_false (any_illegal i.list)).from ((all_legal i.list).to legal) in
      is_ours ∙ rw (e, f) refl

pub associations_meets : Meets associations ours
associations_meets = around_meets client_meets at_record placed leads is_ours refused_so (λ i n l. by 8 n)
    (λ i. each_told (λ o. Accepted associations (placed i o)) (λ next octets. acceptance_shown) (λ code row next octets. kiss_shown) (λ offset half delay next octets. acceptance_shown) (at_record i).0 (at_record i).1)
