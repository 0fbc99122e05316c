-- What follows from the tests of a list.
use Prim.Native.Nat.{ℕ, ◌<◌, ◌≤◌}
use mathlib.Core.Path.{◌≡◌, sym, ap}
use mathlib.Core.Bool.{Bool, not, ◌||◌}
use mathlib.Core.List.{List}
use borrow.Author.Tests.{lt-ltb}
use lib.Dec.{T, leb, ltb}
use lib.ListN.{length, get_or, set}
use Rattle.std.proofs.lemmas.List.{get_or_default}
use mir.Facts.{or_no, and_yes, T_not-not, ltb_yes, leb_yes}
use Rattle.std.specs.Prelude.{Option, Result, Ok, Err}
use Rattle.refusals.specs.declared.Refusal.{Refusal}
use Rattle.ordered_tests.specs.Tests.{Tests, between, otherwise, answer, answer_of, kept, tested, pass}
use Rattle.ordered_tests.proofs.Tests.{passed, passes, refused_by, before_refused, before_passed, kept_refused, kept_passing}
use Rattle.client.specs.declared.Client.{Client}
use Rattle.client.specs.declared.Called.{Called}
use Rattle.client.specs.Record.{fresh}
use Rattle.client.specs.Arrival.{arrived}
use Rattle.timestamp.specs.declared.Timestamp.{Timestamp}
use Rattle.reply_checks.specs.declared.ArrivalAnswer.{ArrivalAnswer}
use Rattle.association_rules.specs.InUse.{outside, exists, use_after}
use Rattle.association_rules.specs.declared.ListCalled.{ListCalled}
use Rattle.association_rules.specs.Associations.{association, alternate_of_record, list_tests, list_after, called_for, arrived_at, arrived_for}

-- after 35 the list is short, and the record is in it
module _ (count at in_use : ℕ) (inside : T (not (outside count at in_use))) where
  both : T (not (not (between 1 8 count))) × T (not (not (ltb at count)))
  unfolding outside
  both =
      or_no (not (between 1 8 count)) (not (ltb at count))
      (or_no (not (between 1 8 count) || not (ltb at count)) (not (ltb in_use count)) inside).0

  pub few : count ≤ 8
  few = leb_yes (and_yes (leb 1 count) (leb count 8) (T_not-not (between 1 8 count) both.0)).1

  pub listed : at < count
  listed = ltb_yes (T_not-not (ltb at count) both.1)

module _ (list : List Client) (at in_use : ℕ) where
  abbrev tests : Tests (Unit {0})
  tests = list_tests list at in_use pass

  -- refused: nothing is changed
  module _ {r : Refusal} (e : tested tests ≡ Err r) where
    pub refused_answer : {A : Type 0} (a : Result A Refusal) → Err r ≡ answer Err (list_tests list at in_use (otherwise a))
    refused_answer a = sym (ap (answer_of Err) (before_refused tests (otherwise a) tt (refused_by tests e)))

    pub refused_list : (next : Client) → list ≡ list_after list at in_use next
    refused_list next = sym (kept_refused tests list _ e)

    pub refused_octets : (old new : List ℕ) → old ≡ kept tests old new
    refused_octets old new = sym (kept_refused tests old new e)

  -- not refused: the client's own call
  module _ (e : tested tests ≡ Ok tt) where
    pub has_record : at < length list
    has_record = listed (length list) at in_use (passed tests tt e).0

    taken_answer : {A : Type 0} (a : Result A Refusal) → answer Err (list_tests list at in_use (otherwise a)) ≡ a
    taken_answer a = ap (answer_of Err) (before_passed tests (otherwise a) tt (passes tests (passed tests tt e)))

    pub taken_list : (next : Client) → set list at next ≡ list_after list at in_use next
    taken_list next = sym (kept_passing tests list (set list at next) tt e)

    -- within the list it is all one what is read past its end
    module _ (d : Client) where
      same : get_or list at d ≡ association list at
      same = get_or_default list at d fresh has_record

      pub taken_call : {A : Type 0} (f : Client → Called A) {called : Called A} → called ≡ f (get_or list at d)
          → ◌≡◌ {A = ListCalled A} (record { answer = called.answer; in_use = in_use }) (called_for list at in_use (f (association list at)))
      taken_call f is = rw (is, same, taken_answer (f (association list at)).answer)

      pub taken_octets : (f : Client → List ℕ) {new : List ℕ} (old : List ℕ) → new ≡ f (get_or list at d) → new ≡ kept tests old (f (association list at))
      taken_octets f old is = rw (is, same) (sym (kept_passing tests old (f (association list at)) tt e))

      pub taken_arrival : (packet : List ℕ) (t4 : Timestamp) {called : Called ArrivalAnswer} {a : Option ℕ} {told : Bool}
          → a ≡ alternate_of_record list at
          → told ≡ exists a
          → called ≡ arrived (get_or list at d) packet t4 told
          → ◌≡◌ {A = ListCalled ArrivalAnswer} (record { answer = called.answer; in_use = use_after called.answer a at in_use }) (arrived_for list at in_use packet t4)
      unfolding arrived_for
      taken_arrival packet t4 f t is = rw (is, t, f, lt-ltb at (length list) has_record, same, taken_answer (arrived_at list at packet t4).answer)

-- what the calls on a list use, beside what their own answers name
pub ruleset on_lists = (has_record, refused_answer, refused_list, refused_octets, taken_list)
