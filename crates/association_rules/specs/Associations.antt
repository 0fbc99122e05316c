-- A gateway's list of 1 to 8 client records in order of preference, of which one is in use (docs/RULES.md, "Associations").
use Rattle.std.specs.Prelude.{ℕ, zero, suc, ◌+◌, ◌-◌, ◌%◌, Bool, cond, Option, None, Some, Result, Err, List, length, get_or, set, ltb}
use Rattle.std.specs.List.{list_any}
use Rattle.refusals.specs.declared.Refusal.{Refusal}
use Rattle.refusals.specs.declared.Refusal.TheVariants.{NotInList, RecordNotLegal}
use Rattle.ordered_tests.specs.Tests.{Tests, ◌if◌else◌, otherwise, answer, pass, kept}
use Rattle.timestamp.specs.declared.Timestamp.{Timestamp}
use Rattle.token.specs.declared.Token.{Token}
use Rattle.reply_checks.specs.declared.ArrivalAnswer.{ArrivalAnswer}
use Rattle.client.specs.declared.Client.{Client}
use Rattle.client.specs.declared.Called.{Called}
use Rattle.client.specs.Record.{fresh, is_stopped, illegal}
use Rattle.client.specs.Ask.{after_ask, after_ask_buffer}
use Rattle.client.specs.Arrival.{arrived}
use Rattle.client.specs.GiveUp.{gave_up}
use Rattle.association_rules.specs.InUse.{outside, exists, use_after}
use Rattle.association_rules.specs.declared.ListCalled.{ListCalled}

-- ---- the tests before the client's own

unfoldable pub any_illegal : List Client → Bool
any_illegal list = list_any illegal list

abbrev pub list_tests : {A : Type 0} → List Client → (at in_use : ℕ) → Tests A → Tests A
list_tests list at in_use rest =
    NotInList if outside (length list) at in_use else
    RecordNotLegal if any_illegal list else
    rest

-- ---- the record that a call is for, and its alternate

-- past the end of the list, where 35 is given, any record will do
abbrev pub association : List Client → ℕ → Client
association list at = get_or list at fresh

-- the number k places after `at`, round a list of this count
abbrev pub round : (count at k : ℕ) → ℕ
round count at k = (at + k) % count

-- of the `left` records from k places after `at` on, round a list of this count: the first that is not stopped
unfoldable pub first_running : ℕ → List Client → (at k left : ℕ) → Option ℕ
first_running count list at k zero = None
first_running count list at k (suc left) =
    cond (is_stopped (association list (round count at k)).phase) (first_running count list at (suc k) left) (Some (round count at k))

-- the first other record after `at`, wrapping past the end, that is not stopped
abbrev pub alternate_of : ℕ → List Client → ℕ → Option ℕ
alternate_of count list at = first_running count list at 1 (count - 1)

abbrev pub alternate : List Client → ℕ → Option ℕ
alternate list at = alternate_of (length list) list at

-- as the code has it: a record that is not in the list has none
abbrev pub alternate_of_record : List Client → ℕ → Option ℕ
alternate_of_record list at = cond (ltb at (length list)) (alternate list at) None

-- ---- what a call answers, and the list that it leaves

-- the list with the record that the client hands back in its place; after 35 and 29 as it was
abbrev pub list_after : List Client → (at in_use : ℕ) → Client → List Client
list_after list at in_use next = kept (list_tests list at in_use pass) list (set list at next)

-- a refused call leaves the number in use as it was
abbrev pub refused_for : {T : Type 0} → Refusal → ℕ → ListCalled T
refused_for r in_use = record { answer = Err r; in_use = in_use }

-- an ask or a give-up, of which the client makes this: use does not move
abbrev pub called_for : {T : Type 0} → List Client → (at in_use : ℕ) → Called T → ListCalled T
called_for list at in_use called = record {
  answer = answer Err (list_tests list at in_use (otherwise called.answer));
  in_use = in_use;
}

-- ask, in a buffer of `room` octets
unfoldable pub asked_for : List Client → (at in_use room version : ℕ) → Timestamp → Token → ℕ → ListCalled (Unit {0})
asked_for list at in_use room version clock token uptime = called_for list at in_use (after_ask (association list at) room version clock token uptime)

unfoldable pub list_after_ask : List Client → (at in_use room version : ℕ) → Timestamp → Token → ℕ → List Client
list_after_ask list at in_use room version clock token uptime = list_after list at in_use (after_ask (association list at) room version clock token uptime).client

unfoldable pub buffer_after_ask : List Client → (at in_use : ℕ) → List ℕ → ℕ → Timestamp → Token → ℕ → List ℕ
buffer_after_ask list at in_use buffer version clock token uptime =
    kept (list_tests list at in_use pass) buffer (after_ask_buffer (association list at) buffer version clock token uptime)

-- give up
unfoldable pub gave_up_for : List Client → (at in_use uptime : ℕ) → ListCalled (Unit {0})
gave_up_for list at in_use uptime = called_for list at in_use (gave_up (association list at) uptime)

unfoldable pub list_after_give_up : List Client → (at in_use uptime : ℕ) → List Client
list_after_give_up list at in_use uptime = list_after list at in_use (gave_up (association list at) uptime).client

-- arrival: the record is told whether it has an alternate
abbrev pub arrived_at : List Client → ℕ → List ℕ → Timestamp → Called ArrivalAnswer
arrived_at list at packet t4 = arrived (association list at) packet t4 (exists (alternate list at))

abbrev pub arrival_answer_for : List Client → (at in_use : ℕ) → List ℕ → Timestamp → Result ArrivalAnswer Refusal
arrival_answer_for list at in_use packet t4 = answer Err (list_tests list at in_use (otherwise (arrived_at list at packet t4).answer))

unfoldable pub arrived_for : List Client → (at in_use : ℕ) → List ℕ → Timestamp → ListCalled ArrivalAnswer
arrived_for list at in_use packet t4 = record {
  answer = arrival_answer_for list at in_use packet t4;
  in_use = use_after (arrival_answer_for list at in_use packet t4) (alternate list at) at in_use;
}

unfoldable pub list_after_arrival : List Client → (at in_use : ℕ) → List ℕ → Timestamp → List Client
list_after_arrival list at in_use packet t4 = list_after list at in_use (arrived_at list at packet t4).client
