-- The calls for one record of a list, for C (docs/C.md).
use Rattle.std.specs.Prelude.{ℕ, min, Bool, true, cond, not, ◌&&◌, List, [], eqb, length}
use Rattle.refusals.specs.declared.Refusal.TheVariants.{ImageNotLegal}
use Rattle.refusals.specs.Numbers as refusals
use Rattle.ordered_tests.specs.Tests.{Tests, ◌if◌else◌, otherwise, answer}
use Rattle.timestamp.specs.Timestamp.{timestamp}
use Rattle.token.specs.Token as tokens
use Rattle.client.specs.declared.Client.{Client}
use Rattle.client.specs.Calls.{Told, refused, done, accepted, kiss, said_call, said_arrival}
use Rattle.association_rules.specs.Associations as associations
use Rattle.firmware_layouts.specs.Answer.{answer_in}
use Rattle.firmware.specs.Numbers.{number_of}
use Rattle.firmware_list.specs.Images.{is_list, records_in, images_of}

-- what each call is lent and told beside the list, the record's number and the number in use
pub data LentCall : Type 0 where
  ask : (buffer : List ℕ) (version clock token uptime : ℕ) → LentCall
  arrival : (answer : List ℕ) (t4 : ℕ) (packet : List ℕ) → LentCall
  give_up : (uptime : ℕ) → LentCall

-- what the inner call answers and leaves: the records, the number in use, and the buffer of an ask
pub record Outcome : Type 0 where
  pub result : Told
  pub records : List Client
  pub in_use : ℕ
  pub octets : List ℕ

-- the inner call for record `at`: a version that 8 bits do not hold becomes 255
abbrev pub inner : List Client → (at in_use : ℕ) → LentCall → Outcome
inner records at in_use (ask buffer version clock token uptime) = record {
  result = said_call (associations.asked_for records at in_use (length buffer) (min version 255) (timestamp clock) (tokens.token token) uptime).answer;
  records = associations.list_after_ask records at in_use (length buffer) (min version 255) (timestamp clock) (tokens.token token) uptime;
  in_use = in_use;
  octets = associations.buffer_after_ask records at in_use buffer (min version 255) (timestamp clock) (tokens.token token) uptime;
}
inner records at in_use (arrival answer t4 packet) = record {
  result = said_arrival (associations.arrived_for records at in_use packet (timestamp t4)).answer;
  records = associations.list_after_arrival records at in_use packet (timestamp t4);
  in_use = (associations.arrived_for records at in_use packet (timestamp t4)).in_use;
  octets = [];
}
inner records at in_use (give_up uptime) = record {
  result = said_call (associations.gave_up_for records at in_use uptime).answer;
  records = associations.list_after_give_up records at in_use uptime;
  in_use = in_use;
  octets = [];
}

-- an answer slice has 24 octets
abbrev pub slices_fit : LentCall → Bool
slices_fit (ask buffer version clock token uptime) = true
slices_fit (arrival answer t4 packet) = eqb (length answer) 24
slices_fit (give_up uptime) = true

-- 46 is not given
abbrev pub admitted : List ℕ → LentCall → Bool
admitted list x = is_list list && slices_fit x

-- 46 before anything else
abbrev pub list_tests : {A : Type 0} → List ℕ → LentCall → Tests A → Tests A
list_tests list x rest =
    ImageNotLegal if not (admitted list x) else
    rest

-- the number that the call returns
unfoldable pub number : List ℕ → (at in_use : ℕ) → LentCall → ℕ
number list at in_use x = answer refusals.number (list_tests list x (otherwise (number_of (inner (records_in list) at in_use x).result)))

-- the list after it: a refusal leaves it as it was, anything else leaves the images of the records that the inner call leaves
abbrev pub next_list : List ℕ → Told → List Client → List ℕ
next_list list (refused n) records = list
next_list list done records = images_of records
next_list list (accepted offset half delay) records = images_of records
next_list list (kiss code row) records = images_of records

unfoldable pub list_after : List ℕ → (at in_use : ℕ) → LentCall → List ℕ
list_after list at in_use x = let o = inner (records_in list) at in_use x in cond (admitted list x) (next_list list o.result o.records) list

-- the number in use after it
unfoldable pub in_use_after : List ℕ → (at in_use : ℕ) → LentCall → ℕ
in_use_after list at in_use x = cond (admitted list x) (inner (records_in list) at in_use x).in_use in_use

-- the buffer of an ask after it
abbrev pub lent_buffer : LentCall → List ℕ
lent_buffer (ask buffer version clock token uptime) = buffer
lent_buffer (arrival answer t4 packet) = []
lent_buffer (give_up uptime) = []

unfoldable pub buffer_after : List ℕ → (at in_use : ℕ) → LentCall → List ℕ
buffer_after list at in_use x = cond (admitted list x) (inner (records_in list) at in_use x).octets (lent_buffer x)

-- the answer slice that it is lent, and that slice after it
abbrev pub lent_answer : LentCall → List ℕ
lent_answer (ask buffer version clock token uptime) = []
lent_answer (arrival answer t4 packet) = answer
lent_answer (give_up uptime) = []

unfoldable pub answer_after : List ℕ → (at in_use : ℕ) → LentCall → List ℕ
answer_after list at in_use x = cond (admitted list x) (answer_in (lent_answer x) (inner (records_in list) at in_use x).result) (lent_answer x)
