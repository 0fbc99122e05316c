-- What the reader answers.
use Rattle.std.specs.Bool.{then_some}
use Rattle.std.specs.Prelude.{ℕ, ◌+◌, not, List, Option, None, Some, Result, length, drop}
use Rattle.refusals.specs.declared.Refusal.{Refusal}
use Rattle.refusals.specs.declared.Refusal.TheVariants.{PacketLengthWrong}
use Rattle.ordered_tests.specs.Tests.{Tests, ◌if◌else◌, ◌when◌else◌, otherwise, given}
use Rattle.extension.specs.Tail.{header_length}
use Rattle.extension.specs.Reading.{ends_fields, begins_field, stated_type, stated_length, is_malformed}
use Rattle.extension.specs.declared.Cursor.{Cursor}
use Rattle.extension.specs.declared.Field.{Field}

abbrev pub cursor : ℕ → Cursor
cursor at = record { at = at }

-- a packet is refused by 7 before anything of it is handed out
abbrev pub begin_tests : List ℕ → Tests Cursor
begin_tests packet =
    PacketLengthWrong if is_malformed packet else
    otherwise (cursor header_length)

unfoldable pub begun : List ℕ → Result Cursor Refusal
begun packet = given (begin_tests packet)

-- the length of the field that begins the octets t, where one begins
unfoldable pub field_length : List ℕ → Option ℕ
field_length t = then_some (begins_field t) (stated_length t)

-- the field that stands at index at: its type, the two ends of its body, and the cursor behind it. The octets t are those from at on.
abbrev pub field_at : List ℕ → ℕ → Field
field_at t at = record { field_type = stated_type t; start = at + 4; end = at + stated_length t; next = cursor (at + stated_length t) }

abbrev pub next_tests : List ℕ → ℕ → Tests (Option Field)
next_tests t at =
    Some (field_at t at) when begins_field t else
    PacketLengthWrong if not (ends_fields (length t)) else
    otherwise None

-- what stands at a cursor
unfoldable pub next : List ℕ → Cursor → Result (Option Field) Refusal
next packet c = given (next_tests (drop c.at packet) c.at)
