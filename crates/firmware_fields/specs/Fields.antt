-- Extension fields for C (docs/C.md).
use Rattle.std.specs.Prelude.{ℕ, List, Option, None, Some, Result, Ok, Err, ltb, length}
use Rattle.refusals.specs.declared.Refusal.{Refusal}
use Rattle.refusals.specs.Given.{after}
use Rattle.refusals.specs.declared.Refusal.TheVariants.{FieldTooLarge}
use Rattle.ordered_tests.specs.Tests.{Tests, ◌if◌else◌, given, kept}
use Rattle.extension.specs.declared.Cursor.{Cursor}
use Rattle.extension.specs.declared.Field.{Field}
use Rattle.extension_writer.specs.Writer.{add_tests, with_field}

-- ---- where the first field would begin

abbrev pub cursor_after : ℕ → Result Cursor Refusal → ℕ
cursor_after = after (λ c. c.at)

-- ---- what stands at the cursor

-- the five numbers lent
pub record Numbers : Type 0 where
  pub cursor : ℕ
  pub found : ℕ
  pub field_type : ℕ
  pub start : ℕ
  pub end : ℕ

abbrev pub numbers : (cursor found field_type start end : ℕ) → Numbers
numbers cursor found field_type start end = record { cursor = cursor; found = found; field_type = field_type; start = start; end = end }

-- a field is told, with the cursor behind it; at the end of the fields found alone is written, and a refusal writes nothing
abbrev pub numbers_after : Numbers → Result (Option Field) Refusal → Numbers
numbers_after lent (Ok (Some f)) = numbers f.next.at 1 f.field_type f.start f.end
numbers_after lent (Ok None) = numbers lent.cursor 0 lent.field_type lent.start lent.end
numbers_after lent (Err r) = lent

-- ---- a field added

-- a type has 16 bits
abbrev pub field_tests : List ℕ → (size field_type : ℕ) → List ℕ → Tests ℕ
field_tests buffer size field_type body =
    FieldTooLarge if ltb 65535 field_type else
    add_tests buffer size (length body)

abbrev pub add_answer : List ℕ → (size field_type : ℕ) → List ℕ → Result ℕ Refusal
add_answer buffer size field_type body = given (field_tests buffer size field_type body)

-- the packet's length and the buffer after it
abbrev pub size_after : ℕ → Result ℕ Refusal → ℕ
size_after = after (λ new. new)

abbrev pub buffer_after : List ℕ → (size field_type : ℕ) → List ℕ → List ℕ
buffer_after buffer size field_type body = kept (field_tests buffer size field_type body) buffer (with_field buffer size field_type body)
