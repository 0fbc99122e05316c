-- What adding an extension field at the end of a packet gives (docs/RULES.md, "Extension fields"). The packet is the first `size` octets of a buffer.
use Rattle.std.specs.Int.{next_multiple_of}
use Rattle.std.specs.Prelude.{ℕ, ◌+◌, ◌-◌, min, max, Bool, List, ◌++◌, Result, ltb, length, take, drop, replicate}
use Rattle.refusals.specs.declared.Refusal.{Refusal}
use Rattle.refusals.specs.declared.Refusal.TheVariants.{PacketLengthWrong, FieldNotAdded}
use Rattle.ordered_tests.specs.Tests.{Tests, ◌if◌else◌, otherwise, given, kept}
use Rattle.extension.specs.Tail.{maximum_length, Field, octets_of}
use Rattle.extension.specs.Reading.{after_fields, is_malformed}

-- the length of a body of n octets with the fewest zeros behind it that make a multiple of 4 and a field of at least 28
unfoldable pub filled_length : ℕ → ℕ
filled_length n = max 24 (next_multiple_of n 4)

abbrev pub filled_to : ℕ → List ℕ → List ℕ
filled_to n body = body ++ replicate (n - length body) 0

abbrev pub new_field : ℕ → List ℕ → Field
new_field field_type body = record { field_type = field_type; body = filled_to (filled_length (length body)) body }

-- the length of a packet after a field with a body of n octets was added
abbrev pub new_length : ℕ → ℕ → ℕ
new_length size n = size + (4 + filled_length n)

-- there is no room for it in a buffer of this capacity, or in 1024 octets
unfoldable pub no_room : ℕ → ℕ → ℕ → Bool
no_room capacity size n = ltb (min capacity maximum_length) (new_length size n)

-- adding a field with a body of n octets refuses by 7, then 44
unfoldable pub add_tests : List ℕ → ℕ → ℕ → Tests ℕ
add_tests buffer size n =
    PacketLengthWrong if ltb (length buffer) size else
    PacketLengthWrong if is_malformed (take size buffer) else
    FieldNotAdded if ltb 0 (length (after_fields (take size buffer))) else
    FieldNotAdded if no_room (length buffer) size n else
    otherwise (new_length size n)

-- the packet's new length
abbrev pub added : List ℕ → ℕ → List ℕ → Result ℕ Refusal
added buffer size body = given (add_tests buffer size (length body))

-- the packet, the field, and the octets behind it as they were
abbrev pub with_field : List ℕ → ℕ → ℕ → List ℕ → List ℕ
with_field buffer size field_type body = take size buffer ++ octets_of (new_field field_type body) ++ drop (new_length size (length body)) buffer

-- what the buffer holds after adding
abbrev pub added_buffer : List ℕ → ℕ → ℕ → List ℕ → List ℕ
added_buffer buffer size field_type body = kept (add_tests buffer size (length body)) buffer (with_field buffer size field_type body)
