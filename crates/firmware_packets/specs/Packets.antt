-- What the calls for C on timestamps and on a packet's fields return and write, given what the inner call answers (docs/C.md).
use Rattle.std.specs.Prelude.{ℕ, Bool, ◌||◌, List, [], ◌∷◌, ltb, ℤ, get_or, Option, Result, ok_or}
use Rattle.arithmetic.specs.TwosComplement.{signed, bits}
use Rattle.refusals.specs.declared.Refusal.{Refusal}
use Rattle.refusals.specs.Given.{result_number, after}
use Rattle.refusals.specs.declared.Refusal.TheVariants.{NoOrder, BufferTooShort, FieldTooLarge}
use Rattle.ordered_tests.specs.Tests.{Tests, ◌if◌else◌, given, kept}
use Rattle.timestamp.specs.Timestamp.{timestamp, ◌since◌, ordered}
use Rattle.offset.specs.declared.Measurement.{Measurement}
use Rattle.offset.specs.Offset.{measured}
use Rattle.packet.specs.declared.Fields.{Fields}
use Rattle.packet.specs.Packet as packet

-- ---- two timestamps

abbrev pub difference_of : (x y : ℕ) → Option ℤ
difference_of x y = ordered (timestamp x since timestamp y)

abbrev pub difference_number : Option ℤ → ℕ
difference_number d = result_number (ok_or d NoOrder)

abbrev pub difference_after : ℤ → Option ℤ → ℤ
difference_after lent d = after (λ units. units) lent (ok_or d NoOrder)

-- ---- four timestamps

abbrev pub measure : (t1 t2 t3 t4 : ℕ) → Result Measurement Refusal
measure t1 t2 t3 t4 = measured (timestamp t1) (timestamp t2) (timestamp t3) (timestamp t4)

-- the three numbers lent
abbrev pub measurement : ℤ → ℕ → ℤ → Measurement
measurement offset half delay = record { offset = offset; half = half; delay = delay }

abbrev pub measurement_after : Measurement → Result Measurement Refusal → Measurement
measurement_after = after (λ m. m)

-- ---- the fields of a packet, thirteen numbers

-- the fields as C reads them: precision and root delay, which are signed, by their bits
unfoldable pub numbers_of : Fields → List ℕ
numbers_of f =
    f.leap ∷ f.version ∷ f.mode ∷ f.stratum ∷ f.poll ∷ bits 8 f.precision ∷ bits 32 f.root_delay ∷ f.root_dispersion ∷ f.identifier
    ∷ f.reference.0 ∷ f.originate.0 ∷ f.receive.0 ∷ f.transmit.0 ∷ []

abbrev pub fields_after : List ℕ → Result Fields Refusal → List ℕ
fields_after = after numbers_of

abbrev pub at : ℕ → List ℕ → ℕ
at i n = get_or n i 0

-- whether a number is over the 8 or 32 bits of its field
abbrev pub too_wide : List ℕ → Bool
too_wide n =
    ltb 255 (at 0 n) || ltb 255 (at 1 n) || ltb 255 (at 2 n) || ltb 255 (at 3 n) || ltb 255 (at 4 n) || ltb 255 (at 5 n)
    || ltb 4294967295 (at 6 n) || ltb 4294967295 (at 7 n) || ltb 4294967295 (at 8 n)

-- the fields that C writes
unfoldable pub fields_in : List ℕ → Fields
fields_in n = record {
  leap = at 0 n;
  version = at 1 n;
  mode = at 2 n;
  stratum = at 3 n;
  poll = at 4 n;
  precision = signed 8 (at 5 n);
  root_delay = signed 32 (at 6 n);
  root_dispersion = at 7 n;
  identifier = at 8 n;
  reference = timestamp (at 9 n);
  originate = timestamp (at 10 n);
  receive = timestamp (at 11 n);
  transmit = timestamp (at 12 n);
}

-- the refusals of the inner call, 1 and then 27; a number that is too wide for its field is refused by 27 too
abbrev pub write_tests : (numbers buffer : List ℕ) → Tests (Unit {0})
write_tests numbers buffer =
    BufferTooShort if packet.too_short buffer else
    FieldTooLarge if too_wide numbers else
    packet.write_tests buffer (fields_in numbers)

abbrev pub write_answer : (numbers buffer : List ℕ) → Result (Unit {0}) Refusal
write_answer numbers buffer = given (write_tests numbers buffer)

abbrev pub buffer_after : (numbers buffer : List ℕ) → List ℕ
buffer_after numbers buffer = kept (write_tests numbers buffer) buffer (packet.written buffer (fields_in numbers))
