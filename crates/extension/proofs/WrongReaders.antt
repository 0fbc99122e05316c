-- Each wrong reader fails at a packet of one field, of 28 octets. Assumes nothing.
use Prim.Native.Nat.{ℕ, ◌^◌, ◌<◌}
use native.Mathlib.Omega.{arith}
use mathlib.Core.Path.{◌≡◌, refl, sym, ap, ◌∙◌}
use mathlib.Core.Bool.{Bool, false}
use mathlib.Core.List.{List, [], ◌∷◌, ◌++◌, append-nil}
use lib.ListN.{replicate}
use Rattle.std.specs.Prelude.{None}
use Rattle.refusals.specs.Given.{answered}
use Rattle.extension.specs.declared.Cursor.{Cursor}
use Rattle.extension.specs.Tail.{header_length, Field, octets_of, end, field, WellFormed}
use Rattle.extension.specs.Reader.{cursor}
use Rattle.extension.specs.ReaderLaws.{Reader, reads, Walk, hand}
use Rattle.extension.specs.WrongReaders.{hands_out_nothing, unless_unknown, stops_at_unknown, Refuted}
use Rattle.extension.proofs.Front.{length_field}
use Rattle.extension.proofs.Walks.{reader_laws}

module _ (field_type : ℕ) where
  abbrev one : Field
  one = record { field_type = field_type; body = replicate 24 0 }

  abbrev packet : List ℕ
  packet = replicate header_length 0 ++ octets_of one

  is_well_formed : field_type < 2 ^ 16 → WellFormed packet (one ∷ []) []
  is_well_formed h =
      let n = length_field one in
      record {
        at_least_48 = omega (arith, n);
        at_most_1024 = omega (arith, n);
        tail = field {t = octets_of one} {rest = []} {f = one} (omega (arith, n)) (record { type_fits = h; length_fits = omega arith; at_least_16 = omega arith; in_fours = refl }) (sym (append-nil (octets_of one))) end;
      }

-- a reader that is done at the first field hands out no list of a field
none_handed : (reader : Reader) (packet : List ℕ) (c : Cursor) {f : Field} {fs : List Field} → reader packet c ≡ answered None → Walk reader packet c (f ∷ fs) → ⊥
none_handed reader packet c e (hand d w) = absurd cc

-- a field of a type that it does not know is the first that is left out
first_unknown : (known : ℕ → Bool) {p : List ℕ} {c : Cursor} {f : Field} {fs : List Field} → Walk reads p c (f ∷ fs) → known f.field_type ≡ false → stops_at_unknown known p c ≡ answered None
first_unknown known (hand d w) k = ap (unless_unknown known) d ∙ rw k

pub refuted : Refuted
refuted = record {
  nothing = λ all. none_handed hands_out_nothing (packet 0) (cursor header_length) refl (all (packet 0) [] (one 0 ∷ []) (is_well_formed 0 (omega arith)));
  unknown = λ known field_type h k all.
      let w = is_well_formed field_type h in
      none_handed (stops_at_unknown known) (packet field_type) (cursor header_length) (first_unknown known (reader_laws.hands_out_all (packet field_type) [] (one field_type ∷ []) w) k)
      (all (packet field_type) [] (one field_type ∷ []) w);
}
