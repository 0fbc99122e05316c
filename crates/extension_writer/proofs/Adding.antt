-- A field at the end of a packet: the tests, the octets, and reading it back. Assumes nothing.
use Prim.Native.Nat.{ℕ, ◌+◌, ◌-◌, ◌*◌, ◌^◌, min, ◌≤◌, ◌<◌}
use native.Mathlib.Omega.{arith}
use mathlib.Core.Path.{◌≡◌, sym, ap, ◌∙◌}
use mathlib.Core.Bool.{false}
use mathlib.Core.List.{List, [], ◌∷◌, ◌++◌, append-nil, append_assoc}
use lib.ListN.{length, take, drop, length-append, length-drop, drop_of_length-le}
use lib.Seq.{sets-eq, drop-drop, length-take-le, take_at, drop_at, drop-append-le}
use mir.Facts.{ltb_no}
use Rattle.arithmetic.specs.Octets.{octets, AreOctets}
use Rattle.arithmetic.proofs.Octets.{length_octets, are_part}
use Rattle.std.proofs.lemmas.List.{nil_from_length}
use Rattle.std.specs.Prelude.{Result, Ok, Err}
use Rattle.refusals.specs.declared.Refusal.{Refusal}
use Rattle.ordered_tests.specs.Tests.{given, tested_of, kept_of}
use Rattle.ordered_tests.proofs.Tests.{passed, passes}
use Rattle.ordered_tests.proofs.Reflection.{is_false}
use Rattle.slices.specs.Slices.{write_at}
use Rattle.slices.proofs.Slices.{put_room}
use Rattle.extension.specs.Tail.{header_length, maximum_length, Field, length_of, octets_of, Legal, Authenticator, of_4, of_20, of_24, Tail, end, authenticator, field, WellFormed}
use Rattle.extension.specs.Reading.{extension_fields, after_fields, is_malformed}
use Rattle.extension.proofs.Front.{length_field}
use Rattle.extension.proofs.Reading.{tail_laws}
use Rattle.extension.proofs.Walks.{reader_laws}
use Rattle.extension_writer.specs.Writer.{filled_length, filled_to, new_field, new_length, no_room, add_tests, added, with_field, added_buffer}
use Rattle.extension_writer.specs.WriterLaws.{ReadsBack, WriterLaws}
use Rattle.extension_writer.proofs.Fill.{fills, fewest, length_filled, head_octets}

-- ---- the tests

module _ (buffer : List ℕ) (size n : ℕ) where
  -- no test refuses
  pub record Passed : Type 0 where
    pub within : size ≤ length buffer
    pub formed : is_malformed (take size buffer) ≡ false
    pub bare : length (after_fields (take size buffer)) ≡ 0
    pub room : new_length size n ≤ length buffer
    pub small : new_length size n ≤ maximum_length

  pub facts : (new : ℕ) → Ok new ≡ given (add_tests buffer size n) → (new ≡ new_length size n) × Passed
  unfolding add_tests no_room
  facts new e =
      let t = add_tests buffer size n in
      let p = passed t tt (ap tested_of (sym e)) in
      let b : length (after_fields (take size buffer)) ≤ 0 = ltb_no p.1.1.0 in
      let r : new_length size n ≤ min (length buffer) maximum_length = ltb_no p.1.1.1.0 in (
        cc (passes t p),
        record {
          within = ltb_no p.0;
          formed = (is_false _).from p.1.0;
          bare = omega arith;
          room = omega arith;
          small = omega arith;
        },
      )

-- ---- the octets

module _ (field_type : ℕ) (body : List ℕ) where
  abbrev m : ℕ
  m = filled_length (length body)

  abbrev f : Field
  f = new_field field_type body

  length_of_new : length_of f ≡ 4 + m
  length_of_new = ap (λ k. 4 + k) (length_filled body m (fills (length body)).holds)

  length_new_octets : length (octets_of f) ≡ 4 + m
  length_new_octets = length_field f ∙ length_of_new

  -- the head as one number, and the body behind it
  pub field_put : (head : List ℕ) (n k : ℕ) → length head ≡ 4 → n ≡ 4 + m → n ≤ maximum_length → k + 4 ≡ n
      → write_at 4 head 0 (field_type * 65536 + n) ++ filled_to k body ≡ octets_of f
  field_put head n k h e small l =
      let x = field_type * 65536 + n in
      let room : 0 + 4 ≤ length head = omega arith in
      let whole : length (octets 4 x) ≡ 4 = length_octets 4 x in
      let none : drop (0 + length (octets 4 x)) head ≡ [] = drop_of_length-le head {i = 0 + length (octets 4 x)} (omega arith) in
      let front : write_at 4 head 0 x ≡ octets 4 x ++ [] = put_room 4 head 0 room x ∙ sets-eq (octets 4 x) head 0 (rw whole room) ∙ ap (λ z. octets 4 x ++ z) none in
      let i : k ≡ m = omega arith in
      rw (front, append-nil, head_octets field_type n (omega arith), i)
      (ap (λ k. octets 2 field_type ++ octets 2 k ++ filled_to m body) (e ∙ sym length_of_new))

-- ---- reading it back

not_empty : {n : ℕ} → n ≡ 0 → Authenticator n → ⊥
not_empty e of_4 = omega arith
not_empty e of_20 = omega arith
not_empty e of_24 = omega arith

-- one field more at the end
extend : (f : Field) → Legal f → 28 ≤ length_of f → {t a : List ℕ} {fs : List Field} → a ≡ [] → Tail t fs a → Tail (t ++ octets_of f) (fs ++ (f ∷ [])) []
extend f l h q end = field {t = octets_of f} {rest = []} {f = f} (rw (length_field f) h) l (sym (append-nil (octets_of f))) end
extend f l h q (authenticator x) = absurd (not_empty (ap length q) x)
extend f l h q (field {t} {rest} {a} {f = g} {fs} k legal e r) =
    field {t = t ++ octets_of f} {rest = rest ++ octets_of f} {f = g} (rw length-append (omega arith)) legal (ap (λ z. z ++ octets_of f) e ∙ append_assoc (octets_of g) rest (octets_of f)) (extend f l h q r)

module _ (buffer : List ℕ) (size field_type : ℕ) (body : List ℕ) (known : AreOctets buffer) (fits : field_type < 2 ^ 16) (p : Passed buffer size (length body)) where
  abbrev new : ℕ
  new = new_length size (length body)

  abbrev F : List ℕ
  F = take size buffer

  abbrev O : List ℕ
  O = octets_of (new_field field_type body)

  length_F : length F ≡ size
  length_F = length-take-le size buffer p.within

  length_FO : length (F ++ O) ≡ new
  length_FO = rw (length-append, length_F, length_new_octets field_type body)

  legal : Legal (new_field field_type body)
  legal =
      let s = length_of_new field_type body in
      let q = fills (length body) in
      record { type_fits = fits; length_fits = omega (arith, p.small); at_least_16 = omega (arith, q.at_least_28); in_fours = rw s (omega (arith, q.in_fours)) }

  longer : WellFormed (F ++ O) (extension_fields F ++ (new_field field_type body ∷ [])) []
  longer =
      let w = tail_laws.not_refused F (are_part 0 size buffer known) p.formed in
      let at_least_28 : 28 ≤ length_of (new_field field_type body) = omega (arith, length_of_new field_type body, (fills (length body)).at_least_28) in
      record {
        at_least_48 = rw length-append (omega (arith, w.at_least_48));
        at_most_1024 = rw length_FO p.small;
        tail = rw (drop-append-le header_length F O w.at_least_48) (extend (new_field field_type body) legal at_least_28 (nil_from_length (after_fields F) p.bare) w.tail);
      }

  reads : ReadsBack buffer (with_field buffer size field_type body) size new field_type body
  reads =
      let D = drop new buffer in
      let front : take new (F ++ O ++ D) ≡ F ++ O = take_at (F ++ O) D new length_FO in
      record {
        length_kept = rw (length-append, length_FO, length-drop) (omega (arith, p.room));
        front_kept = rw (append_assoc F O D) (take_at F (O ++ D) size length_F);
        rest_kept = drop_at (F ++ O) D new length_FO;
        well_formed = rw front longer;
        walk = rw front (reader_laws.hands_out_all (F ++ O) _ _ longer);
      }

-- ---- what adding gives

-- the buffer has a part from size to new, of the field's length
module _ (buffer : List ℕ) (size n new : ℕ) (e : Ok new ≡ given (add_tests buffer size n)) where
  pub part_within : (size ≤ new) × (new ≤ length buffer)
  part_within = let p = facts buffer size n new e in (omega (arith, p.0), omega (arith, p.0, p.1.room))

  pub part_length : length (take (new - size) (drop size buffer)) ≡ 4 + filled_length n
  part_length =
      let p = facts buffer size n new e in
      length-take-le (new - size) (drop size buffer) (rw length-drop (omega (arith, p.0, p.1.room))) ∙ omega (arith, p.0)

  pub part_small : length (take (new - size) (drop size buffer)) ≤ maximum_length
  part_small = let p = facts buffer size n new e in omega (arith, p.0, p.1.small, part_length)

module _ (buffer : List ℕ) (size field_type : ℕ) (body : List ℕ) where
  abbrev after : Result ℕ Refusal → List ℕ
  after g = kept_of g buffer (with_field buffer size field_type body)

  -- the field is stored into the buffer's part from size to new
  pub stored : (new : ℕ) → Ok new ≡ added buffer size body
      → take size buffer ++ (octets_of (new_field field_type body) ++ drop (new - size) (drop size buffer)) ≡ added_buffer buffer size field_type body
  stored new e =
      let p = facts buffer size (length body) new e in
      let k : size + (new - size) ≡ new_length size (length body) = omega (arith, p.0) in
      rw (← append_assoc, drop-drop, k) (ap after e)

  refused : (r : Refusal) → added buffer size body ≡ Err r → added_buffer buffer size field_type body ≡ buffer
  refused r e = ap after e

  reads_back : (new : ℕ) → AreOctets buffer → field_type < 2 ^ 16 → added buffer size body ≡ Ok new
      → ReadsBack buffer (added_buffer buffer size field_type body) size new field_type body
  reads_back new known fits e =
      let p = facts buffer size (length body) new (sym e) in
      rw (ap after e, p.0) (reads buffer size field_type body known fits p.1)

pub writer_laws : WriterLaws
writer_laws = record { fills = fills; fewest = fewest; refused = refused; reads_back = reads_back }
