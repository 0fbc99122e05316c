-- The round trips of specs/RoundTrips.antt hold. Assumes nothing.
use Prim.Native.Nat.{ℕ, zero, suc, ◌+◌, ◌*◌, ◌/◌, ◌%◌, ◌^◌, ◌≤◌, ◌<◌}
use native.Mathlib.Nat.{mod-eq_of_lt}
use native.Mathlib.Omega.{arith}
use mathlib.Core.Path.{◌≡◌, refl, sym, ap, ◌∙◌}
use mathlib.Core.Bool.{Bool, true, false}
use mathlib.Core.List.{List, [], ◌∷◌, ◌++◌}
use borrow.Author.Tests.{le-ltb, ltb-false}
use lib.Dec.{ltb}
use lib.IntN.{ℤ}
use lib.ListN.{length, take, drop, length-append, length-drop}
use lib.Pow.{pow_pos}
use lib.Seq.{take-take, take_at, drop_at, get_or-take}
use Rattle.arithmetic.specs.TwosComplement.{signed, bits}
use Rattle.arithmetic.specs.Octets.{big_endian, octets, part, AreOctets}
use Rattle.arithmetic.proofs.Modulo.{modulo_below}
use Rattle.arithmetic.proofs.TwosComplement.{signed_bits, bits_signed}
use Rattle.arithmetic.proofs.Octets.{big_endian_octets, octets_number, number_lt, part_add, part_four}
use Rattle.extension.proofs.Reading.{taken_false, of_48}
use Rattle.packet.specs.declared.Fields.{Fields}
use Rattle.packet.specs.Packet.{octet, ◌from◌to◌, fields_of, octets_of, is_field_too_large, written}
use Rattle.packet.specs.RoundTrips.{Legal, RoundTrips}
use Rattle.packet.proofs.Packet.{length_octets_of, bounded, answer_written, octets_written, read_fields}

either : {C : Type 0} (x : Bool) → (x ≡ true → C) → (x ≡ false → C) → C
either true f g = f refl
either false f g = g refl

-- ---- octets to fields and back

module _ (p : List ℕ) (long : 48 ≤ length p) where
  -- the first 48 octets, by the parts that are read
  parts : take 48 p
      ≡ octet 0 p ∷ octet 1 p ∷ octet 2 p ∷ octet 3 p ∷ part 4 4 p ++ part 8 4 p ++ part 12 4 p ++ part 16 8 p ++ part 24 8 p ++ part 32 8 p ++ part 40 8 p
  parts =
      part_add 0 40 8 p
      ∙ (rw (part_add 0 32 8 p, part_add 0 24 8 p, part_add 0 16 8 p, part_add 0 12 4 p, part_add 0 8 4 p, part_add 0 4 4 p, part_four 0 p (omega arith)))

  pub octets_of_fields_of : AreOctets p → octets_of (fields_of p) ≡ take 48 p
  unfolding octets_of fields_of
  octets_of_fields_of h =
      let first : octet 0 p / 64 * 64 + octet 0 p / 8 % 8 * 8 + octet 0 p % 8 ≡ octet 0 p = omega arith in
      let word : bits 32 (signed 32 (p from 4 to 7)) ≡ p from 4 to 7 = bits_signed 32 _ (omega arith) (number_lt 4 4 p h (omega arith)) in
      let back : (at n : ℕ) → at + n ≤ 48 → octets n (big_endian (part at n p)) ≡ part at n p = λ at n k. octets_number at n p h (omega arith) in
      rw (
        first,
        bits_signed 8 (octet 3 p) (omega arith) (h 3),
        word,
        back 4 4 (omega arith),
        back 8 4 (omega arith),
        back 12 4 (omega arith),
        back 16 8 (omega arith),
        back 24 8 (omega arith),
        back 32 8 (omega arith),
        back 40 8 (omega arith),
      )
      (sym parts)

-- fields that were read are not too large
fields_of_small : (p : List ℕ) → AreOctets p → is_field_too_large (fields_of p) ≡ false
unfolding fields_of
fields_of_small p h =
    let k = h 0 in
    rw (le-ltb 3 (octet 0 p / 64) (omega arith), le-ltb 7 (octet 0 p / 8 % 8) (omega arith), le-ltb 7 (octet 0 p % 8) (omega arith))

-- ---- fields to octets and back

number_octets : (n x : ℕ) → x < 256 ^ n → big_endian (octets n x) ≡ x
number_octets n x h = big_endian_octets n x ∙ mod-eq_of_lt h

bits_lt : (k : ℕ) (z : ℤ) → bits k z < 2 ^ k
unfolding bits
bits_lt k z = modulo_below z (pow_pos k)

pub fields_of_octets_of : (f : Fields) → Legal f → fields_of (octets_of f) ≡ f
unfolding octets_of fields_of octets
fields_of_octets_of f k =
    let b = bounded f k.small in
    let leap : (f.leap * 64 + f.version * 8 + f.mode) / 64 ≡ f.leap = omega arith in
    let version : (f.leap * 64 + f.version * 8 + f.mode) / 8 % 8 ≡ f.version = omega arith in
    let mode : (f.leap * 64 + f.version * 8 + f.mode) % 8 ≡ f.mode = omega arith in
    rw (
      leap,
      version,
      mode,
      signed_bits 8 f.precision (omega arith) k.precision,
      number_octets 4 (bits 32 f.root_delay) (bits_lt 32 f.root_delay),
      signed_bits 32 f.root_delay (omega arith) k.root_delay,
      number_octets 4 f.root_dispersion k.root_dispersion,
      number_octets 4 f.identifier k.identifier,
      number_octets 8 f.reference.0 k.reference,
      number_octets 8 f.originate.0 k.originate,
      number_octets 8 f.receive.0 k.receive,
      number_octets 8 f.transmit.0 k.transmit,
    )

-- ---- only the first 48 octets are read

part_take : (at n m : ℕ) (p : List ℕ) → at + n ≤ m → part at n (take m p) ≡ part at n p
part_take zero n m p h = take-take n m p (omega arith)
part_take (suc at) n zero p h = absurd (omega arith)
part_take (suc at) n (suc m) [] h = refl
part_take (suc at) n (suc m) (x ∷ p) h = part_take at n m p (omega arith)

pub fields_of_take : (p : List ℕ) → fields_of (take 48 p) ≡ fields_of p
unfolding fields_of
fields_of_take p =
    let one : (i : ℕ) → i < 48 → octet i (take 48 p) ≡ octet i p = λ i k. get_or-take 48 p i 0 k in
    let some : (at n : ℕ) → at + n ≤ 48 → part at n (take 48 p) ≡ part at n p = λ at n k. part_take at n 48 p k in
    rw (
      one 0 (omega arith),
      one 1 (omega arith),
      one 2 (omega arith),
      one 3 (omega arith),
      some 4 4 (omega arith),
      some 8 4 (omega arith),
      some 12 4 (omega arith),
      some 16 8 (omega arith),
      some 24 8 (omega arith),
      some 32 8 (omega arith),
      some 40 8 (omega arith),
    )

-- ---- the answers

-- what writing leaves: the buffer as it was, or the 48 octets and the rest
by_cases : (b : List ℕ) (f : Fields) (P : List ℕ → Type 0) → P b → (48 ≤ length b → P (octets_of f ++ drop 48 b)) → P (written b f)
by_cases b f P old new =
    either
    (ltb (length b) 48)
    (λ short. rw short old)
    (λ room.
    let long = ltb-false (length b) 48 room in
    either (is_field_too_large f) (λ large. rw (room, large) old) (λ small. rw (octets_written b f long small) (new long)))

pub round_trips : RoundTrips
round_trips = record {
  octets_back = λ p b f h e long.
      let r = read_fields p e in
      let small : is_field_too_large f ≡ false = ap is_field_too_large (sym r.1) ∙ fields_of_small p h in
      (answer_written b f long small, octets_written b f long small ∙ (rw (← r.1, octets_of_fields_of p (taken_false p r.0).at_least_48 h)));
  fields_back = λ b f k long.
      (answer_written b f long k.small, (rw (octets_written b f long k.small, take_at (octets_of f) (drop 48 b) 48 (length_octets_of f), of_48 (octets_of f) (length_octets_of f), fields_of_octets_of f k)));
  first_48_read = λ p q f g d e same. sym (read_fields p d).1 ∙ sym (fields_of_take p) ∙ ap fields_of same ∙ fields_of_take q ∙ (read_fields q e).1;
  rest_kept = λ b f. by_cases b f (λ l. drop 48 l ≡ drop 48 b) refl (λ long. drop_at (octets_of f) (drop 48 b) 48 (length_octets_of f));
  length_kept = λ b f. by_cases b f (λ l. length l ≡ length b) refl (λ long. rw (length-append, length_octets_of f, length-drop) (omega arith));
}
