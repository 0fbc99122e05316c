-- Laws of the stores that write a packet, and of what writing gives where it does not refuse. Assumes nothing.
use Prim.Native.Nat.{ℕ, zero, suc, ◌≤◌, ◌<◌}
use native.Mathlib.Omega.{arith}
use native.Mathlib.Nat.{zero-add}
use mathlib.Core.Path.{◌≡◌, refl, ◌∙◌}
use mathlib.Core.Bool.{Bool, true, false, ◌||◌}
use mathlib.Core.List.{List, [], ◌∷◌, ◌++◌, append-nil}
use borrow.Author.Tests.{le-ltb, ltb-false}
use lib.Dec.{ltb}
use lib.ListN.{length, take, drop, length-append}
use lib.Seq.{sets, sets-eq}
use Rattle.std.proofs.lemmas.List.{drop_all, take-append-drop}
use Rattle.arithmetic.specs.Octets.{big_endian, octets, AreOctets}
use Rattle.arithmetic.proofs.Octets.{length_octets, octets_big_endian}
use Rattle.ordered_tests.specs.Tests.{◌if◌else◌, otherwise, given}
use Rattle.extension.specs.Reading.{is_malformed}
use Rattle.extension.proofs.Reading.{taken_false}
use Rattle.packet.specs.declared.Fields.{Fields}
use Rattle.std.specs.Prelude.{Result, Ok, Err}
use Rattle.refusals.specs.declared.Refusal.{Refusal}
use Rattle.refusals.specs.declared.Refusal.TheVariants.{PacketLengthWrong}
use Rattle.packet.specs.Packet.{fields_of, octets_of, header_answer, read_answer, is_field_too_large, write_answer, written}

pub length_octets_of : (f : Fields) → length (octets_of f) ≡ 48
unfolding octets_of
length_octets_of f = simp (length-append, length_octets)

-- four octets are those of their number
module _ (a b c d : ℕ) (small : (a < 256) × (b < 256) × (c < 256) × (d < 256)) where
  are_four : AreOctets (a ∷ b ∷ c ∷ d ∷ [])
  are_four zero = small.0
  are_four (suc zero) = small.1
  are_four (suc (suc zero)) = small.2
  are_four (suc (suc (suc zero))) = small.3
  are_four (suc (suc (suc (suc i)))) = omega arith

  pub octets_four : octets 4 (big_endian (a ∷ b ∷ c ∷ d ∷ [])) ≡ a ∷ b ∷ c ∷ d ∷ []
  octets_four = octets_big_endian 4 (a ∷ b ∷ c ∷ d ∷ []) refl are_four

none : (a b c : Bool) → a || b || c ≡ false → (a ≡ false) × (b ≡ false) × (c ≡ false)
none true b c e = (cc, cc, cc)
none false true c e = (cc, cc, cc)
none false false c e = (cc, cc, e)

-- the fields of octet 0, where none is too large
pub bounded : (f : Fields) → is_field_too_large f ≡ false → (f.leap ≤ 3) × (f.version ≤ 7) × (f.mode ≤ 7)
bounded f e =
    let n = none (ltb 3 f.leap) (ltb 7 f.version) (ltb 7 f.mode) e in
    (ltb-false _ _ n.0, ltb-false _ _ n.1, ltb-false _ _ n.2)

-- writing that is not refused
module _ (b : List ℕ) (f : Fields) (long : 48 ≤ length b) (small : is_field_too_large f ≡ false) where
  pub answer_written : write_answer b f ≡ Ok tt
  answer_written = rw (le-ltb (length b) 48 long, small)

  pub octets_written : written b f ≡ octets_of f ++ drop 48 b
  octets_written = rw (le-ltb (length b) 48 long, small)

-- octets stored into as many octets are all that is left
pub stored : (b octets : List ℕ) → length octets ≡ length b → sets b 0 octets ≡ octets
stored b octets l = sets-eq octets b 0 (omega arith) ∙ (rw (zero-add, l, drop_all (length b) b (omega arith)) (append-nil _))

-- fields that are too large leave the buffer, its first 48 octets and the rest, as it was
pub large_kept : (b c : List ℕ) (f : Fields) → 48 ≤ length b → c ≡ take 48 b → is_field_too_large f ≡ true → c ++ drop 48 b ≡ written b f
large_kept b c f long first large = rw (le-ltb (length b) 48 long, large, first) (take-append-drop 48 b)

-- ---- what the answer of reading tells of the packet

by_test : (malformed : Bool) (f : Fields) (P : Bool → Result Fields Refusal → Type 0) → P true (Err PacketLengthWrong) → P false (Ok f)
    → P malformed (given (PacketLengthWrong if malformed else otherwise f))
by_test true f P x y = x
by_test false f P x y = y

-- the first 48 octets of what is not malformed
pub header_fields : (p : List ℕ) → is_malformed p ≡ false → header_answer p ≡ Ok (fields_of p)
header_fields p e = rw (le-ltb _ _ (taken_false p e).at_least_48)

pub read_refused : (p : List ℕ) {r : Refusal} → read_answer p ≡ Err r → (is_malformed p ≡ true) × (PacketLengthWrong ≡ r)
read_refused p {r} =
    by_test (is_malformed p) (fields_of p) (λ b a. a ≡ Err r → (b ≡ true) × (PacketLengthWrong ≡ r)) (λ e. (refl, (cc))) (λ e. ((cc), (cc)))

pub read_fields : (p : List ℕ) {f : Fields} → read_answer p ≡ Ok f → (is_malformed p ≡ false) × (fields_of p ≡ f)
read_fields p {f} =
    by_test (is_malformed p) (fields_of p) (λ b a. a ≡ Ok f → (b ≡ false) × (fields_of p ≡ f)) (λ e. ((cc), (cc))) (λ e. (refl, (cc)))
