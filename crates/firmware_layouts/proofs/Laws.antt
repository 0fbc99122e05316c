-- Each legal record has one image, and each image is that of one legal record.
use mathlib.Core.Path.{◌≡◌, refl, sym, ap, subst, ◌∙◌}
use mathlib.Core.Bool.{Bool, true, false}
use mathlib.Core.List.{List, [], ◌∷◌, ◌++◌}
use Prim.Native.Nat.{ℕ, zero, suc, ◌+◌, ◌-◌, ◌^◌, ◌≤◌, ◌<◌}
use native.Mathlib.Nat.{mod-eq_of_lt}
use native.Mathlib.Omega.{arith}
use borrow.Author.Tests.{eq-eqb}
use lib.Dec.{eqb}
use lib.ListN.{length, get_or}
use lib.Seq.{take_all}
use Rattle.ordered_tests.proofs.Reflection.{WhereTrue, conjoined, is_true, isnt_true, not_above, equal}
use Rattle.arithmetic.specs.Octets.{big_endian, octets, part, AreOctets}
use Rattle.arithmetic.proofs.Octets.{big_endian_octets, octets_number, number_lt, part_add, part_four}
use Rattle.slices.specs.Slices.{read_at}
use Rattle.slices.proofs.Slices.{number_room}
use Rattle.timestamp.specs.Timestamp.{timestamp}
use Rattle.token.specs.Token.{token}
use Rattle.client.specs.declared.Phase.{Phase}
use Rattle.client.specs.declared.Phase.TheVariants.{Idle, Waiting, Stopped}
use Rattle.client.specs.declared.Client.{Client}
use Rattle.client.specs.Record.{illegal}
use Rattle.client.proofs.Exponent.{exponents}
use Rattle.firmware_layouts.specs.Image.{octet_of_phase, octet_of_flag, image_of, phase_of, record_in, has_legal_values, is_image, image_read, with_image}
use Rattle.firmware_layouts.specs.Laws.{Typed, IsImageOf, Laws}
use Rattle.std.specs.Prelude.{Some}
use Rattle.firmware_layouts.proofs.Layouts.{length_image}

phase_back : (p : Phase) → phase_of (octet_of_phase p) ≡ p
phase_back Idle = refl
phase_back Waiting = refl
phase_back Stopped = refl

flag_back : (b : Bool) → eqb (octet_of_flag b) 1 ≡ b
flag_back true = refl
flag_back false = refl

-- a slice of 32 octets takes an image
pub with_image_lem : (slice : List ℕ) (c : Client) → length slice ≡ 32 → with_image slice c ≡ image_of c
with_image_lem slice c n = rw (eq-eqb (length slice) 32 n)

-- a number of the image of a record
number_octets : (n x : ℕ) → x < 256 ^ n → big_endian (octets n x) ≡ x
number_octets n x h = big_endian_octets n x ∙ mod-eq_of_lt h

module _ (c : Client) (k : Typed c) (low : 6 ≤ c.exponent) where
  at : (n i : ℕ) → i + n ≤ 32 → read_at n (image_of c) i ≡ big_endian (part i n (image_of c))
  at n i h = number_room n (image_of c) i (rw (length_image c) h)

  t1_at : read_at 8 (image_of c) 8 ≡ c.t1.0
  unfolding image_of octets
  t1_at = at 8 8 (omega arith) ∙ number_octets 8 c.t1.0 (omega (arith, k.t1))

  token_at : read_at 8 (image_of c) 16 ≡ c.token.0
  unfolding image_of octets
  token_at = at 8 16 (omega arith) ∙ number_octets 8 c.token.0 (omega (arith, k.token))

  uptime_at : read_at 8 (image_of c) 24 ≡ c.uptime
  unfolding image_of octets
  uptime_at = at 8 24 (omega arith) ∙ number_octets 8 c.uptime (omega (arith, k.uptime))

  pub fields_back : record_in (image_of c) ≡ c
  unfolding record_in image_of octets
  fields_back =
      let e : c.exponent - 6 + 6 ≡ c.exponent = omega arith in
      λ i. record {
        phase = phase_back c.phase i;
        t1 = timestamp (t1_at i);
        token = token (token_at i);
        version = c.version;
        asked = flag_back c.asked i;
        uptime = uptime_at i;
        exponent = e i;
      }

-- ---- what the tests of an image say

pub record Has (image : List ℕ) : Type 0 where
  pub length_32 : length image ≡ 32
  pub phase : get_or image 0 0 ≤ 2
  pub asked : get_or image 2 0 ≤ 1
  pub exponent : get_or image 3 0 ≤ 8
  pub zero : read_at 4 image 4 ≡ 0
  pub legal : illegal (record_in image) ≡ false

pub tested : (image : List ℕ) → WhereTrue (Has image) (is_image image)
unfolding is_image has_legal_values
tested image =
    let values = conjoined (conjoined (conjoined (not_above (get_or image 0 0) 2) (not_above (get_or image 2 0) 1)) (not_above (get_or image 3 0) 8)) (equal (read_at 4 image 4) 0) in
    let all = conjoined (conjoined (equal (length image) 32) values) (isnt_true (illegal (record_in image))) in
    record {
      to = λ h. all.to ((h.length_32, (((h.phase, h.asked), h.exponent), h.zero)), h.legal);
      from = λ t. let ((n, (((p, a), e), z)), l) = all.from t in record { length_32 = n; phase = p; asked = a; exponent = e; zero = z; legal = l };
    }

-- ---- the image of a legal record

pub record_back : (c : Client) → Typed c → illegal c ≡ false → record_in (image_of c) ≡ c
record_back c k l = fields_back c k (exponents c l).0

phase_small : (p : Phase) → octet_of_phase p ≤ 2
phase_small Idle = omega arith
phase_small Waiting = omega arith
phase_small Stopped = omega arith

flag_small : (b : Bool) → octet_of_flag b ≤ 1
flag_small true = omega arith
flag_small false = omega arith

has : (c : Client) → Typed c → illegal c ≡ false → Has (image_of c)
unfolding image_of octets
has c k l =
    let (low, high) = exponents c l in
    record {
      length_32 = length_image c;
      phase = phase_small c.phase;
      asked = flag_small c.asked;
      exponent = omega arith;
      zero = at c k low 4 4 (omega arith);
      legal = ap illegal (record_back c k l) ∙ l;
    }

-- ---- the record of an image

image_has : (image : List ℕ) (c : Client) → IsImageOf image c → Has image × (record_in image ≡ c)
unfolding image_read
image_has image c q = go (is_image image) refl
  where
    go : (b : Bool) → is_image image ≡ b → Has image × (record_in image ≡ c)
    go true e = let r = rw e at q in ((tested image).from ((is_true (is_image image)).to e), cc)
    go false e = absurd (cc (rw e at q))

octet_of_phase_lem : (n : ℕ) → n ≤ 2 → octet_of_phase (phase_of n) ≡ n
octet_of_phase_lem zero h = refl
octet_of_phase_lem (suc zero) h = refl
octet_of_phase_lem (suc (suc zero)) h = refl
octet_of_phase_lem (suc (suc (suc n))) h = absurd (omega arith)

octet_of_flag_lem : (n : ℕ) → n ≤ 1 → octet_of_flag (eqb n 1) ≡ n
octet_of_flag_lem zero h = refl
octet_of_flag_lem (suc zero) h = refl
octet_of_flag_lem (suc (suc n)) h = absurd (omega arith)

module _ (image : List ℕ) (h : Has image) (o : AreOctets image) where
  -- its octets, by the parts that are read
  parts : image ≡ (get_or image 0 0 ∷ get_or image 1 0 ∷ get_or image 2 0 ∷ get_or image 3 0 ∷ []) ++ part 4 4 image ++ part 8 8 image ++ part 16 8 image ++ part 24 8 image
  parts =
      sym (take_all 32 image (omega (arith, h.length_32)))
      ∙ part_add 0 24 8 image
      ∙ rw (part_add 0 16 8 image, part_add 0 8 8 image, part_add 0 4 4 image, part_four 0 image (omega (arith, h.length_32)))

  number : (n i : ℕ) → i + n ≤ 32 → read_at n image i ≡ big_endian (part i n image)
  number n i k = number_room n image i (omega (arith, h.length_32))

  back : (n i : ℕ) → i + n ≤ 32 → octets n (read_at n image i) ≡ part i n image
  back n i k = ap (octets n) (number n i k) ∙ octets_number i n image o (omega (arith, h.length_32))

  fits : (i : ℕ) → i + 8 ≤ 32 → read_at 8 image i < 2 ^ 64
  fits i k = rw (number 8 i k) (omega (arith, number_lt i 8 image o (omega (arith, h.length_32))))

  typed : Typed (record_in image)
  unfolding record_in
  typed = record { t1 = fits 8 (omega arith); token = fits 16 (omega arith); uptime = fits 24 (omega arith) }

  image_back : image_of (record_in image) ≡ image
  unfolding image_of record_in
  image_back =
      let exponent : get_or image 3 0 + 6 - 6 ≡ get_or image 3 0 = omega arith in
      let zeros : octets 4 0 ≡ part 4 4 image = ap (octets 4) (sym h.zero) ∙ back 4 4 (omega arith) in
      rw (
        octet_of_phase_lem (get_or image 0 0) h.phase,
        octet_of_flag_lem (get_or image 2 0) h.asked,
        exponent,
        zeros,
        back 8 8 (omega arith),
        back 8 16 (omega arith),
        back 8 24 (omega arith),
      )
      (sym parts)

-- ---- the theorem

pub laws : Laws
laws = record {
  has_image = λ c k l. unfold image_read in rw ((is_true (is_image (image_of c))).from ((tested (image_of c)).to (has c k l))) (ap Some (record_back c k l));
  one_image = λ image c o q. let (h, e) = image_has image c q in sym (image_back image h o) ∙ ap image_of e;
  is_legal = λ image c o q. let (h, e) = image_has image c q in subst (λ d. (illegal d ≡ false) × Typed d) e (h.legal, typed image h o);
  one_record = λ image c d p q. sym (image_has image c p).1 ∙ (image_has image d q).1;
  fresh_zero = unfold image_of octets in refl;
}
