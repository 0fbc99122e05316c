-- A field in front of other octets. Assumes nothing.
use Prim.Native.Nat.{ℕ, ◌+◌, ◌-◌, ◌^◌, ◌≤◌, ◌<◌}
use native.Mathlib.Omega.{arith}
use mathlib.Core.Path.{◌≡◌, refl, sym, ap, ◌∙◌}
use mathlib.Core.Bool.{true}
use mathlib.Core.List.{List, ◌++◌, append_assoc}
use lib.ListN.{length, drop, length-append, take-append-drop}
use lib.Seq.{take_at, drop_at}
use Rattle.arithmetic.specs.Octets.{octets, part, AreOctets}
use Rattle.arithmetic.proofs.Octets.{length_octets, big_endian_octets, octets_number, part_add, length_part, number_lt}
use Rattle.extension.specs.Tail.{Field, length_of, octets_of, Legal}
use Rattle.extension.specs.Reading.{begins_field, stated_type, stated_length, first_field}
use Rattle.extension.proofs.Heads.{Length, is_length, length_is}

pub length_field : (f : Field) → length (octets_of f) ≡ length_of f
length_field f = simp (length-append, length_octets) (omega arith)

-- it is read back
module _ (f : Field) (rest : List ℕ) where
  abbrev T : List ℕ
  T = octets 2 f.field_type

  abbrev N : List ℕ
  N = octets 2 (length_of f)

  -- the same octets, from the left
  spread : octets_of f ++ rest ≡ T ++ (N ++ (f.body ++ rest))
  spread = simp append_assoc

  pub type_front : f.field_type < 2 ^ 16 → stated_type (octets_of f ++ rest) ≡ f.field_type
  type_front h = rw (spread, take_at T (N ++ (f.body ++ rest)) 2 (length_octets 2 f.field_type), big_endian_octets) (omega arith)

  pub length_front : length_of f < 2 ^ 16 → stated_length (octets_of f ++ rest) ≡ length_of f
  length_front h =
      rw (spread, drop_at T (N ++ (f.body ++ rest)) 2 (length_octets 2 f.field_type), take_at N (f.body ++ rest) 2 (length_octets 2 (length_of f)), big_endian_octets)
      (omega arith)

  pub rest_front : drop (length_of f) (octets_of f ++ rest) ≡ rest
  rest_front = drop_at (octets_of f) rest (length_of f) (length_field f)

  pub body_front : part 4 (length_of f - 4) (octets_of f ++ rest) ≡ f.body
  body_front =
      let e : length_of f - 4 ≡ length f.body = omega arith in
      rw (append_assoc, drop_at (T ++ N) (f.body ++ rest) 4 (simp (length-append, length_octets) (omega arith)), e)
      (take_at f.body rest (length f.body) refl)

  module _ (l : Legal f) where
    pub field_front : first_field (octets_of f ++ rest) ≡ f
    field_front = rw (length_front l.length_fits, body_front, type_front l.type_fits)

    pub begins_front : 28 ≤ length (octets_of f ++ rest) → begins_field (octets_of f ++ rest) ≡ true
    begins_front h =
        let n = length-append (octets_of f) rest in
        rw (length_front l.length_fits)
        (length_is _ (length_of f) (record { room = h; at_least_16 = omega (arith, l.at_least_16); in_fours = l.in_fours; within = omega (arith, n, length_field f) }))

-- a field that begins here is in front of what is behind it
module _ (t : List ℕ) (known : AreOctets t) (begins : begins_field t ≡ true) where
  l : Length (length t) (stated_length t)
  l = is_length (length t) (stated_length t) begins

  length_here : length_of (first_field t) ≡ stated_length t
  length_here = rw (length_part 4 (stated_length t - 4) t (omega (arith, l.at_least_16, l.within))) (omega (arith, l.at_least_16))

  pub legal_here : Legal (first_field t)
  legal_here = record {
    type_fits = number_lt 0 2 t known (omega (arith, l.room));
    length_fits = rw length_here (number_lt 2 2 t known (omega (arith, l.room)));
    at_least_16 = rw length_here l.at_least_16;
    in_fours = rw length_here l.in_fours;
  }

  pub front_here : t ≡ octets_of (first_field t) ++ drop (stated_length t) t
  front_here =
      let n = stated_length t in
      let e : 4 + (stated_length t - 4) ≡ stated_length t = omega (arith, l.at_least_16) in
      sym (ap (λ z. octets 2 (stated_type t) ++ octets 2 z ++ part 4 (n - 4) t ++ drop n t) length_here
      ∙ rw (octets_number 0 2 t known (omega (arith, l.room)), octets_number 2 2 t known (omega (arith, l.room)), ← part_add 0 2 2 t, ← part_add 0 4 (stated_length t - 4) t, e)
      (take-append-drop n t))
