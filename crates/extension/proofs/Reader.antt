-- What stands at an index of a packet. Assumes nothing.
use Prim.Native.Nat.{ℕ, ◌+◌, ◌-◌, ◌≤◌, ◌<◌}
use native.Mathlib.Omega.{arith}
use mathlib.Core.Path.{◌≡◌, sym, ap, ◌∙◌}
use mathlib.Core.Bool.{true, false}
use mathlib.Core.List.{List}
use lib.ListN.{length, take, drop, length-drop}
use lib.Seq.{length-take-le, take_all}
use Rattle.std.specs.Bool.{then_some}
use Rattle.std.specs.Prelude.{None, Some, Ok, Err}
use Rattle.refusals.specs.declared.Refusal.TheVariants.{PacketLengthWrong}
use Rattle.arithmetic.specs.Octets.{big_endian}
use Rattle.slices.specs.Slices.{read_at}
use Rattle.slices.proofs.Slices.{number_room}
use Rattle.extension.specs.declared.Cursor.{Cursor}
use Rattle.extension.specs.Reading.{ends_fields, is_field_length, stated_type, stated_length, reading}
use Rattle.extension.specs.Reader.{field_length, cursor, next}
use Rattle.extension.proofs.Heads.{no_room, Begins, some_length, no_length}
use Rattle.extension.proofs.Reading.{reading_field, reading_none}

-- ---- the length of the field that begins the octets t

pub short : (t : List ℕ) → length t < 4 → None ≡ field_length t
unfolding field_length
short t h = rw (no_room (length t) (stated_length t) (omega arith))

pub measured : (t : List ℕ) (n : ℕ) → 4 ≤ length t → n ≡ read_at 2 (take 2 (drop 2 t)) 0 → then_some (is_field_length (length t) n) n ≡ field_length t
unfolding field_length
measured t n h e =
    let l : length (take 2 (drop 2 t)) ≡ 2 = length-take-le 2 (drop 2 t) (rw length-drop (omega arith)) in
    let m : stated_length t ≡ n = sym (e ∙ number_room 2 (take 2 (drop 2 t)) 0 (omega arith) ∙ ap big_endian (take_all 2 (take 2 (drop 2 t)) (omega arith))) in
    rw m

module _ (t : List ℕ) {n : ℕ} (e : Some n ≡ field_length t) where
  b : Begins t n
  b = some_length t n e

  pub field_within : n ≤ length t
  field_within = b.legal.within

  pub head_within : 28 ≤ length t
  head_within = b.legal.room

  pub less_left : length (drop n t) < length t
  less_left = rw length-drop (omega (arith, b.legal.room, b.legal.at_least_16, b.legal.within))

  pub type_there : read_at 2 t 0 ≡ stated_type t
  type_there = number_room 2 t 0 (omega (arith, head_within))

  -- what is left after the fields is left after this one
  pub rest_on : (reading (take (length t - n) (drop n t))).rest ≡ (reading t).rest
  rest_on = rw (take_all (length t - n) (drop n t) (rw length-drop (omega arith))) (sym (rw (reading_field t b.is, ← b.states)))

pub rest_there : (t : List ℕ) → None ≡ field_length t → t ≡ (reading t).rest
rest_there t e = rw (reading_none t (no_length t e))

-- ---- what the reader answers at a cursor

module _ (p : List ℕ) (c : Cursor) where
  pub at_within : (n : ℕ) → Some n ≡ field_length (drop c.at p) → c.at + 28 ≤ length p
  at_within n e = omega (arith, length-drop c.at p, head_within (drop c.at p) e)

  pub end_within : (n : ℕ) → Some n ≡ field_length (drop c.at p) → c.at + n ≤ length p
  end_within n e = omega (arith, length-drop c.at p, head_within (drop c.at p) e, field_within (drop c.at p) e)

  pub field_found : (n x : ℕ) → Some n ≡ field_length (drop c.at p) → x ≡ read_at 2 (drop c.at p) 0
      → Ok (Some (record { field_type = x; start = c.at + 4; end = c.at + n; next = cursor (c.at + n) })) ≡ next p c
  unfolding next
  field_found n x e f =
      let s = some_length (drop c.at p) n e in
      rw (s.is, f, type_there (drop c.at p) e, s.states)

  pub end_found : None ≡ field_length (drop c.at p) → ends_fields (length (drop c.at p)) ≡ true → Ok None ≡ next p c
  unfolding next
  end_found e f = rw (no_length (drop c.at p) e, f)

  pub neither_found : None ≡ field_length (drop c.at p) → ends_fields (length (drop c.at p)) ≡ false → Err PacketLengthWrong ≡ next p c
  unfolding next
  neither_found e f = rw (no_length (drop c.at p) e, f)
