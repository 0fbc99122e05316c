-- The head of a field: what its octets state, and when a field begins. Assumes nothing.
use Prim.Native.Nat.{ℕ, ◌%◌, ◌≤◌, ◌<◌}
use mathlib.Core.Path.{◌≡◌, refl}
use mathlib.Core.Bool.{Bool, true, false}
use mathlib.Core.List.{List}
use native.Mathlib.Omega.{arith}
use Rattle.std.proofs.lemmas.Bool.Decides.{nat_tests}
use lib.ListN.{length}
use Rattle.std.specs.Bool.{then_some}
use Rattle.std.specs.Prelude.{Option, None, Some}
use Rattle.extension.specs.Reading.{is_field_length, begins_field, stated_length}
use Rattle.extension.specs.Reader.{field_length}

-- ---- a test of a length

pub record Length (left n : ℕ) : Type 0 where
  pub room : 28 ≤ left
  pub at_least_16 : 16 ≤ n
  pub in_fours : n % 4 ≡ 0
  pub within : n ≤ left

pub is_length : (left n : ℕ) → is_field_length left n ≡ true → Length left n
unfolding is_field_length
is_length left n e =
    record { room = grind (arith, nat_tests); at_least_16 = grind (arith, nat_tests); in_fours = grind (arith, nat_tests); within = grind (arith, nat_tests) }

pub length_is : (left n : ℕ) → Length left n → is_field_length left n ≡ true
unfolding is_field_length
length_is left n l = grind (arith, nat_tests, l.room, l.at_least_16, l.in_fours, l.within)

pub no_room : (left n : ℕ) → left < 28 → is_field_length left n ≡ false
unfolding is_field_length
no_room left n h = grind (arith, nat_tests)

-- ---- the length of the field that begins some octets

module _ (t : List ℕ) where
  -- one begins, of this length
  pub record Begins (n : ℕ) : Type 0 where
    pub is : begins_field t ≡ true
    pub states : n ≡ stated_length t
    pub legal : Length (length t) n

  pub some_length : (n : ℕ) → Some n ≡ field_length t → Begins n
  unfolding field_length
  some_length n = go (begins_field t) refl
    where
      go : (b : Bool) → begins_field t ≡ b → Some n ≡ then_some b (stated_length t) → Begins n
      go true q e = let m : n ≡ stated_length t = cc in record { is = q; states = m; legal = rw m (is_length (length t) (stated_length t) q) }
      go false q e = absurd cc

  pub no_length : None ≡ field_length t → begins_field t ≡ false
  unfolding field_length
  no_length = go (begins_field t) refl
    where
      go : (b : Bool) → begins_field t ≡ b → ◌≡◌ {A = Option ℕ} None (then_some b (stated_length t)) → b ≡ false
      go true q e = absurd cc
      go false q e = refl
