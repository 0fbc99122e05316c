-- Numbers in a list of octets where there is room for them, over the count of octets. Assumes nothing.
use Prim.Native.Nat.{ℕ, ◌+◌, ◌≤◌}
use mathlib.Core.Path.{◌≡◌}
use mathlib.Core.List.{List, reverse}
use borrow.Author.Tests.{le-leb}
use lib.ListN.{length}
use lib.Seq.{sets}
use Rattle.arithmetic.specs.Octets.{big_endian, octets, part}
use Rattle.slices.specs.Slices.{read_at, write_at, write_reversed_at}

module _ (n : ℕ) (p : List ℕ) (at : ℕ) (room : at + n ≤ length p) where
  pub number_room : read_at n p at ≡ big_endian (part at n p)
  unfolding read_at
  number_room = rw (le-leb (at + n) (length p) room)

  pub put_room : (x : ℕ) → write_at n p at x ≡ sets p at (octets n x)
  unfolding write_at
  put_room x = rw (le-leb (at + n) (length p) room)

  pub reversed_room : (x : ℕ) → write_reversed_at n p at x ≡ sets p at (reverse (octets n x))
  unfolding write_reversed_at
  reversed_room x = rw (le-leb (at + n) (length p) room)
