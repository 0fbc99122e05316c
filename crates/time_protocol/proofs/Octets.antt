-- The four octets in a buffer and in a slice.
use Rattle.std.specs.Prelude.{Ok}
use mathlib.Core.Path.{◌≡◌, sym, ap, ◌∙◌}
use mathlib.Core.List.{List, ◌++◌}
use Prim.Native.Nat.{ℕ, ◌≤◌}
use native.Mathlib.Omega.{arith}
use borrow.Author.Tests.{le-ltb, eq-eqb}
use lib.ListN.{length, drop}
use lib.Seq.{sets-eq, take_all}
use Rattle.arithmetic.specs.Octets.{big_endian, octets}
use Rattle.arithmetic.proofs.Octets.{length_octets}
use Rattle.slices.specs.Slices.{read_at, write_at}
use Rattle.slices.proofs.Slices.{number_room, put_room}
use Rattle.time_protocol.specs.TimeProtocol.{write_answer, written, read_answer}

module _ (b : List ℕ) (room : 4 ≤ length b) where
  pub answer_written : write_answer b ≡ Ok tt
  answer_written = rw (le-ltb (length b) 4 room)

  pub octets_written : (count : ℕ) → written count b ≡ octets 4 count ++ drop 4 b
  octets_written count = rw (le-ltb (length b) 4 room)

  -- what a store at the start leaves
  pub stored : (count : ℕ) → write_at 4 b 0 count ≡ written count b
  stored count =
      let n = length_octets 4 count in
      put_room 4 b 0 room count ∙ sets-eq (octets 4 count) b 0 (rw n room) ∙ rw n (sym (octets_written count))

module _ (p : List ℕ) (four : length p ≡ 4) where
  pub answer_read : read_answer p ≡ Ok (big_endian p)
  answer_read = rw (eq-eqb (length p) 4 four)

  pub number : read_at 4 p 0 ≡ big_endian p
  number = number_room 4 p 0 (omega arith) ∙ ap big_endian (take_all 4 p (omega arith))
