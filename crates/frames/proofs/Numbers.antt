-- The numbers of a frame whose head and rest are read apart.
use Prim.Native.Nat.{ℕ, ◌+◌, ◌≤◌}
use native.Mathlib.Omega.{arith}
use mathlib.Core.Path.{◌≡◌, refl, ◌∙◌}
use mathlib.Core.List.{List}
use lib.ListN.{length, take, drop, length-drop}
use Rattle.std.proofs.lemmas.List.{length-take-le, drop-take, take-take}
use Rattle.arithmetic.specs.Octets.{big_endian, part}
use Rattle.slices.specs.Slices.{read_at}
use Rattle.slices.proofs.Slices.{number_room}

-- a number of the first octets: it begins at index at, and m octets follow it
in_first : (frame : List ℕ) (at m : ℕ) → at + (8 + m) ≤ length frame → read_at 8 (take (at + (8 + m)) frame) at ≡ big_endian (part at 8 frame)
in_first frame at m long =
    let all = length-take-le (at + (8 + m)) frame long in
    number_room 8 (take (at + (8 + m)) frame) at (omega arith) ∙ rw (drop-take at (8 + m) frame, take-take 8 (8 + m) (drop at frame) (omega arith)) refl

pub uptime : (frame : List ℕ) → 17 ≤ length frame → read_at 8 (take 17 frame) 1 ≡ big_endian (part 1 8 frame)
uptime frame long = in_first frame 1 8 long

pub clock : (frame : List ℕ) → 17 ≤ length frame → read_at 8 (take 17 frame) 9 ≡ big_endian (part 9 8 frame)
clock frame long = in_first frame 9 0 long

pub token : (frame : List ℕ) → 25 ≤ length frame → read_at 8 (drop 17 frame) 0 ≡ big_endian (part 17 8 frame)
token frame long = number_room 8 (drop 17 frame) 0 (rw length-drop (omega arith))
