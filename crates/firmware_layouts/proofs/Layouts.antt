-- Stores that fill a slice.
use mathlib.Core.Path.{◌≡◌, refl, ap, ◌∙◌}
use mathlib.Core.List.{List, ◌++◌, append-nil}
use Prim.Native.Nat.{ℕ}
use native.Mathlib.Nat.{zero-add}
use native.Mathlib.Omega.{arith}
use borrow.Author.Tests.{eq-eqb}
use lib.ListN.{length, drop}
use lib.Seq.{sets, sets-eq, drop-length}
use Rattle.arithmetic.specs.Octets.{octets}
use Rattle.client.specs.declared.Client.{Client}
use Rattle.client.specs.Calls.{Told}
use Rattle.firmware_layouts.specs.Image.{image_of}
use Rattle.firmware_layouts.specs.Answer.{answer_in, with_answer}

pub filled : (b xs : List ℕ) → length xs ≡ length b → sets b 0 xs ≡ xs
filled b xs n =
    sets-eq xs b 0 (omega arith)
    ∙ ap (λ n. xs ++ drop n b) (zero-add (length xs) ∙ n)
    ∙ ap (λ rest. xs ++ rest) (drop-length b)
    ∙ append-nil xs

pub length_image : (c : Client) → length (image_of c) ≡ 32
unfolding image_of octets
length_image c = refl

pub takes_answer : (slice : List ℕ) (told : Told) → length slice ≡ 24 → with_answer slice told ≡ answer_in slice told
takes_answer slice told n = rw (eq-eqb (length slice) 24 n)
