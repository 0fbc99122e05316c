-- What the library's words for octets say in ours. Assumes nothing.
use Prim.Native.Nat.{ℕ, zero, suc, ◌+◌, ◌-◌, ◌*◌, ◌^◌, ◌≤◌}
use native.Mathlib.Nat.{sub-zero, suc-sub-suc}
use native.Mathlib.Omega.{arith}
use mathlib.Core.Bool.{cond}
use mathlib.Core.List.{List, [], ◌∷◌}
use mathlib.Core.Path.{◌≡◌, refl, sym, ◌∙◌}
use borrow.Author.Tests.{le-leb}
use borrow.Rule.Slice.PartMut.{put_mid}
use lib.Dec.{leb}
use lib.ListN.{length, get_or}
use lib.Seq.{sets, drop-drop}
use mir.Syntax.{w16, w32, w64}
use Rattle.std.proofs.Common.{append_assoc}
use Rattle.std.proofs.lemmas.List.Edits.{sets-eq}
use Rattle.std.specs.Int.{byte_worth, sum_through, from_be_bytes}
use Rattle.arithmetic.specs.Octets.{big_endian}

sum_first : (f : ℕ → ℕ) (k : ℕ) → sum_through f (suc k) ≡ f 0 + sum_through (λ i. f (suc i)) k
sum_first f zero = refl
sum_first f (suc k) = omega (arith, sum_first f k)

-- the number of octets, by what each is worth at its place
by_place : (k : ℕ) (xs : List ℕ) → length xs ≡ suc k → big_endian xs ≡ sum_through (λ i. byte_worth (k - i) (get_or xs i 0)) k
by_place k [] h = absurd (omega arith)
by_place zero (x ∷ []) h = omega arith
by_place zero (x ∷ (y ∷ xs)) h = absurd (omega arith)
by_place (suc k) (x ∷ xs) h =
    let l : length xs ≡ suc k = omega arith in
    let f = λ (i : ℕ). byte_worth (suc k - i) (get_or (x ∷ xs) i 0) in
    let e : sum_through f (suc k) ≡ x * 256 ^ suc k + sum_through (λ i. byte_worth (k - i) (get_or xs i 0)) k = sum_first f k ∙ simp (sub-zero, suc-sub-suc) in
    rw (l, by_place k xs l) (sym e)

-- at the widths that are read: a set of rules takes no lemma with an argument
pub two : (xs : List ℕ) → length xs ≡ 2 → big_endian xs ≡ from_be_bytes w16 xs
two xs h = by_place 1 xs h

pub four : (xs : List ℕ) → length xs ≡ 4 → big_endian xs ≡ from_be_bytes w32 xs
four xs h = by_place 3 xs h

pub eight : (xs : List ℕ) → length xs ≡ 8 → big_endian xs ≡ from_be_bytes w64 xs
eight xs h = by_place 7 xs h

-- what a copy to `xs[a..a + n]` leaves
pub copied : (a n k : ℕ) (xs ys : List ℕ) → n ≡ length ys → k ≡ a + n - a → a + n ≤ length xs → put_mid a k xs ys ≡ cond (leb (a + n) (length xs)) (sets xs a ys) xs
copied a n k xs ys l e h =
    let u : k ≡ length ys = omega arith in
    rw (le-leb (a + n) (length xs) h, u, drop-drop, ← append_assoc) (sym (sets-eq ys xs a (omega arith)))

pub ruleset numbers = (two, four, eight, copied)
