-- Pushing a line's characters one after another decodes it.
use Rattle.std.proofs.Common.{ℕ, ◌+◌, ◌*◌, ◌%◌, ◌≤◌, ◌<◌, ◌≡◌, Bool, true, false, Option, Some, None, List, [], ◌∷◌, ◌++◌, length, take, set, refl, sym, ap, ◌∙◌, append_assoc, append-nil, add-one, arith, length-append, length-set}
use Rattle.std.proofs.lemmas.Grind.{common_steps}
use mathlib.Core.Bool.{or-true}
use borrow.Author.Tests.{leb-true, leb-false, le-leb, lt-leb, lt-ltb}
use lib.Dec.{leb}
use lib.Seq.{take-suc-set, length-take-le}
use Rattle.hex_decode.specs.declared.Rest.{Rest}
use Rattle.hex_decode.specs.declared.Rest.TheVariants.{Nothing, Digit, Malformed}
use Rattle.hex_decode.specs.declared.Line.{Line}
use Rattle.hex_decode.specs.Lines.{digit_of, taken_buffer, pushed, pushed_buffer, has_begun}
use Rattle.hex_decode.specs.Decoding.{Frame, octets, malformed, before, decode, at_most, Held, next, after, read, is_some, Decoding}

-- xs in front of a frame's octets
abbrev front : List ℕ → Frame → Frame
front xs (octets ys) = octets (xs ++ ys)
front xs malformed = malformed

abbrev held : ℕ → Rest → List ℕ → Held
held count rest buffer = record { line = record { count = count; rest = rest }; buffer = buffer }

below : (c d : ℕ) → digit_of c ≡ Some d → d < 16
unfolding digit_of
below c d e = grind (arith, common_steps)

-- what is malformed stays so
stays : (k : ℕ) (b cs : List ℕ) → read (after (held k Malformed b) cs) ≡ malformed
unfolding pushed pushed_buffer
stays k b [] = refl
stays k b (c ∷ cs) = ap (λ h. read (after h cs)) (again (digit_of c) refl) ∙ stays k b cs
  where
    again : (x : Option ℕ) → digit_of c ≡ x → next (held k Malformed b) c ≡ held k Malformed b
    again None e = rw e
    again (Some d) e = rw e

-- a character, by whether it is a digit and whether there is room
module _ (k : ℕ) (b : List ℕ) (c : ℕ) where
  no_digit : (rest : Rest) → digit_of c ≡ None → next (held k rest b) c ≡ held k Malformed b
  unfolding pushed pushed_buffer
  no_digit rest e = rw e

  first : (d : ℕ) → digit_of c ≡ Some d → next (held k Nothing b) c ≡ held k (Digit d) b
  unfolding pushed pushed_buffer
  first d e = rw e

  no_room : (high d : ℕ) → digit_of c ≡ Some d → length b ≤ k → next (held k (Digit high) b) c ≡ held k Malformed b
  unfolding pushed pushed_buffer
  no_room high d e full = rw (e, le-leb (length b) k full)

  second : (high d : ℕ) → high < 16 → digit_of c ≡ Some d → k < length b → next (held k (Digit high) b) c ≡ held (k + 1) Nothing (set b k (high * 16 + d))
  unfolding pushed pushed_buffer
  second high d h e room = let same : high % 16 ≡ high = omega arith in rw (e, lt-leb (length b) k room, same)

-- a character that spoils the line
spoilt : (h : Held) (k : ℕ) (b : List ℕ) (c : ℕ) (cs : List ℕ) → next h c ≡ held k Malformed b → read (after h (c ∷ cs)) ≡ malformed
spoilt h k b c cs e = ap (λ x. read (after x cs)) e ∙ stays k b cs

-- too many octets, whatever comes after them
over : (n : ℕ) (xs : List ℕ) (f : Frame) → n < length xs → at_most n (front xs f) ≡ malformed
over n xs (octets ys) h = rw (lt-leb (length (xs ++ ys)) n (rw length-append (omega arith)))
over n xs malformed h = refl

shift : (x : ℕ) (xs : List ℕ) (f : Frame) → front (xs ++ (x ∷ [])) f ≡ front xs (before x f)
shift x xs (octets ys) = ap octets (append_assoc xs (x ∷ []) ys)
shift x xs malformed = refl

front_nil : (f : Frame) → front [] f ≡ f
front_nil (octets ys) = refl
front_nil malformed = refl

-- from a whole pair on: what is read is what was there and what the rest decodes to
from : (k : ℕ) (b cs : List ℕ) → k ≤ length b → read (after (held k Nothing b) cs) ≡ at_most (length b) (front (take k b) (decode cs))
from k b [] h =
    rw append-nil (sym (rw (length-take-le k b h, le-leb k (length b) h)))
from k b (a ∷ []) h = go (digit_of a) refl
  where
    go : (x : Option ℕ) → digit_of a ≡ x → read (next (held k Nothing b) a) ≡ malformed
    go None e = ap read (no_digit k b a Nothing e)
    go (Some d) e = ap read (first k b a d e)
from k b (a ∷ c ∷ cs) h = go (digit_of a) (digit_of c) (leb (length b) k) refl refl refl (λ v r. from (k + 1) (set b k v) cs r)
  where
    go : (x y : Option ℕ) (u : Bool) → digit_of a ≡ x → digit_of c ≡ y → leb (length b) k ≡ u
        → ((v : ℕ) → k + 1 ≤ length (set b k v) → read (after (held (k + 1) Nothing (set b k v)) cs) ≡ at_most (length (set b k v)) (front (take (k + 1) (set b k v)) (decode cs)))
        → read (after (held k Nothing b) (a ∷ c ∷ cs)) ≡ at_most (length b) (front (take k b) (decode (a ∷ c ∷ cs)))
    go None y u e f g ih = spoilt (held k Nothing b) k b a (c ∷ cs) (no_digit k b a Nothing e) ∙ sym (rw e)
    go (Some x) None u e f g ih =
        ap (λ z. read (after z (c ∷ cs))) (first k b a x e) ∙ spoilt (held k (Digit x) b) k b c cs (no_digit k b c (Digit x) f) ∙ sym (rw (e, f))
    go (Some x) (Some y) true e f g ih = let n = leb-true (length b) k g in
        ap (λ z. read (after z (c ∷ cs))) (first k b a x e) ∙ spoilt (held k (Digit x) b) k b c cs (no_room k b c x y f n)
        ∙ sym (rw (e, f, ← shift (x * 16 + y) (take k b) (decode cs)) (over (length b) (take k b ++ ((x * 16 + y) ∷ [])) (decode cs) (rw (length-append, length-take-le k b h) (omega arith))))
    go (Some x) (Some y) false e f g ih = let n = leb-false (length b) k g in
        ap (λ z. read (after z (c ∷ cs))) (first k b a x e) ∙ ap (λ z. read (after z cs)) (second k b c x y (below a x e) f n)
        ∙ ih (x * 16 + y) (rw length-set (omega arith))
        ∙ rw (length-set, add-one, take-suc-set b k (x * 16 + y) n, shift, e, f)

-- a character that has come is known, whatever the line was
pushed_begun : (line : Line) (b : List ℕ) (c : ℕ) → has_begun (pushed line b c) ≡ true
unfolding has_begun pushed
pushed_begun line b c = go line.rest (digit_of c) (leb (length b) line.count) refl refl refl
  where
    go : (x : Rest) (y : Option ℕ) (u : Bool) → line.rest ≡ x → digit_of c ≡ y → leb (length b) line.count ≡ u → has_begun (pushed line b c) ≡ true
    go x None u e f g = rw (f, or-true)
    go Nothing (Some d) u e f g = rw (e, f, or-true)
    go Malformed (Some d) u e f g = rw (e, f, or-true)
    go (Digit high) (Some d) true e f g = rw (e, f, g, or-true)
    go (Digit high) (Some d) false e f g = rw (e, f, g, lt-ltb 0 (line.count + 1) (omega arith))

begun : (h : Held) (cs : List ℕ) → has_begun h.line ≡ true → has_begun (after h cs).line ≡ true
begun h [] e = e
begun h (c ∷ cs) e = begun (next h c) cs (pushed_begun h.line h.buffer c)

some : (h : Held) (cs : List ℕ) → has_begun h.line ≡ false → has_begun (after h cs).line ≡ is_some cs
some h [] e = e
some h (c ∷ cs) e = begun (next h c) cs (pushed_begun h.line h.buffer c)

pub decoding : Decoding
unfolding has_begun
decoding = record {
  reads = λ b cs. from 0 b cs (omega arith) ∙ ap (at_most (length b)) (front_nil (decode cs));
  begins = λ b cs. some (held 0 Nothing b) cs refl;
}

-- a character more leaves the buffer as long as it was
pub pushed_length : (line : Line) (b : List ℕ) (c : ℕ) → length (pushed_buffer line b c) ≡ length b
unfolding pushed_buffer
pushed_length line b c = go line.rest (digit_of c) (leb (length b) line.count) refl
  where
    go : (rest : Rest) (digit : Option ℕ) (u : Bool) → leb (length b) line.count ≡ u → length (taken_buffer line b rest digit) ≡ length b
    go rest None u e = refl
    go Nothing (Some d) u e = refl
    go Malformed (Some d) u e = refl
    go (Digit high) (Some low) true e = rw e
    go (Digit high) (Some low) false e = rw (e, length-set)
