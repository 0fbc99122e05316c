-- The characters up to a line feed, one after another.
use Rattle.std.proofs.Common.{ℕ, ◌+◌, ◌-◌, ◌<◌, ◌≤◌, ◌≡◌, ◌≢◌, List, [], ◌∷◌, length, take, drop, get_or, add-one, add-zero, drop-cons, ne_eqb}
use Rattle.std.proofs.Math.ListN.{drop_of_length-le}
use Rattle.std.proofs.lemmas.List.{take_rest}
use Rattle.hex_decode.specs.declared.Line.{Line}
use Rattle.hex_decode.specs.declared.PushedLine.{PushedLine}
use Rattle.hex_decode.specs.Decoding.{Held, after, to_line_feed, held_after, pushed_line, pushed_line_buffer}

module _ (cs : List ℕ) (i : ℕ) where
  pub ended : i < length cs → get_or cs i 0 ≡ 10 → to_line_feed (drop i cs) ≡ []
  ended h e = rw (drop-cons cs i 0 h, e)

  pub goes_on : i < length cs → get_or cs i 0 ≢ 10 → to_line_feed (drop i cs) ≡ get_or cs i 0 ∷ to_line_feed (drop (i + 1) cs)
  goes_on h e = rw (drop-cons cs i 0 h, ne_eqb (get_or cs i 0) 10 e, add-one)

  pub none : length cs ≤ i → to_line_feed (drop i cs) ≡ []
  none h = rw (drop_of_length-le cs h)

-- where no character is left to take, what is known is what all of them make of it
module _ (cs left : List ℕ) (at i : ℕ) (h : Held) (line : Line) (buffer : List ℕ) where
  pub stopped : left ≡ take (length cs - at) (drop at cs) → to_line_feed (drop i left) ≡ []
      → after h (to_line_feed (drop i left)) ≡ held_after line buffer left 0 → i + length (to_line_feed (drop i left)) ≡ length (to_line_feed left)
      → (◌≡◌ {A = PushedLine} (record { line = h.line; at = at + i }) (pushed_line line buffer cs at)) × (h.buffer ≡ pushed_line_buffer line buffer cs at)
  unfolding pushed_line pushed_line_buffer
  stopped w e f k =
      let v = rw take_rest at w in
      let f' = rw (e, v) at f in
      let k' = rw (e, add-zero, v) at k in
      (λ j. record { line = (f' j).line; at = at + k' j }, λ j. (f' j).buffer)
