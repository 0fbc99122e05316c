-- What a call on what is left of an input says of its counts.
use Rattle.std.proofs.Common.{ℕ, ◌≤◌, ◌≡◌, List, [], ◌∷◌, length, ap, arith}
use Rattle.replay_lines.specs.declared.Replay.{Replay}
use Rattle.replay_lines.specs.declared.Fed.{Fed}
use Rattle.replay_lines.specs.Feed.{longest_line, ran, fed}
use Rattle.replay_lines.proofs.Pieces.{pieces}

-- a call that is offered something and has room for any answer takes something
some : (r : Replay) (xs : List ℕ) (room : ℕ) → 1 ≤ length xs → longest_line ≤ room → 1 ≤ (ran r xs room).consumed
some r [] room h k = absurd (omega arith)
some r (c ∷ xs) room h k = pieces.goes_on r c xs room k

module _ (r : Replay) (left : List ℕ) (room : ℕ) {f : Fed} (e : f ≡ fed (ran r left room)) where
  pub consumed_within : f.consumed ≤ length left
  consumed_within = let w = (pieces.within r left room).0 in let t = ap (λ z. z.consumed) e in omega arith

  pub takes : 1 ≤ length left → longest_line ≤ room → 1 ≤ f.consumed
  takes h k = let w = some r left room h k in let t = ap (λ z. z.consumed) e in omega arith
