-- What refusal 19 means: the first difference P and the second difference Q lie on different sides of the half circle.
use Rattle.std.specs.Prelude.{◌^◌, ◌≡◌, ◌↔◌, ◌⊎◌, pos, ◌-ℤ◌, ◌≤ℤ◌, ◌<ℤ◌}
use Rattle.timestamp.specs.Timestamp.{◌since◌}
use Rattle.demands.specs.Measure.{Four, P, Q, d}

module _ (x : Four) where
  -- 15 to 18 pass
  pub record Before19 : Type 0 where
    pub arrived_after : pos 0 ≤ℤ (x.t4 since x.t1)
    pub within_limit : (x.t4 since x.t1) ≤ℤ pos (2 ^ 36)
    pub answered_after : pos 0 ≤ℤ (x.t3 since x.t2)
    pub delay : pos 0 ≤ℤ d x

  -- P - Q is d or a whole circle less; P is below Q exactly in the second case, and exactly where P is on the negative side and Q is not
  pub record Sides : Type 0 where
    pub either : (P x -ℤ Q x ≡ d x) ⊎ (P x -ℤ Q x ≡ d x -ℤ pos (2 ^ 64))
    pub across : (P x <ℤ Q x) ↔ (P x -ℤ Q x ≡ d x -ℤ pos (2 ^ 64))
    pub opposite : (P x <ℤ Q x) ↔ ((P x <ℤ pos 0) × (pos 0 ≤ℤ Q x))

abbrev pub DifferentSides : Type 0
DifferentSides = (x : Four) → Before19 x → Sides x
