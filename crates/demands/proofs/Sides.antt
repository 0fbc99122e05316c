-- P - Q and d differ by a multiple of 2^64, and both are so small that the multiple is none or one.
use Prim.Native.Nat.{◌+◌, ◌^◌, ◌≤◌, ◌<◌}
use mathlib.Core.Path.{◌≡◌}
use mathlib.Core.Logic.{◌⊎◌, inl, inr}
use native.Mathlib.Decide.{dec_lt}
use native.Mathlib.Omega.{arith}
use lib.IntN.{pos, ◌-ℤ◌}
use Rattle.arithmetic.proofs.Integers.{up, dn, integers, integers_eq, minus}
use Rattle.arithmetic.proofs.Modulo.{Congruent, near}
use Rattle.timestamp.specs.Timestamp.{◌since◌}
use Rattle.timestamp.proofs.Order.{congruent, fits}
use Rattle.demands.specs.Measure.{Four, P, Q, d}
use Rattle.demands.specs.Sides.{Before19, Sides, DifferentSides}

module _ (x : Four) where
  open x use {t1, t2, t3, t4}

  circles : Congruent (2 ^ 64) (P x -ℤ Q x) (d x)
  circles =
      let p = congruent t2 t1 in
      let q = congruent t3 t4 in
      let trip = congruent t4 t1 in
      let hold = congruent t3 t2 in
      let e₁ = minus (pos t2.0) (pos t1.0) in
      let e₂ = minus (pos t3.0) (pos t4.0) in
      let e₃ = minus (pos t4.0) (pos t1.0) in
      let e₄ = minus (pos t3.0) (pos t2.0) in
      let e₅ = minus (P x) (Q x) in
      let e₆ = minus (t4 since t1) (t3 since t2) in
      record {
        less = p.less + q.more + trip.more + hold.less;
        more = p.more + q.less + trip.less + hold.more;
        even = omega (arith, p.even, q.even, trip.even, hold.even);
      }

  module _ (o : Before19 x) where
    -- the ranges of P, Q, P - Q and d, in natural numbers
    record Ranges : Type 0 where
      first : (dn (P x) ≤ up (P x) + 2 ^ 63) × (up (P x) < dn (P x) + 2 ^ 63)
      second : (dn (Q x) ≤ up (Q x) + 2 ^ 63) × (up (Q x) < dn (Q x) + 2 ^ 63)
      split : up (P x -ℤ Q x) + (dn (P x) + up (Q x)) ≡ (up (P x) + dn (Q x)) + dn (P x -ℤ Q x)
      delay : (dn (d x) ≤ up (d x)) × (up (d x) ≤ dn (d x) + 2 ^ 36)

    ranges : Ranges
    ranges =
        let f = fits t2 t1 in
        let g = fits t3 t4 in
        let e₁ = minus (P x) (Q x) in
        let e₂ = minus (t4 since t1) (t3 since t2) in
        omega (arith, integers, f, g, o.arrived_after, o.within_limit, o.answered_after, o.delay)

    same : up (Q x) + dn (P x) ≤ up (P x) + dn (Q x) → P x -ℤ Q x ≡ d x
    same h =
        let r = ranges in
        let c = circles in
        integers_eq (near (2 ^ 64) _ _ c.less c.more c.even (omega arith) (omega arith))

    wrapped : up (P x) + dn (Q x) < up (Q x) + dn (P x) → P x -ℤ Q x ≡ d x -ℤ pos (2 ^ 64)
    wrapped h =
        let r = ranges in
        let c = circles in
        let n = near (2 ^ 64) (up (P x -ℤ Q x) + dn (d x) + 2 ^ 64) (up (d x) + dn (P x -ℤ Q x)) c.less (c.more + 1) (omega (arith, c.even)) (omega arith) (omega arith) in
        omega (arith, integers, minus (d x) (pos (2 ^ 64)))

    sides : Sides x
    sides =
        let r = ranges in
        let m = minus (d x) (pos (2 ^ 64)) in
        record {
          either = go (dec_lt (up (P x) + dn (Q x)) (up (Q x) + dn (P x)));
          across = (λ l. wrapped (omega (arith, integers)), λ e. omega (arith, integers));
          opposite = (λ l. let w = wrapped (omega (arith, integers)) in (omega (arith, integers), omega (arith, integers)), λ (l, h). omega (arith, integers));
        }
      where
        go : Dec (up (P x) + dn (Q x) < up (Q x) + dn (P x)) → (P x -ℤ Q x ≡ d x) ⊎ (P x -ℤ Q x ≡ d x -ℤ pos (2 ^ 64))
        go (yes h) = inr (wrapped h)
        go (no f) = inl (same (omega arith))

pub different_sides : DifferentSides
different_sides = sides
