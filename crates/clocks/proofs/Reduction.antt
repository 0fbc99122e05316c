-- Cutting down before or after the reduction modulo 2^64 is the same: a tick divides 2^64.
use Prim.Native.Nat.{ℕ, ◌+◌, ◌-◌, ◌*◌, ◌/◌, ◌%◌, ◌^◌, ◌≤◌}
use mathlib.Core.Path.{◌≡◌, sym, ap, subst, ◌∙◌}
use native.Mathlib.Nat.{mod-lt, mod-le, div-add-mod}
use native.Mathlib.Omega.{arith}
use lib.IntN.{ℤ, pos}
use lib.Pow.{pow_pos, pow-add}
use Rattle.arithmetic.specs.Modulo.{◌modulo◌}
use Rattle.arithmetic.proofs.Modulo.{Congruent, modulo_below, modulo_is, residue}
use Rattle.clocks.specs.Ticks.{cut_down, EitherWay}
use Rattle.clocks.proofs.Cut.{cut_is}

module _ (k : ℕ) (z : ℤ) (h : k ≤ 32) where
  abbrev tick : ℕ
  tick = 2 ^ k

  abbrev reduced : ℕ
  reduced = z modulo 2 ^ 64

  circle : 2 ^ 64 ≡ 2 ^ k * 2 ^ (64 - k)
  circle = let e : 64 ≡ k + (64 - k) = omega arith in ap (λ i. 2 ^ i) e ∙ pow-add 2 k (64 - k)

  r : Congruent (2 ^ 64) (pos reduced) z
  r = residue z (2 ^ 64) (omega arith)

  rest : z modulo tick ≡ reduced % tick
  rest = modulo_is tick (reduced % tick) z (mod-lt reduced (pow_pos k)) (record {
    less = 2 ^ (64 - k) * r.less + reduced / tick;
    more = 2 ^ (64 - k) * r.more;
    even = omega (arith, r.even, div-add-mod reduced tick, ap (λ x. x * r.less) circle, ap (λ x. x * r.more) circle);
  })

  same : cut_down tick z modulo 2 ^ 64 ≡ reduced - reduced % tick
  same = modulo_is (2 ^ 64) (reduced - reduced % tick) (cut_down tick z) (omega (arith, modulo_below z {n = 2 ^ 64} (omega arith)))
      (record { less = r.less; more = r.more; even = omega (arith, r.even, rest, cut_is tick (pow_pos k) z, mod-le reduced tick) })

pub either_way : EitherWay
either_way tick z (k, h, is) = subst (λ n. cut_down n z modulo 2 ^ 64 ≡ z modulo 2 ^ 64 - (z modulo 2 ^ 64) % n) (sym is) (same k z h)
