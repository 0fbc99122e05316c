-- The exchange between clocks that tick: what the differences of the four readings are, and the bound.
use Prim.Native.Nat.{ℕ, ◌+◌, ◌-◌, ◌^◌, ◌≤◌, ◌<◌}
use mathlib.Core.Path.{◌≡◌}
use native.Mathlib.Omega.{arith}
use lib.IntN.{ℤ, pos, neg_ℤ, nat_abs, ◌+ℤ◌, ◌-ℤ◌}
use lib.Signed.{◌≤ℤ◌}
use Rattle.arithmetic.proofs.Integers.{up, dn, integers, sum, minus, neg, size, size_is, size_le, eq_integers}
use Rattle.arithmetic.proofs.Modulo.{modulo_below}
use Rattle.arithmetic.proofs.TwosComplement.{exact}
use Rattle.timestamp.specs.Timestamp.{◌since◌}
use Rattle.offset.specs.Halving.{twice}
use Rattle.offset.proofs.Halving.{halving}
use Rattle.clocks.specs.Four.{Four, P, Q, d, offset, half}
use Rattle.clocks.specs.Exchange.{clocks_apart, Exchange, true_difference}
use Rattle.clocks.specs.Ticks.{cut_down, reading, readings, Orderly, excess, InBound, Bounded}
use Rattle.clocks.proofs.Cut.{some_unit, lost, cut_order}

pub reading_below : (tick : ℕ) (constant t : ℤ) → (reading tick constant t).0 < 2 ^ 64
unfolding reading
reading_below tick constant t = modulo_below (cut_down tick (t +ℤ constant)) (omega arith)

-- a reading before its reduction
abbrev shown : ℕ → ℤ → ℤ → ℤ
shown tick constant t = cut_down tick (t +ℤ constant)

-- the difference of two readings is that of what the clocks show, where that is in range; said in natural numbers
abbrev Gap : ℤ → ℤ → ℤ → Type 0
Gap r x y = up r + (dn x + up y) ≡ (up x + dn y) + dn r

gap : (m n : ℕ) (a b t u : ℤ)
    → dn (shown m a t) + up (shown n b u) ≤ up (shown m a t) + dn (shown n b u) + 2 ^ 63
    → up (shown m a t) + dn (shown n b u) < dn (shown m a t) + up (shown n b u) + 2 ^ 63
    → Gap (reading m a t since reading n b u) (shown m a t) (shown n b u)
unfolding reading ◌since◌
gap m n a b t u low high =
    let x = shown m a t in
    let y = shown n b u in
    let s = minus x y in
    omega (arith, eq_integers (exact 64 x y (omega arith) (record { low = omega (arith, integers, neg (pos (2 ^ 63))); high = omega (arith, integers) })))

-- what a clock shows is its time, less at most its tick less one unit
lag : (tick : ℕ) → 0 < tick → (constant t : ℤ) → let x = shown tick constant t in
    (up x + (dn t + dn constant) ≤ up t + up constant + dn x) × (up t + up constant + dn x ≤ up x + (dn t + dn constant) + (tick - 1))
lag tick some constant t = omega (arith, lost tick some (t +ℤ constant), sum t constant)

small : (z : ℤ) → dn z < up z + 2 ^ 63 → up z < dn z + 2 ^ 63 → nat_abs z < 2 ^ 63
small z low high = omega (arith, size_is z)

module _ (m n : ℕ) (e : Exchange) (o : Orderly m n e) where
  open e use {sent, received, answered, arrived, client, server}

  abbrev t : Four
  t = readings m n e

  abbrev trip : ℤ
  trip = t.t4 since t.t1

  abbrev held : ℤ
  held = t.t3 since t.t2

  record Known : Type 0 where
    outward : up sent + dn received ≤ up received + dn sent
    hold : up received + dn answered ≤ up answered + dn received
    back : up answered + dn arrived ≤ up arrived + dn answered
    short : up arrived + dn sent + (m - 1) ≤ up sent + dn arrived + 2 ^ 36
    above : up server + dn client + (m - 1) + (n - 1) < dn server + up client + clocks_apart
    below : dn server + up client + (m - 1) + (n - 1) < up server + dn client + clocks_apart

  known : Known
  known =
      let s = size (server -ℤ client) in
      let near = o.near in
      omega (arith, integers, o.outward, o.hold, o.back, o.short, minus server client, minus arrived sent, sum (arrived -ℤ sent) (pos (m - 1)))

  -- the tests of the trip and of the server's time; that P - Q is d; that Q is above the true difference by at most the client's tick less one unit, and P
  -- below it by at most the server's
  record Found : Type 0 where
    arrived_after : dn trip ≤ up trip
    within_limit : up trip ≤ dn trip + 2 ^ 36
    answered_after : dn held ≤ up held
    hold_small : up held < dn held + 2 ^ 63
    first_small : (dn (P t) < up (P t) + 2 ^ 63) × (up (P t) < dn (P t) + 2 ^ 63)
    second_small : (dn (Q t) < up (Q t) + 2 ^ 63) × (up (Q t) < dn (Q t) + 2 ^ 63)
    same_side : up (P t) + dn (Q t) + dn (d t) ≡ dn (P t) + up (Q t) + up (d t)
    second_above : up (Q t) + dn server + up client ≤ dn (Q t) + up server + dn client + (m - 1)
    first_below : dn (P t) + up server + dn client ≤ up (P t) + dn server + up client + (n - 1)

  found : Found
  found =
      let k = known in
      let some-m = some_unit m o.ticks.0 in
      let some-n = some_unit n o.ticks.1 in
      let s = lag m some-m client sent in
      let r = lag n some-n server received in
      let a = lag n some-n server answered in
      let v = lag m some-m client arrived in
      let out-and-back = cut_order m some-m (sent +ℤ client) (arrived +ℤ client) (omega (arith, sum sent client, sum arrived client)) in
      let in-and-out = cut_order n some-n (received +ℤ server) (answered +ℤ server) (omega (arith, sum received server, sum answered server)) in
      let total = gap m m client client arrived sent (omega arith) (omega arith) in
      let hold = gap n n server server answered received (omega arith) (omega arith) in
      let first = gap n m server client received sent (omega arith) (omega arith) in
      let second = gap n m server client answered arrived (omega arith) (omega arith) in
      omega (arith, minus trip held)

  -- the delay is below zero by at most both ticks, each less one unit
  pub least : dn (d t) ≤ up (d t) + (m - 1) + (n - 1)
  least = let f = found in omega arith

  -- what the rules of the four readings ask, but for the delay
  pub record Timely : Type 0 where
    pub trip_small : nat_abs trip < 2 ^ 63
    pub arrived_after : pos 0 ≤ℤ trip
    pub within_limit : trip ≤ℤ pos (2 ^ 36)
    pub hold_small : nat_abs held < 2 ^ 63
    pub answered_after : pos 0 ≤ℤ held
    pub first_small : nat_abs (P t) < 2 ^ 63
    pub second_small : nat_abs (Q t) < 2 ^ 63
    pub same_side : pos 0 ≤ℤ d t → Q t ≤ℤ P t

  pub timely : Timely
  timely =
      let f = found in
      record {
        trip_small = small trip (omega arith) (omega arith);
        arrived_after = omega (arith, integers);
        within_limit = omega (arith, integers);
        hold_small = small held (omega arith) (omega arith);
        answered_after = omega (arith, integers);
        first_small = small (P t) (omega arith) (omega arith);
        second_small = small (Q t) (omega arith) (omega arith);
        same_side = λ h. omega (arith, integers);
      }

  abbrev miss : ℤ
  miss = excess e (offset t) (half t)

  miss_is : up miss + (dn (P t) + dn (Q t) + (up server + dn client) + (up server + dn client)) ≡ (up (P t) + up (Q t) + (dn server + up client) + (dn server + up client)) + dn miss
  miss_is =
      let D = true_difference e in
      let exact-sum = eq_integers (halving (P t +ℤ Q t)).exact in
      omega (arith, minus server client, sum D D, sum (P t) (Q t), minus (twice (offset t) +ℤ pos (half t)) (twice D))

  above : (k : ℕ) → m - 1 ≤ k → miss ≤ℤ (d t +ℤ twice (pos k))
  above k h = let f = found in omega (arith, integers, miss_is, sum (d t) (twice (pos k)))

  below : (k : ℕ) → n - 1 ≤ k → neg_ℤ miss ≤ℤ (d t +ℤ twice (pos k))
  below k h = let f = found in omega (arith, integers, miss_is, neg miss, sum (d t) (twice (pos k)))

  within : (k : ℕ) → m - 1 ≤ k → n - 1 ≤ k → pos (nat_abs miss) ≤ℤ (d t +ℤ twice (pos k))
  within k a b = let most = d t +ℤ twice (pos k) in size_le miss most (omega (arith, integers, below k b, neg miss, neg most)) (above k a)

  in_bound : InBound m n e (offset t) (half t)
  in_bound = record { bound = within _ (omega arith) (omega arith); above = above _ (omega arith); below = below _ (omega arith) }

pub bounded : Bounded
bounded = in_bound
