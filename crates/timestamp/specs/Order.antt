-- When two timestamps have no order, and what a difference is wherever they have one. proofs/Order.antt proves it.
use Rattle.std.specs.Prelude.{◌≡◌, ◌^◌, ◌<◌, false, ◌↔◌, pos, ◌-ℤ◌, neg_ℤ, unsigned_abs, None}
use Rattle.timestamp.specs.declared.Timestamp.{Timestamp}
use Rattle.timestamp.specs.Timestamp.{◌since◌, has_no_order, ordered}

pub record Order (x y : Timestamp) : Type 0 where
  -- no order exactly where the two are 2^63 apart
  pub exactly : (ordered (x since y) ≡ None) ↔ (unsigned_abs (pos x.0 -ℤ pos y.0) ≡ 2 ^ 63)
  -- whichever way the difference is taken
  pub both_ways : ordered (x since y) ≡ None → ordered (y since x) ≡ None
  -- and where there is an order, the two differences are each other's negative
  pub negatives : has_no_order (x since y) ≡ false → y since x ≡ neg_ℤ (x since y)

abbrev pub Orders : Type 0
Orders = (x y : Timestamp) → x.0 < 2 ^ 64 → y.0 < 2 ^ 64 → Order x y
