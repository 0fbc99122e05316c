-- Intervals of 2^exponent seconds.
use Rattle.std.proofs.Common.{ℕ, ◌+◌, ◌*◌, ◌%◌, ◌^◌, ◌<◌, ◌≤◌, ◌≡◌, true, arith}
use borrow.Author.Tests.{lt-ltb}
use lib.Pow.{pow_mono}
use Rattle.poll.specs.Poll.{too_soon}

-- 2^64 seconds past is past every uptime
pub never_late : (since exponent uptime : ℕ) → uptime < 2 ^ 64 → 64 ≤ exponent → true ≡ too_soon since (2 ^ exponent) uptime
unfolding too_soon
never_late since exponent uptime u h = let p = pow_mono {i = 64} {j = exponent} h in rw (lt-ltb uptime (since + 2 ^ exponent) (omega arith))

-- 1 shifted by the exponent
pub shifted : (exponent : ℕ) → exponent < 64 → 1 * 2 ^ exponent % 2 ^ 64 ≡ 2 ^ exponent
shifted exponent h = omega (arith, pow_mono {i = exponent} {j = 63} (omega arith))
