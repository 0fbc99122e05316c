-- Exchanges within the premises of demand 3: the one of the rules' replay, over 2036, and two at the edge of what is allowed.
use Rattle.std.specs.Prelude.{ℕ, ◌+◌, ◌-◌, ◌^◌, ◌≡◌, pos, neg_ℤ}
use Rattle.timestamp.specs.Timestamp.{timestamp}
use Rattle.clocks.specs.Four.{P, Q}
use Rattle.clocks.specs.Exchange.{Exchange, T1, T2, T3, T4, readings, Orderly}

-- T1 is FFFFFFFA 00000000; the server's clock is 10.125 s ahead; each way takes 0.375 s, and the server a second
abbrev pub replay : Exchange
replay = record {
  sent = pos 0;
  received = pos 0x60000000;
  answered = pos 0x160000000;
  arrived = pos 0x1C0000000;
  client = pos 0xFFFFFFFA00000000;
  server = pos 0x10000000420000000;
}

-- clocks as far apart as is allowed
abbrev farthest : ℕ
farthest = 2 ^ 63 - 2 ^ 36 - 1

-- the request takes 16 s to a server that is ahead, and the reply no time
abbrev pub ahead : Exchange
ahead = record {
  sent = pos 1;
  received = pos (1 + 2 ^ 36);
  answered = pos (1 + 2 ^ 36);
  arrived = pos (1 + 2 ^ 36);
  client = pos 0;
  server = pos farthest;
}

-- the request takes no time to a server that is behind, and the reply 16 s
abbrev pub behind : Exchange
behind = record {
  sent = pos 1;
  received = pos 1;
  answered = pos 1;
  arrived = pos (1 + 2 ^ 36);
  client = pos 0;
  server = neg_ℤ (pos farthest);
}

pub record WorkedExchanges : Type 0 where
  pub replay_orderly : Orderly replay
  pub replay_read : (T1 replay ≡ timestamp 0xFFFFFFFA00000000) × (T2 replay ≡ timestamp 0x0000000480000000)
      × (T3 replay ≡ timestamp 0x0000000580000000) × (T4 replay ≡ timestamp 0xFFFFFFFBC0000000)
  pub ahead_orderly : Orderly ahead
  pub ahead_highest : P (readings ahead) ≡ pos (2 ^ 63 - 1)
  pub behind_orderly : Orderly behind
  pub behind_lowest : Q (readings behind) ≡ neg_ℤ (pos (2 ^ 63 - 1))
