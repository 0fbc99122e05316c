-- Broadcast for C (docs/C.md).
use Rattle.std.specs.Prelude.{ℕ, min, List, ℤ, Result}
use Rattle.refusals.specs.declared.Refusal.{Refusal}
use Rattle.refusals.specs.Given.{after}
use Rattle.timestamp.specs.Timestamp.{timestamp}
use Rattle.server_packet.specs.declared.Settings.{Settings}
use Rattle.broadcast.specs.Broadcast.{broadcast_written, broadcast_buffer}

-- ---- the writer

-- what the inner call answers, and the buffer after it: a version or poll setting that 8 bits do not hold becomes 255, which 22 or 41 refuses
abbrev pub write_answer : Settings → (version poll t3 room : ℕ) → Result (Unit {0}) Refusal
write_answer s version poll t3 room = broadcast_written s (min version 255) (min poll 255) (timestamp t3) room

abbrev pub buffer_after : Settings → (version poll t3 : ℕ) → List ℕ → List ℕ
buffer_after s version poll t3 buffer = broadcast_buffer s (min version 255) (min poll 255) (timestamp t3) buffer

-- ---- the client

-- a refusal tells none
abbrev pub difference_after : ℤ → Result ℤ Refusal → ℤ
difference_after = after (λ units. units)
