-- The server for C (docs/C.md).
use Rattle.std.specs.Prelude.{ℕ, min, List, ℤ}
use Rattle.timestamp.specs.Timestamp.{timestamp}
use Rattle.server_packet.specs.declared.Settings.{Settings}
use Rattle.server.specs.Server.{replied, replied_buffer}
use Rattle.refusals.specs.Given.{result_number}
use Rattle.firmware.specs.Numbers.{yes, narrow_signed}

-- what C sets, as the inner call takes it
abbrev pub settings : (synchronised leap : ℕ) (precision : ℤ) (identifier reference : ℕ) → Settings
settings synchronised leap precision identifier reference = record {
  synchronised = yes synchronised;
  leap = min leap 255;
  precision = narrow_signed precision;
  identifier = identifier;
  reference = timestamp reference;
}

-- the number that the call returns, and the buffer after it
abbrev pub reply_number : Settings → List ℕ → (t2 t3 : ℕ) → List ℕ → ℕ
reply_number s request t2 t3 buffer = result_number (replied s request (timestamp t2) (timestamp t3) buffer)

abbrev pub reply_buffer : Settings → List ℕ → (t2 t3 : ℕ) → List ℕ → List ℕ
reply_buffer s request t2 t3 buffer = replied_buffer s request (timestamp t2) (timestamp t3) buffer
