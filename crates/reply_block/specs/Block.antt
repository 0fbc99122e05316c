-- What the server replies to requests that stand one after another: to each what `server::reply` replies to it.
use Rattle.std.specs.Prelude.{ℕ, min, ◌+◌, ◌*◌, ◌/◌, List, [], ◌∷◌, length, get_or}
use Rattle.arithmetic.specs.Parts.{replaced}
use Rattle.timestamp.specs.declared.Timestamp.{Timestamp}
use Rattle.timestamp.specs.Timestamp.{timestamp}
use Rattle.packet.specs.Packet.{packet_length, packet_count, packet_at}
use Rattle.server_packet.specs.declared.Settings.{Settings}
use Rattle.server.specs.Server.{replied, replied_buffer}
use Rattle.refusals.specs.Given.{result_number}

-- how many requests are answered: each takes 48 octets of the requests, two times, 48 octets of the replies and a number
abbrev pub block_count : (requests times replies numbers : List ℕ) → ℕ
block_count requests times replies numbers =
    min (min (packet_count requests) (length times / 2)) (min (packet_count replies) (length numbers))

-- the T2 and the T3 of place k
abbrev pub receive_at : ℕ → List ℕ → Timestamp
receive_at k times = timestamp (get_or times (2 * k) 0)

abbrev pub transmit_at : ℕ → List ℕ → Timestamp
transmit_at k times = timestamp (get_or times (2 * k + 1) 0)

-- what the replies have at place k once the request there is answered, and the number of that answer
abbrev pub reply_at : Settings → ℕ → (requests times replies : List ℕ) → List ℕ
reply_at s k requests times replies = replied_buffer s (packet_at k requests) (receive_at k times) (transmit_at k times) (packet_at k replies)

abbrev pub number_at : Settings → ℕ → (requests times replies : List ℕ) → ℕ
number_at s k requests times replies = result_number (replied s (packet_at k requests) (receive_at k times) (transmit_at k times) (packet_at k replies))

-- the replies once n requests are answered, and the numbers; what is past them stays
unfoldable pub block_replies : Settings → ℕ → (requests times replies : List ℕ) → List ℕ
block_replies s n requests times replies = replaced packet_length replies (λ k. reply_at s k requests times replies) n

unfoldable pub block_numbers : Settings → ℕ → (requests times replies numbers : List ℕ) → List ℕ
block_numbers s n requests times replies numbers = replaced 1 numbers (λ k. number_at s k requests times replies ∷ []) n
