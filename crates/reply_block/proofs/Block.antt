-- The replies and the numbers after n requests: their first n parts are replaced by what each place gets by itself. Assumes nothing.
use Prim.Native.Nat.{ℕ, ◌+◌, ◌-◌, ◌*◌, ◌≤◌, ◌<◌}
use native.Mathlib.Omega.{arith}
use native.Mathlib.Numerals.{add-one}
use mathlib.Core.Path.{◌≡◌, refl, ◌∙◌}
use mathlib.Core.List.{List, ◌++◌}
use lib.ListN.{take, drop, set}
use Rattle.arithmetic.specs.Octets.{part}
use Rattle.arithmetic.specs.Parts.{Each}
use Rattle.arithmetic.proofs.Octets.{length_part}
use Rattle.arithmetic.proofs.Parts.{same_part, put_back, part_replaced, past_replaced, length_replaced, next_made, get_or_singles, drop_singles, length_singles, set_singles}
use Rattle.packet.specs.Packet.{packet_length, packet_at}
use Rattle.server_packet.specs.declared.Settings.{Settings}
use Rattle.server.specs.Server.{replied, replied_buffer}
use Rattle.server.proofs.Replies as server
use Rattle.refusals.specs.Given.{result_number}
use Rattle.reply_block.specs.Block.{block_count, receive_at, transmit_at, reply_at, number_at, block_replies, block_numbers}
use Rattle.reply_block.specs.Laws.{BlockLaws}

-- the octets from 48 * i to 48 * i + 48, lent for a reply and put back
module _ (s : Settings) (i : ℕ) (requests times replies : List ℕ) where
  abbrev lent : List ℕ → List ℕ
  lent l = part (48 * i) (48 * i + 48 - 48 * i) l

  pub put_reply : {after : List ℕ} → after ≡ replied_buffer s (lent requests) (receive_at i times) (transmit_at i times) (lent replies)
      → take (48 * i) replies ++ (after ++ drop (48 * i + 48 - 48 * i) (drop (48 * i) replies))
      ≡ take (48 * i) replies ++ reply_at s i requests times replies ++ drop (48 * i + 48) replies
  put_reply e =
      put_back 48 replies (48 * i) (replied_buffer s (packet_at i requests) (receive_at i times) (transmit_at i times))
      (e ∙ rw (same_part 48 requests (48 * i)))

  pub put_number : (numbers : List ℕ) {number : ℕ} → number ≡ result_number (replied s (lent requests) (receive_at i times) (transmit_at i times) (lent replies))
      → set numbers i number ≡ set numbers i (number_at s i requests times replies)
  put_number numbers e = rw (e, same_part 48 requests (48 * i), same_part 48 replies (48 * i))

module _ (s : Settings) (requests times replies numbers : List ℕ) where
  abbrev replies_at : ℕ → List ℕ
  replies_at k = reply_at s k requests times replies

  abbrev numbers_at : ℕ → ℕ
  numbers_at k = number_at s k requests times replies

  each_reply : (n : ℕ) → n ≤ block_count requests times replies numbers → Each packet_length replies_at n
  each_reply n room k h = (server.replies s _ _ _ _).length_kept ∙ length_part (48 * k) 48 replies (omega arith)

  pub block_laws : (n : ℕ) → n ≤ block_count requests times replies numbers → BlockLaws s n requests times replies numbers
  unfolding block_replies block_numbers
  block_laws n room = record {
    reply = λ k h. part_replaced 48 replies replies_at n (each_reply n room) k h;
    number = λ k h. get_or_singles numbers numbers_at n k h;
    replies_kept = past_replaced 48 replies replies_at n (each_reply n room);
    numbers_kept = drop_singles numbers numbers_at n;
    replies_length = length_replaced 48 replies replies_at n (each_reply n room) (omega arith);
    numbers_length = length_singles numbers numbers_at n (omega arith);
  }

  -- no request
  pub no_reply : replies ≡ block_replies s 0 requests times replies
  unfolding block_replies
  no_reply = refl

  pub no_number : numbers ≡ block_numbers s 0 requests times replies numbers
  unfolding block_numbers
  no_number = refl

  -- one request more, where the replies to the first n stand in held
  module _ (n : ℕ) (room : n < block_count requests times replies numbers) (held : List ℕ) (is_held_lem : held ≡ block_replies s n requests times replies) where
    same_place : packet_at n held ≡ packet_at n replies
    same_place = rw (is_held_lem, (block_laws n (omega arith)).replies_kept)

    pub next_replies : {after : List ℕ}
        → after ≡ take (packet_length * n) held ++ reply_at s n requests times held ++ drop (packet_length * n + packet_length) held
        → after ≡ block_replies s (n + 1) requests times replies
    unfolding block_replies
    next_replies e =
        next_made 48 replies (λ k. replied_buffer s (packet_at k requests) (receive_at k times) (transmit_at k times)) n (each_reply n (omega arith)) is_held_lem e

    pub next_numbers : {before after : List ℕ} → before ≡ block_numbers s n requests times replies numbers
        → after ≡ set before n (number_at s n requests times held) → after ≡ block_numbers s (n + 1) requests times replies numbers
    unfolding block_numbers
    next_numbers b e = e ∙ rw (same_place, b, add-one n) (set_singles numbers numbers_at n (omega arith))
