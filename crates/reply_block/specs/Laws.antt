-- What the replies and the numbers are, place for place, and what stays: stated of the definitions that the contract of `reply_block` cites, for every n up to
-- the count. proofs/Block.antt proves it.
use Rattle.std.specs.Prelude.{ℕ, ◌*◌, ◌<◌, ◌≡◌, List, length, drop, get_or}
use Rattle.packet.specs.Packet.{packet_length, packet_at}
use Rattle.server_packet.specs.declared.Settings.{Settings}
use Rattle.reply_block.specs.Block.{reply_at, number_at, block_replies, block_numbers}

pub record BlockLaws (s : Settings) (n : ℕ) (requests times replies numbers : List ℕ) : Type 0 where
  -- each place has the reply to its request, and the number of that reply
  pub reply : (k : ℕ) → k < n → packet_at k (block_replies s n requests times replies) ≡ reply_at s k requests times replies
  pub number : (k : ℕ) → k < n → get_or (block_numbers s n requests times replies numbers) k 0 ≡ number_at s k requests times replies
  -- what is past them stays
  pub replies_kept : drop (packet_length * n) (block_replies s n requests times replies) ≡ drop (packet_length * n) replies
  pub numbers_kept : drop n (block_numbers s n requests times replies numbers) ≡ drop n numbers
  -- and so do the lengths
  pub replies_length : length (block_replies s n requests times replies) ≡ length replies
  pub numbers_length : length (block_numbers s n requests times replies numbers) ≡ length numbers
