-- After i turns i requests are answered.
use Rattle.std.proofs.Common.{◌≡◌}
use Rattle.reply_block.specs.Block.{block_replies, block_numbers}
use Rattle.reply_block.proofs.reply_block.Given as goal

abbrev pub invariant-loop-i : goal.invariant-loop-i
invariant-loop-i l = record {
  answered : l.replies ≡ block_replies l.settings l.i l.requests l.times l.initial.replies;
  told : l.numbers ≡ block_numbers l.settings l.i l.requests l.times l.initial.replies l.initial.numbers;
}
