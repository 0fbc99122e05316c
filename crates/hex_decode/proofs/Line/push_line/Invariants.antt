-- The characters that are left make of the line what all of them make of it.
use Rattle.std.proofs.Common.{◌≡◌, ◌+◌, length, drop}
use Rattle.hex_decode.specs.Decoding.{to_line_feed, held_after}
use Rattle.hex_decode.proofs.Line.push_line.Given as goal

abbrev pub invariant-loop-i : goal.invariant-loop-i
invariant-loop-i l = record {
  held : held_after l.line l.buffer l.left l.i ≡ held_after l.initial.line l.initial.buffer l.left 0;
  counted : l.i + length (to_line_feed (drop l.i l.left)) ≡ length (to_line_feed l.left);
}
