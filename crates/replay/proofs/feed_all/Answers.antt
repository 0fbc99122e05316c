use Rattle.std.proofs.Common.{◌≤◌, length, arith, rules, length-drop}
use Rattle.std.proofs.lemmas.List.{take_rest}
use Rattle.replay.proofs.Calls.{consumed_within, takes}
use Rattle.replay.proofs.Feeding.{turn}
use Rattle.replay.proofs.feed_all.Goals as goal

pub slice_bounds-left-count : goal.slice_bounds-left-count
slice_bounds-left-count g c =
    let l = c.loop-left in
    let w = consumed_within l.replay l.left.now (length l.output) c.feed-fed.ensures.answer in
    omega arith

pub slice_bounds-left-start : goal.slice_bounds-left-start
slice_bounds-left-start g c =
    let l = c.loop-left in
    let w = consumed_within l.replay l.left.now (length l.output) c.feed-fed.ensures.answer in
    search rules

pub loop-left-smaller : goal.loop-left-smaller
loop-left-smaller g c =
    let l = c.loop-left in
    let some : 1 ≤ length l.left.now = search rules in
    let w = consumed_within l.replay l.left.now (length l.output) c.feed-fed.ensures.answer in
    let t = takes l.replay l.left.now (length l.output) c.feed-fed.ensures.answer some (omega arith) in
    simp (take_rest, length-drop) (search rules)

pub loop-left-preserved : goal.loop-left-preserved
loop-left-preserved g c =
    let l = c.loop-left in
    rw take_rest (turn l.replay l.left.now l.output (length l.output) c.feed-fed.ensures.answer c.feed-fed.ensures.buffer l.invariant c.in_ok-write_all.ensures.bytes)
