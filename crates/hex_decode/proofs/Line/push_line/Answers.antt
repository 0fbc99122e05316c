use Rattle.std.proofs.Common.{◌≡◌, ◌+◌, ◌≤◌, length, arith, rules, add-zero}
use Rattle.hex_decode.specs.Decoding.{pushed_line, pushed_line_buffer}
use Rattle.hex_decode.proofs.ToLineFeed.{ended, goes_on, none, stopped}
use Rattle.hex_decode.proofs.Line.push_line.Goals as goal

pub returns-in_default : goal.returns-in_default
unfolding pushed_line pushed_line_buffer
returns-in_default c =
    let past : length c.args.characters.now ≤ c.args.at = search rules in
    let nothing = none c.args.characters.now c.args.at past in
    record { answer = rw (nothing, add-zero); buffer = rw nothing }

pub loop-i-preserved : goal.loop-i-preserved
loop-i-preserved c =
    let more = goes_on c.in-Some.left.now c.loop-i.i c.loop-i-test.true c.if-c-eq-LINE_FEED.false in
    record {
      held = rw (c.push-line.ensures.answer, c.push-line.ensures.buffer) (rw more at c.loop-i.invariant.held);
      counted = let k = rw more at c.loop-i.invariant.counted in omega arith;
    }

pub returns-then-c-eq-LINE_FEED : goal.returns-then-c-eq-LINE_FEED
returns-then-c-eq-LINE_FEED c =
    let l = c.loop-i in
    let nothing = ended c.in-Some.left.now l.i c.loop-i-test.true c.if-c-eq-LINE_FEED.true in
    let end = stopped c.args.characters.now c.in-Some.left.now c.args.at l.i _ c.args.self c.args.buffer.now c.in-Some.ensures.lookup.0.2 nothing l.invariant.held l.invariant.counted in
    record { answer = end.0; buffer = end.1 }

pub returns : goal.returns
returns c =
    let l = c.loop-i in
    let nothing = none c.in-Some.left.now l.i c.loop-i-test.false in
    let end = stopped c.args.characters.now c.in-Some.left.now c.args.at l.i _ c.args.self c.args.buffer.now c.in-Some.ensures.lookup.0.2 nothing l.invariant.held l.invariant.counted in
    let whole : length c.args.characters.now ≡ c.args.at + l.i = omega (arith, c.in-Some.ensures.lookup.0.3) in
    record { answer = rw whole end.0; buffer = end.1 }
