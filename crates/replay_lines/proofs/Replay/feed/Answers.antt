use Rattle.std.proofs.Common.{rules}
use Rattle.replay_lines.proofs.Steps.{starts, within, at_end, without_room, goes_on}
use Rattle.replay_lines.proofs.Replay.feed.Goals as goal

pub lines-init : goal.lines-init
lines-init c = starts _ _ _

pub overflow_add-consumed : goal.overflow_add-consumed
overflow_add-consumed c = let p = c.push_line-consumed.ensures in let w = within c.lines.invariant p.next p.replay in search rules

pub lines-preserved : goal.lines-preserved
lines-preserved c =
    let p = c.push_line-consumed.ensures in
    let a = c.answer.ensures in
    goes_on c.lines.invariant p.next p.replay c.if-consumed-input.false a.end a.replay a.output c.in-Some.is

pub returns-then-consumed-input : goal.returns-then-consumed-input
returns-then-consumed-input c =
    let p = c.push_line-consumed.ensures in
    let done = at_end c.lines.invariant p.next p.replay c.if-consumed-input.true in
    record { answer = done.0; buffer = done.1 }

pub returns-in_default : goal.returns-in_default
returns-in_default c =
    let p = c.push_line-consumed.ensures in
    let a = c.answer.ensures in
    let done = without_room c.lines.invariant p.next p.replay c.if-consumed-input.false a.end a.replay a.output c.in_default.is in
    record { answer = done.0; buffer = done.1 }
