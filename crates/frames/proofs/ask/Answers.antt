-- A refused ask leaves its part of the buffer, so the whole buffer is as it was.
use Rattle.std.proofs.Common.{◌∙◌, arith}
use borrow.Rule.Slice.PartMut.{put_same}
use Rattle.frames.proofs.Packet.{asked}
use Rattle.frames.proofs.ask.Goals as goal

pub returns-in-Err-clause-buffer : goal.returns-in-Err-clause-buffer
returns-in-Err-clause-buffer c =
    let left = c.ask-called.ensures.buffer ∙ asked c.args.client _ c.args.clock c.args.token c.args.uptime (omega arith) in
    grind (arith, left, put_same 1 48 c.args.answer.now)
