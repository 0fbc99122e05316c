-- One run of stores after another.
use Rattle.std.proofs.Common.{◌∙◌, arith}
use lib.ListN.{length-append}
use Rattle.arithmetic.proofs.Octets.{sets_append, length_octets}
use Rattle.slices.proofs.Slices.{put_room}
use Rattle.packet.proofs.put_timestamps.Goals as goal

pub returns : goal.returns
returns c =
    let e1 = c.write_be64.ensures ∙ put_room 8 c.args.b.now 16 (omega arith) _ in
    let e2 = c.write_be64-2.ensures ∙ put_room 8 c.write_be64.new.b 24 (omega arith) _ in
    let e3 = c.write_be64-3.ensures ∙ put_room 8 c.write_be64-2.new.b 32 (omega arith) _ in
    let e4 = c.write_be64-4.ensures ∙ put_room 8 c.write_be64-3.new.b 40 (omega arith) _ in
    rw (e4, e3, e2, e1) (simp (sets_append, length-append, length_octets))
