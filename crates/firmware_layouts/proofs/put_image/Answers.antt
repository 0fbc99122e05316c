-- One run of stores after another, which fill the array.
use Rattle.std.proofs.Common.{◌≡◌, ◌∙◌, length, arith}
use Rattle.std.proofs.lemmas.List.Edits.{sets}
use lib.ListN.{length-append}
use Rattle.arithmetic.proofs.Octets.{sets_append, length_octets}
use Rattle.slices.proofs.Slices.{put_room}
use Rattle.firmware_layouts.specs.Image.{image_of}
use Rattle.firmware_layouts.proofs.Layouts.{filled, length_image}
use Rattle.firmware_layouts.proofs.put_image.Goals as goal

pub returns : goal.returns
unfolding image_of
returns c =
    let a = c.args in
    let e2 = c.write_be64.ensures ∙ put_room 8 c.put_head.new.b 8 (omega arith) _ in
    let e3 = c.write_be64-2.ensures ∙ put_room 8 c.write_be64.new.b 16 (omega arith) _ in
    let e4 = c.write_be64-3.ensures ∙ put_room 8 c.write_be64-2.new.b 24 (omega arith) _ in
    let stored : c.write_be64-3.new.b ≡ sets a.b.now 0 (image_of a.client) =
    rw (e4, e3, e2, c.put_head.ensures, c.phase_octet.ensures, c.flag_octet.ensures, c.saturating_sub.ensures)
    (simp (sets_append, length-append, length_octets)) in
    let n : 32 ≡ length a.b.now = omega arith in
    stored ∙ filled a.b.now (image_of a.client) (length_image a.client ∙ n)
