-- One run of stores after another, and the signed field by its bits.
use Rattle.std.proofs.Common.{rules, ◌≡◌, ◌∷◌, ◌++◌, ◌∙◌, arith, w32, SFits, to_z-of_z}
use lib.ListN.{length-append, length-drop}
use lib.Seq.{sets}
use Rattle.arithmetic.specs.Octets.{octets}
use Rattle.arithmetic.specs.TwosComplement.{bits}
use Rattle.arithmetic.proofs.Octets.{sets_append, length_octets}
use Rattle.slices.proofs.Slices.{put_room, reversed_room}
use Rattle.packet.specs.Packet.{octets_of}
use Rattle.packet.proofs.Packet.{length_octets_of, stored}
use Rattle.packet.proofs.put_fields.Goals as goal

pub returns : goal.returns
unfolding octets_of
returns c =
    let b = c.args.b.now in
    let f = c.args.fields in
    let e1 = c.write_le32.ensures ∙ reversed_room 4 b 0 (omega arith) _ in
    let e2 = c.write_be32.ensures ∙ put_room 4 c.write_le32.new.b 4 (omega arith) _ in
    let e3 = c.write_be32-2.ensures ∙ put_room 4 c.write_be32.new.b 8 (omega arith) _ in
    let e4 = c.write_be32-3.ensures ∙ put_room 4 c.write_be32-2.new.b 12 (omega arith) _ in
    let s : SFits w32 f.root_delay = search rules in
    let numbers = octets 4 (bits 32 f.root_delay) ++ octets 4 f.root_dispersion ++ octets 4 f.identifier in
    let rest = numbers ++ octets 8 f.reference.0 ++ octets 8 f.originate.0 ++ octets 8 f.receive.0 ++ octets 8 f.transmit.0 in
    let whole : c.put_timestamps.new.b ≡ sets b 0 (c.args.octet ∷ f.stratum ∷ f.poll ∷ bits 8 f.precision ∷ rest) =
    rw (c.put_timestamps.ensures, e4, e3, e2, c.bits32.ensures, e1, c.first_word.ensures, to_z-of_z s)
    (simp (sets_append, length-append, length_octets)) in
    whole ∙ stored b _ (omega (arith, length_octets_of f, length-drop 1 (octets_of f)))
