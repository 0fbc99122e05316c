-- What is not malformed is not too short.
use Rattle.std.proofs.Common.{sym, ◌∙◌}
use Rattle.packet.proofs.Packet.{header_fields}
use Rattle.packet.proofs.read.Goals as goal

pub returns : goal.returns
returns c =
    let formed = sym c.is_malformed.ensures ∙ c.if-is_malformed.false in
    rw (c.read_header.ensures ∙ header_fields _ formed, formed)
