-- Field by field, from what each call ensures.
use Rattle.std.proofs.Common.{rules, ℕ, ◌+◌, ◌≤◌, ◌≡◌, ◌∙◌, arith, w8, w32, length}
use Rattle.arithmetic.specs.Octets.{big_endian, part}
use Rattle.arithmetic.proofs.Machine.{held_result}
use Rattle.slices.specs.Slices.{read_at}
use Rattle.slices.proofs.Slices.{number_room}
use Rattle.packet.specs.Packet.{fields_of}
use Rattle.packet.proofs.read_fields.Goals as goal

pub returns : goal.returns
unfolding fields_of
returns c =
    let p = c.args.p.now in
    let long : length p ≡ 48 = search rules in
    let room : (n at : ℕ) → at + n ≤ 48 → read_at n p at ≡ big_endian (part at n p) = λ n at h. number_room n p at (omega arith) in
    rw (
      held_result w8 c.signed8.type_inv c.signed8.ensures,
      held_result w32 c.signed32.type_inv c.signed32.ensures,
      c.read_be32.ensures ∙ room 4 4 (omega arith),
      c.read_be32-2.ensures ∙ room 4 8 (omega arith),
      c.read_be32-3.ensures ∙ room 4 12 (omega arith),
      c.from.ensures,
      c.read_be64.ensures ∙ room 8 16 (omega arith),
      c.from-2.ensures,
      c.read_be64-2.ensures ∙ room 8 24 (omega arith),
      c.from-3.ensures,
      c.read_be64-3.ensures ∙ room 8 32 (omega arith),
      c.from-4.ensures,
      c.read_be64-4.ensures ∙ room 8 40 (omega arith),
    )
