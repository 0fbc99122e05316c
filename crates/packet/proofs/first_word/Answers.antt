-- Four octets are those of their number.
use Rattle.std.proofs.Common.{rules, ◌≡◌, [], ◌∷◌, arith, w8, SFits, to_z-of_z}
use Rattle.arithmetic.specs.Octets.{big_endian}
use Rattle.packet.proofs.Packet.{octets_four}
use Rattle.packet.proofs.first_word.Goals as goal

pub returns : goal.returns
returns c =
    let b = c.bits8 in
    let f = c.args.fields in
    let s : SFits w8 f.precision = search rules in
    let e : c.from_le_bytes.result ≡ big_endian (b.result ∷ f.poll ∷ f.stratum ∷ c.args.octet ∷ []) = omega (arith, c.from_le_bytes.ensures) in
    rw (e, octets_four b.result f.poll f.stratum c.args.octet (omega arith, omega arith, omega arith, omega arith), b.ensures, to_z-of_z s)
