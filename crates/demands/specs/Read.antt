-- A packet read into fields.
use Rattle.refusals.specs.Given.{Given, refused, answered, numbered}
use Rattle.std.specs.Prelude.{ℕ, List, [], ◌∷◌, ℤ, pos}
use Rattle.refusals.specs.declared.Refusal.TheVariants.{PacketLengthWrong}
use Rattle.packet.specs.declared.Fields.{Fields}
use Rattle.packet.specs.Packet.{fields_of, read_answer}
use Rattle.demands.specs.Form.{Shown, refused_by, telling, ◌unless◌then◌, does, Form, Implementation}
use Rattle.demands.specs.Common.{IsPacket}

abbrev values : Fields → List ℤ
values f =
    pos f.leap ∷ pos f.version ∷ pos f.mode ∷ pos f.stratum ∷ pos f.poll ∷ f.precision ∷ f.root_delay ∷ pos f.root_dispersion
    ∷ pos f.identifier ∷ pos f.reference.0 ∷ pos f.originate.0 ∷ pos f.receive.0 ∷ pos f.transmit.0 ∷ []

abbrev pub shown : Given Fields → Shown
shown (refused n) = refused_by 13 n
shown (answered f) = telling (values f)

abbrev pub read : Form
read = record {
  Input = List ℕ;
  Outcome = Given Fields;
  shown = shown;
  refusing = λ p. refused;
  rules = λ p.
      PacketLengthWrong unless IsPacket p then
      does (answered (fields_of p));
}

abbrev pub ours : Implementation read
ours p = numbered (read_answer p)
