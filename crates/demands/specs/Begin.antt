-- The extension fields of a packet: where the first begins.
use Rattle.refusals.specs.Given.{Given, refused, answered, numbered}
use Rattle.extension.specs.declared.Cursor.{Cursor}
use Rattle.std.specs.Prelude.{ℕ, List, [], ◌∷◌, pos}
use Rattle.refusals.specs.declared.Refusal.TheVariants.{PacketLengthWrong}
use Rattle.extension.specs.Reader.{cursor, begun}
use Rattle.demands.specs.Form.{Shown, refused_by, telling, ◌unless◌then◌, does, Form, Implementation}
use Rattle.demands.specs.Common.{IsPacket}

abbrev pub shown : Given Cursor → Shown
shown (refused n) = refused_by 1 n
shown (answered c) = telling (pos c.at ∷ [])

abbrev pub begin : Form
begin = record {
  Input = List ℕ;
  Outcome = Given Cursor;
  shown = shown;
  refusing = λ p. refused;
  rules = λ p.
      PacketLengthWrong unless IsPacket p then
      does (answered (cursor 48));
}

abbrev pub ours : Implementation begin
ours p = numbered (begun p)
