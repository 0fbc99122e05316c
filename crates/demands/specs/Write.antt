-- Fields written into a buffer as a packet.
use Rattle.refusals.specs.Given.{Given, refused, answered, numbered}
use Rattle.std.specs.Prelude.{ℕ, ◌≤◌, List, [], ◌++◌, length, drop}
use Rattle.refusals.specs.declared.Refusal.TheVariants.{BufferTooShort, FieldTooLarge}
use Rattle.packet.specs.declared.Fields.{Fields}
use Rattle.packet.specs.Packet.{octets_of, write_answer, written}
use Rattle.demands.specs.Form.{Shown, refused_by, telling, ◌unless◌then◌, does, Form, Implementation}
use Rattle.demands.specs.Common.{Written}

pub record Fill : Type 0 where
  pub buffer : List ℕ
  pub fields : Fields

abbrev pub shown : Given (Unit {0}) → Shown
shown (refused n) = refused_by 0 n
shown (answered tt) = telling []

abbrev pub write : Form
write = record {
  Input = Fill;
  Outcome = Written (Given (Unit {0}));
  shown = λ o. shown o.answer;
  refusing = λ x n. record { answer = refused n; octets = x.buffer };
  rules = λ x.
      BufferTooShort unless 48 ≤ length x.buffer then
      FieldTooLarge unless (x.fields.leap ≤ 3) × (x.fields.version ≤ 7) × (x.fields.mode ≤ 7) then
      does (record { answer = answered tt; octets = octets_of x.fields ++ drop 48 x.buffer });
}

abbrev pub ours : Implementation write
ours x = record { answer = numbered (write_answer x.buffer x.fields); octets = written x.buffer x.fields }
