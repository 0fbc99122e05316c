-- What stands at a cursor: an extension field, the end of the fields, or octets that are neither.
use Rattle.refusals.specs.Given.{Given, refused, answered, numbered}
use Rattle.std.specs.Prelude.{Option, Some, None}
use Rattle.extension.specs.declared.Field.{Field}
use Rattle.std.specs.Prelude.{ℕ, ◌+◌, List, [], ◌∷◌, pos, length, drop, replicate}
use Rattle.refusals.specs.declared.Refusal.TheVariants.{PacketLengthWrong}
use Rattle.extension.specs.declared.Cursor.{Cursor}
use Rattle.extension.specs.Reading.{stated_type, stated_length}
use Rattle.extension.specs.Reader as reader
use Rattle.extension.specs.Reader.{cursor}
use Rattle.demands.specs.Form.{Shown, refused_by, telling, Rules, ◌unless◌then◌, ◌provided◌else◌, does, Form, Implementation}
use Rattle.demands.specs.Common.{EndsFields, BeginsField}

pub record Next : Type 0 where
  pub packet : List ℕ
  pub cursor : Cursor

-- the field's type, the two ends of its body, and where the next begins
abbrev pub shown : Given (Option Field) → Shown
shown (answered (Some f)) = telling (pos f.field_type ∷ pos f.start ∷ pos f.end ∷ pos f.next.at ∷ [])
shown (answered None) = telling (replicate 4 (pos 0))
shown (refused n) = refused_by 4 n

module _ (x : Next) where
  abbrev at : ℕ
  at = x.cursor.at

  -- the octets from the cursor on
  abbrev t : List ℕ
  t = drop at x.packet

  -- the field that begins there
  abbrev pub found : Field
  found = record { field_type = stated_type t; start = at + 4; end = at + stated_length t; next = cursor (at + stated_length t) }

  abbrev pub next_rules : Rules (Given (Option Field))
  next_rules =
      answered (Some found) provided BeginsField t else
      PacketLengthWrong unless EndsFields (length t) then
      does (answered None)

abbrev pub next : Form
next = record {
  Input = Next;
  Outcome = Given (Option Field);
  shown = shown;
  refusing = λ x. refused;
  rules = next_rules;
}

abbrev pub ours : Implementation next
ours x = numbered (reader.next x.packet x.cursor)
