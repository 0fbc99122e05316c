-- An extension field added at the end of a packet, which is the first octets of a buffer.
use Rattle.refusals.specs.Given.{Given, refused, answered, numbered}
use Rattle.std.specs.Prelude.{ℕ, ◌≤◌, ◌≡◌, List, [], ◌∷◌, pos, length, take, drop}
use Rattle.refusals.specs.declared.Refusal.TheVariants.{PacketLengthWrong, FieldNotAdded}
use Rattle.extension_writer.specs.Writer.{new_length, added, with_field, added_buffer}
use Rattle.demands.specs.Form.{Shown, refused_by, telling, Rules, ◌unless◌then◌, does, Form, Implementation}
use Rattle.demands.specs.Common.{FieldsThen, IsPacket, Written}

-- `size` says how many octets of the buffer are the packet
pub record Add : Type 0 where
  pub buffer : List ℕ
  pub size : ℕ
  pub field_type : ℕ
  pub body : List ℕ

abbrev pub shown : Given ℕ → Shown
shown (refused n) = refused_by 1 n
shown (answered new) = telling (pos new ∷ [])

module _ (x : Add) where
  abbrev packet : List ℕ
  packet = take x.size x.buffer

  -- the packet's length with the field, its head and its fill
  abbrev new : ℕ
  new = new_length x.size (length x.body)

  abbrev pub add_rules : Rules (Written (Given ℕ))
  add_rules =
      PacketLengthWrong unless x.size ≤ length x.buffer then
      PacketLengthWrong unless IsPacket packet then
      FieldNotAdded unless FieldsThen (λ left. left ≡ 0) (drop 48 packet) then
      FieldNotAdded unless (new ≤ length x.buffer) × (new ≤ 1024) then
      does (record { answer = answered new; octets = with_field x.buffer x.size x.field_type x.body })

abbrev pub add : Form
add = record {
  Input = Add;
  Outcome = Written (Given ℕ);
  shown = λ o. shown o.answer;
  refusing = λ x n. record { answer = refused n; octets = x.buffer };
  rules = add_rules;
}

abbrev pub ours : Implementation add
ours x = record { answer = numbered (added x.buffer x.size x.body); octets = added_buffer x.buffer x.size x.field_type x.body }
