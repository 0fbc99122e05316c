-- The server's reply to a request.
use Rattle.refusals.specs.Given.{Given, refused, answered, numbered}
use Rattle.std.specs.Prelude.{ℕ, ◌≤◌, ◌≡◌, ◌≢◌, true, List, [], ◌++◌, pos, neg_ℤ, length, drop, ◌≤ℤ◌}
use Rattle.refusals.specs.declared.Refusal.TheVariants.{BufferTooShort, PacketLengthWrong, RequestModeWrong, RequestVersionUnsupported, SettingsOutOfRange, ServerTimestampZero, AnsweredBeforeReceived, NoOrder}
use Rattle.timestamp.specs.declared.Timestamp.{Timestamp}
use Rattle.timestamp.specs.Timestamp.{◌since◌}
use Rattle.packet.specs.declared.Fields.{Fields}
use Rattle.packet.specs.Packet.{fields_of, octets_of}
use Rattle.server_packet.specs.declared.Settings.{Settings}
use Rattle.server.specs.Server.{reply_fields, replied, replied_buffer}
use Rattle.demands.specs.Form.{Shown, refused_by, telling, Rules, ◌unless◌then◌, does, Form, Implementation}
use Rattle.demands.specs.Common.{not_available, InOrder, IsPacket, Written}

pub record Request : Type 0 where
  pub settings : Settings
  pub request : List ℕ
  pub t2 : Timestamp
  pub t3 : Timestamp
  pub buffer : List ℕ

-- LI 0 to 2 and a precision of -32 to 0
pub record LegallySet (s : Settings) : Type 0 where
  pub leap : s.leap ≤ 2
  pub precision : (neg_ℤ (pos 32) ≤ℤ s.precision) × (s.precision ≤ℤ pos 0)

module _ (x : Request) where
  abbrev f : Fields
  f = fields_of x.request

  abbrev pub written : Written (Given (Unit {0}))
  written = record {
    answer = answered tt;
    octets = octets_of (reply_fields x.settings f x.t2 x.t3) ++ drop 48 x.buffer;
  }

  abbrev pub reply_rules : Rules (Written (Given (Unit {0})))
  reply_rules =
      BufferTooShort unless 48 ≤ length x.buffer then
      PacketLengthWrong unless IsPacket x.request then
      RequestModeWrong unless f.mode ≡ 3 then
      RequestVersionUnsupported unless (1 ≤ f.version) × (f.version ≤ 4) then
      SettingsOutOfRange unless LegallySet x.settings then
      ServerTimestampZero unless (x.settings.synchronised ≡ true → (x.t2 ≢ not_available) × (x.t3 ≢ not_available)) then
      NoOrder unless (x.settings.synchronised ≡ true → InOrder (x.t3 since x.t2)) then
      AnsweredBeforeReceived unless (x.settings.synchronised ≡ true → pos 0 ≤ℤ (x.t3 since x.t2)) then
      does written

abbrev pub shown : Given (Unit {0}) → Shown
shown (refused n) = refused_by 0 n
shown (answered tt) = telling []

abbrev pub reply : Form
reply = record {
  Input = Request;
  Outcome = Written (Given (Unit {0}));
  shown = λ o. shown o.answer;
  refusing = λ x n. record { answer = refused n; octets = x.buffer };
  rules = reply_rules;
}

abbrev pub ours : Implementation reply
ours x = record {
  answer = numbered (replied x.settings x.request x.t2 x.t3 x.buffer);
  octets = replied_buffer x.settings x.request x.t2 x.t3 x.buffer;
}
