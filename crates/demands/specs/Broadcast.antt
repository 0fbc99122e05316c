-- Broadcast: the packet of its writer, and its arrival at its client.
use Rattle.std.specs.Prelude.{ℤ}
use Rattle.refusals.specs.Given.{Given, refused, answered, numbered}
use Rattle.std.specs.Prelude.{ℕ, ◌≤◌, ◌≡◌, ◌≢◌, true, List, [], ◌∷◌, ◌++◌, length, drop}
use Rattle.refusals.specs.declared.Refusal.TheVariants.{BufferTooShort, RequestVersionUnsupported, SettingsOutOfRange, PollOutOfRange, ServerTimestampZero, PacketLengthWrong, BroadcastModeWrong, BroadcastVersionUnsupported, BroadcastUnsynchronised, BroadcastStratumWrong, BroadcastTransmitZero, OwnClockZero, NoOrder}
use Rattle.timestamp.specs.declared.Timestamp.{Timestamp}
use Rattle.timestamp.specs.Timestamp.{◌since◌}
use Rattle.packet.specs.declared.Fields.{Fields}
use Rattle.packet.specs.Packet.{fields_of, octets_of}
use Rattle.server_packet.specs.declared.Settings.{Settings}
use Rattle.server_packet.specs.Packet.{packet_fields}
use Rattle.broadcast.specs.Broadcast.{broadcast_message, broadcast_written, broadcast_buffer, broadcast_arrived}
use Rattle.demands.specs.Form.{Shown, refused_by, telling, Rules, ◌unless◌then◌, does, Form, Implementation}
use Rattle.demands.specs.Common.{not_available, InOrder, IsPacket, Written}
use Rattle.demands.specs.Write as writing
use Rattle.demands.specs.Reply.{LegallySet}

-- ---- the writer

pub record Broadcast : Type 0 where
  pub settings : Settings
  pub version : ℕ
  pub poll : ℕ
  pub t3 : Timestamp
  pub buffer : List ℕ

abbrev pub broadcast_fields : Broadcast → Fields
broadcast_fields x = packet_fields x.settings (broadcast_message x.version x.poll x.t3)

abbrev pub broadcast_rules : Broadcast → Rules (Written (Given (Unit {0})))
broadcast_rules x =
    BufferTooShort unless 48 ≤ length x.buffer then
    RequestVersionUnsupported unless (1 ≤ x.version) × (x.version ≤ 4) then
    SettingsOutOfRange unless LegallySet x.settings then
    PollOutOfRange unless (4 ≤ x.poll) × (x.poll ≤ 14) then
    ServerTimestampZero unless (x.settings.synchronised ≡ true → x.t3 ≢ not_available) then
    does (record { answer = answered tt; octets = octets_of (broadcast_fields x) ++ drop 48 x.buffer })

abbrev pub broadcast : Form
broadcast = record {
  Input = Broadcast;
  Outcome = Written (Given (Unit {0}));
  shown = λ o. writing.shown o.answer;
  refusing = λ x n. record { answer = refused n; octets = x.buffer };
  rules = broadcast_rules;
}

abbrev pub ours_broadcast : Implementation broadcast
ours_broadcast x = record {
  answer = numbered (broadcast_written x.settings x.version x.poll x.t3 (length x.buffer));
  octets = broadcast_buffer x.settings x.version x.poll x.t3 x.buffer;
}

-- ---- the client

pub record BroadcastArrival : Type 0 where
  pub packet : List ℕ
  pub t4 : Timestamp

abbrev pub shown : Given ℤ → Shown
shown (refused n) = refused_by 1 n
shown (answered d) = telling (d ∷ [])

module _ (x : BroadcastArrival) where
  abbrev f : Fields
  f = fields_of x.packet

  abbrev pub broadcast_arrival_rules : Rules (Given ℤ)
  broadcast_arrival_rules =
      PacketLengthWrong unless IsPacket x.packet then
      BroadcastModeWrong unless f.mode ≡ 5 then
      BroadcastVersionUnsupported unless (1 ≤ f.version) × (f.version ≤ 4) then
      BroadcastUnsynchronised unless f.leap ≢ 3 then
      BroadcastStratumWrong unless (1 ≤ f.stratum) × (f.stratum ≤ 15) then
      BroadcastTransmitZero unless f.transmit ≢ not_available then
      OwnClockZero unless x.t4 ≢ not_available then
      NoOrder unless InOrder (f.transmit since x.t4) then
      does (answered (f.transmit since x.t4))

abbrev pub broadcast_arrival : Form
broadcast_arrival = record {
  Input = BroadcastArrival;
  Outcome = Given ℤ;
  shown = shown;
  refusing = λ x. refused;
  rules = broadcast_arrival_rules;
}

abbrev pub ours_arrival : Implementation broadcast_arrival
ours_arrival x = numbered (broadcast_arrived x.packet x.t4)
