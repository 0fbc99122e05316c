-- An arrival at the client: a packet, the reading T4, and whether an alternate server exists.
use Rattle.std.specs.Prelude.{suc, min, ◌≤◌, ◌<◌, ◌≡◌, ◌≢◌, cond, pos, ◌≤ℤ◌, ◌<ℤ◌}
use Rattle.refusals.specs.declared.Refusal.TheVariants.{RecordNotLegal, PacketLengthWrong, NotWaiting, OriginateMismatch, ReplyModeWrong, VersionMismatch, OwnClockZero, ServerUnsynchronised, StratumTooHigh, ServerTimestampZero, RootDelayOutOfRange, RootDispersionTooLarge}
use Rattle.packet.specs.declared.Fields.{Fields}
use Rattle.packet.specs.Packet.{fields_of}
use Rattle.token.specs.Token.{carried}
use Rattle.kiss.specs.Kiss.{row_of}
use Rattle.client.specs.declared.Client.{Client}
use Rattle.client.specs.declared.Phase.TheVariants.{Idle, Waiting, Stopped}
use Rattle.client.specs.Record.{without_request}
use Rattle.client.specs.Calls as calls
use Rattle.demands.specs.Form.{Rules, ◌unless◌then◌, ◌provided◌else◌, does}
use Rattle.demands.specs.Common.{not_available, IsPacket}
use Rattle.demands.specs.Legal.{Legal}
use Rattle.demands.specs.Measure.{Four, four_rules, offset, half, d}

module _ (c : Client) (x : calls.Arrival) where
  abbrev f : Fields
  f = fields_of x.packet

  -- T1 is the clock reading that the client keeps of its ask, T2 and T3 are the packet's receive and transmit timestamp
  abbrev pub four : Four
  four = record { t1 = c.t1; t2 = f.receive; t3 = f.transmit; t4 = x.t4 }

  -- a kiss stops the client for good where an alternate exists, and otherwise leaves it idle with the exponent one more, at most 14
  abbrev pub after_kiss : Client
  after_kiss = cond x.alternate (without_request c Stopped c.exponent) (without_request c Idle (min (suc c.exponent) 14))

  abbrev pub kissed : calls.Outcome
  kissed = record { result = calls.kiss f.identifier (row_of f.identifier); next = after_kiss; octets = x.packet }

  abbrev pub accepted : calls.Outcome
  accepted = record { result = calls.accepted (offset four) (half four) (d four); next = without_request c Idle 6; octets = x.packet }

  -- the packet answers the client's request; then the rest
  abbrev pub match_rules : Rules calls.Outcome → Rules calls.Outcome
  match_rules rest =
      RecordNotLegal unless Legal c then
      PacketLengthWrong unless IsPacket x.packet then
      NotWaiting unless c.phase ≡ Waiting then
      OriginateMismatch unless f.originate ≡ carried c.token then
      ReplyModeWrong unless f.mode ≡ 4 then
      VersionMismatch unless f.version ≡ c.version then
      rest

  -- it is a kiss, or passes the client's sanity checks
  abbrev pub sanity_rules : Rules calls.Outcome
  sanity_rules =
      kissed provided f.stratum ≡ 0 else
      OwnClockZero unless x.t4 ≢ not_available then
      ServerUnsynchronised unless f.leap ≢ 3 then
      StratumTooHigh unless f.stratum ≤ 15 then
      ServerTimestampZero unless (f.receive ≢ not_available) × (f.transmit ≢ not_available) then
      RootDelayOutOfRange unless (pos 0 ≤ℤ f.root_delay) × (f.root_delay <ℤ pos 65536) then
      RootDispersionTooLarge unless f.root_dispersion < 65536 then
      four_rules four (does accepted)

  abbrev pub arrival_rules : Rules calls.Outcome
  arrival_rules = match_rules sanity_rules
