-- An ask of the client.
use Rattle.std.specs.Prelude.{◌+◌, ◌^◌, ◌≤◌, ◌≡◌, ◌≢◌, true, ◌++◌, length, drop}
use Rattle.refusals.specs.declared.Refusal.TheVariants.{RecordNotLegal, BufferTooShort, VersionUnsupported, OwnClockZero, TokenZero, ClientStopped, AlreadyWaiting, AskedTooSoon}
use Rattle.client.specs.declared.Client.{Client}
use Rattle.client.specs.declared.Phase.TheVariants.{Waiting, Stopped}
use Rattle.request.specs.Request.{request}
use Rattle.client.specs.Ask.{waiting_for}
use Rattle.client.specs.Calls as calls
use Rattle.demands.specs.Form.{Rules, ◌unless◌then◌, does}
use Rattle.demands.specs.Common.{not_available, no_token}
use Rattle.demands.specs.Legal.{Legal}

abbrev pub request_sent : Client → calls.Ask → calls.Outcome
request_sent c x = record {
  result = calls.done;
  next = waiting_for c x.version x.clock x.token x.uptime;
  octets = request x.version x.token ++ drop 48 x.buffer;
}

abbrev pub ask_rules : Client → calls.Ask → Rules calls.Outcome
ask_rules c x =
    RecordNotLegal unless Legal c then
    BufferTooShort unless 48 ≤ length x.buffer then
    VersionUnsupported unless (1 ≤ x.version) × (x.version ≤ 4) then
    OwnClockZero unless x.clock ≢ not_available then
    TokenZero unless x.token ≢ no_token then
    ClientStopped unless c.phase ≢ Stopped then
    AlreadyWaiting unless c.phase ≢ Waiting then
    AskedTooSoon unless (c.asked ≡ true → c.uptime + 2 ^ c.exponent ≤ x.uptime) then
    does (request_sent c x)
