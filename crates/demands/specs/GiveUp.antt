-- The client gives up waiting.
use Rattle.std.specs.Prelude.{suc, ◌+◌, ◌≤◌, min, ◌≡◌, []}
use Rattle.refusals.specs.declared.Refusal.TheVariants.{RecordNotLegal, NotWaiting, GaveUpTooSoon}
use Rattle.client.specs.declared.Client.{Client}
use Rattle.client.specs.declared.Phase.TheVariants.{Idle, Waiting}
use Rattle.client.specs.Record.{without_request}
use Rattle.client.specs.Calls as calls
use Rattle.demands.specs.Form.{Rules, ◌unless◌then◌, does}
use Rattle.demands.specs.Legal.{Legal}

abbrev pub gave_up : Client → calls.Outcome
gave_up c = record { result = calls.done; next = without_request c Idle (min (suc c.exponent) 14); octets = [] }

abbrev pub give_up_rules : Client → calls.GiveUp → Rules calls.Outcome
give_up_rules c x =
    RecordNotLegal unless Legal c then
    NotWaiting unless c.phase ≡ Waiting then
    GaveUpTooSoon unless c.uptime + 16 ≤ x.uptime then
    does (gave_up c)
