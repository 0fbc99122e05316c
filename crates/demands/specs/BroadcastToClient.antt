-- A unicast client with a legal record refuses every packet that our broadcast writer writes, synchronised or not: by 8 where it does not wait, and by 9 where it
-- does. T3 is a value of its type.
use Rattle.refusals.specs.Given.{answered}
use Rattle.std.specs.Prelude.{◌^◌, ◌<◌, ◌≡◌, ◌≢◌, Bool, take}
use Rattle.refusals.specs.Numbers.{number}
use Rattle.refusals.specs.declared.Refusal.TheVariants.{NotWaiting, OriginateMismatch}
use Rattle.timestamp.specs.declared.Timestamp.{Timestamp}
use Rattle.client.specs.declared.Client.{Client}
use Rattle.client.specs.declared.Phase.TheVariants.{Waiting}
use Rattle.client.specs.Calls.{Call, arrival}
use Rattle.demands.specs.Legal.{Legal}
use Rattle.demands.specs.Broadcast.{Broadcast}
use Rattle.demands.specs.Behaviour.{client, broadcast, form, ours}

module _ (c : Client) (x : Broadcast) (t4 : Timestamp) (alternate : Bool) where
  abbrev pub the_call : Call
  the_call = arrival (record { packet = take 48 (ours.does broadcast x).octets; t4 = t4; alternate = alternate })

  pub record RefusesBroadcast : Type 0 where
    pub not_asked : c.phase ≢ Waiting → ours.does client (c, the_call) ≡ (form client).refusing (c, the_call) (number NotWaiting)
    pub not_answered : c.phase ≡ Waiting → ours.does client (c, the_call) ≡ (form client).refusing (c, the_call) (number OriginateMismatch)

abbrev pub ClientRefusesBroadcast : Type 0
ClientRefusesBroadcast =
    (c : Client) (x : Broadcast) (t4 : Timestamp) (alternate : Bool) → Legal c → x.t3.0 < 2 ^ 64
    → (ours.does broadcast x).answer ≡ answered tt → RefusesBroadcast c x t4 alternate
