-- A broadcast packet has no originate timestamp that a waiting client's request could have.
use Rattle.refusals.specs.Given.{refused, answered}
use Prim.Native.Nat.{◌≤◌, ◌^◌, ◌<◌}
use mathlib.Core.Path.{◌≡◌, refl, sym, ap, subst, ◌∙◌}
use mathlib.Core.Logic.{◌≢◌, inl, inr}
use mathlib.Core.Bool.{Bool}
use mathlib.Core.List.{◌++◌}
use native.Mathlib.Omega.{arith}
use lib.ListN.{length, take, drop}
use Rattle.refusals.specs.Numbers.{number}
use Rattle.refusals.specs.declared.Refusal.TheVariants.{NotWaiting, OriginateMismatch}
use Rattle.timestamp.specs.declared.Timestamp.{Timestamp}
use Rattle.packet.specs.Packet.{fields_of, octets_of}
use Rattle.packet.proofs.Packet.{length_octets_of}
use Rattle.server_packet.specs.Packet.{unsynchronised_fields}
use Rattle.broadcast.specs.Broadcast.{broadcast_message}
use Rattle.token.specs.Token.{token}
use Rattle.client.specs.declared.Client.{Client}
use Rattle.demands.specs.Form.{refusal}
use Rattle.demands.specs.Common.{not_available, IsPacket}
use Rattle.demands.specs.Legal.{Legal}
use Rattle.demands.specs.Write as writing
use Rattle.demands.specs.Reply.{LegallySet}
use Rattle.demands.specs.Broadcast.{Broadcast, broadcast_fields}
use Rattle.demands.specs.Behaviour.{broadcast, ours}
use Rattle.demands.specs.BroadcastToClient.{the_call, RefusesBroadcast, ClientRefusesBroadcast}
use Rattle.demands.proofs.Facts.{of_48}
use Rattle.demands.proofs.Form.{facts, done_so, does_it, acceptance_shown}
use Rattle.demands.proofs.Client.{client_meets}
use Rattle.demands.proofs.Broadcast.{broadcast_meets}
use Rattle.demands.proofs.Served.{typed, front, packet_either, packet_fields_lem}

module _ (x : Broadcast) (w : (ours.does broadcast x).answer ≡ answered tt) where
  not_refused : (writing.shown (ours.does broadcast x).answer).kind ≢ refusal
  not_refused = subst (λ a. (writing.shown a).kind ≢ refusal) (sym w) acceptance_shown.0

  limits : (x.version ≤ 4) × LegallySet x.settings × (x.poll ≤ 14)
  limits = let (o, (room, (version, (set, (poll, rest))))) = facts broadcast_meets x not_refused in (version.1, set, poll.1)

  written_is : ours.does broadcast x ≡ record { answer = answered tt; octets = octets_of (broadcast_fields x) ++ drop 48 x.buffer }
  written_is =
      let (o, (room, (version, (set, (poll, (t3, e)))))) = facts broadcast_meets x not_refused in
      done_so broadcast_meets x (record { answer = answered tt; octets = octets_of (broadcast_fields x) ++ drop 48 x.buffer }) (room, (version, (set, (poll, (t3, refl)))))

  pub packet_is : take 48 (ours.does broadcast x).octets ≡ octets_of (broadcast_fields x)
  packet_is = ap (λ w. take 48 w.octets) written_is ∙ front (broadcast_fields x) (drop 48 x.buffer)

  -- synchronised or not, it is read as its fields, but for an identifier and a reference timestamp that are no values of their types
  pub fields_are : x.t3.0 < 2 ^ 64 → fields_of (octets_of (broadcast_fields x)) ≡ typed (broadcast_fields x)
  fields_are t =
      let (version, set, poll) = limits in
      let m = broadcast_message x.version x.poll x.t3 in
      packet_either x.settings m (λ f. fields_of (octets_of f) ≡ typed f)
      (packet_fields_lem x.settings set m x.settings.leap 1 x.settings.identifier x.settings.reference not_available x.t3
      (omega arith) (omega arith) (omega arith) (omega arith) (let l = set.leap in omega arith) (omega arith) (omega arith) t)
      (packet_fields_lem x.settings set m 3 0 (unsynchronised_fields x.settings m).identifier not_available not_available not_available
      (omega arith) (omega arith) (omega arith) (omega arith) (omega arith) (omega arith) (omega arith) (omega arith))

module _ (c : Client) (x : Broadcast) (t4 : Timestamp) (alternate : Bool) (l : Legal c) (t : x.t3.0 < 2 ^ 64) (w : (ours.does broadcast x).answer ≡ answered tt) where
  is_packet : IsPacket (take 48 (ours.does broadcast x).octets)
  is_packet = of_48 (take 48 (ours.does broadcast x).octets) (ap length (packet_is x w) ∙ length_octets_of (broadcast_fields x))

  originate : (fields_of (take 48 (ours.does broadcast x).octets)).originate ≡ not_available
  originate =
      ap (λ p. (fields_of p).originate) (packet_is x w)
      ∙ ap (λ f. f.originate) (fields_are x w t)
      ∙ packet_either x.settings (broadcast_message x.version x.poll x.t3) (λ f. f.originate ≡ not_available) refl refl

  refuses : RefusesBroadcast c x t4 alternate
  refuses = record {
    not_asked = λ idle. does_it client_meets.answers (c, the_call c x t4 alternate) (refused (number NotWaiting)) (inr (l, inr (is_packet, inl (idle, refl))));
    not_answered = λ waits. does_it client_meets.answers (c, the_call c x t4 alternate) (refused (number OriginateMismatch))
        (inr (l, inr (is_packet, inr (waits, inl ((λ e. (l.waiting waits).1 (ap (λ (t : Timestamp). token t.0) (sym e ∙ originate))), refl)))));
  }

pub client_refuses_broadcast : ClientRefusesBroadcast
client_refuses_broadcast = refuses
