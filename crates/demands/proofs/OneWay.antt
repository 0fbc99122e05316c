-- The broadcast packet of our writer is accepted, and what its client answers is the true difference less the time on the way.
use Rattle.refusals.specs.Given.{answered}
use Prim.Native.Nat.{◌^◌, ◌≤◌, ◌<◌}
use mathlib.Core.Path.{◌≡◌, refl, sym, ap, subst, ◌∙◌}
use mathlib.Core.Logic.{◌≢◌}
use mathlib.Core.Bool.{Bool, not}
use mathlib.Core.List.{List, [], ◌∷◌, ◌++◌}
use native.Mathlib.Omega.{arith}
use lib.Dec.{T, ltb, lit<, lit≤}
use lib.IntN.{ℤ, pos, neg_ℤ, nat_abs, ◌+ℤ◌, ◌-ℤ◌}
use lib.Signed.{le_z, le_z_yes, ◌≤ℤ◌, ◌<ℤ◌}
use lib.ListN.{take, drop}
use Rattle.arithmetic.proofs.Integers.{integers, sum, minus, neg, size, size_is}
use Rattle.arithmetic.proofs.Modulo.{modulo_below}
use Rattle.arithmetic.proofs.TwosComplement.{exact}
use Rattle.arithmetic.specs.Modulo.{◌modulo◌}
use Rattle.timestamp.specs.Timestamp.{is_zero, ◌since◌}
use Rattle.packet.specs.declared.Fields.{Fields}
use Rattle.packet.specs.Packet.{fields_of, octets_of}
use Rattle.packet.proofs.Packet.{length_octets_of}
use Rattle.server_packet.specs.Packet.{synchronised_fields, packet_fields}
use Rattle.broadcast.specs.Broadcast.{broadcast_message}
use Rattle.demands.specs.Common.{not_available, InOrder}
use Rattle.demands.specs.Broadcast.{Broadcast, broadcast_fields}
use Rattle.demands.specs.Behaviour.{broadcast_arrival, ours}
use Rattle.clocks.specs.Exchange.{longest_trip, reading}
use Rattle.demands.specs.OneWay.{broadcast_clocks_apart, OneWay, T3, T4, true_difference, travelled, Orderly, Run, the_write, the_arrival, Premises, Conclusions, BroadcastDifference, across, slowest, fastest, run_of, OneWayWitnesses}
use Rattle.demands.proofs.Facts.{of_48, available}
use Rattle.demands.proofs.Form.{done_so}
use Rattle.demands.proofs.Broadcast.{broadcast_meets, broadcast_arrival_meets}
use Rattle.demands.proofs.Served.{typed, front, packet_fields_lem}
use Rattle.clocks.proofs.WorkedExchanges.{all, each}

reading_below : (constant t : ℤ) → (reading constant t).0 < 2 ^ 64
unfolding reading
reading_below constant t = modulo_below (t +ℤ constant) (omega arith)

-- the difference of the two readings
difference_is : (e : OneWay) → Orderly e → (T3 e since T4 e) ≡ true_difference e -ℤ travelled e
unfolding reading ◌since◌
difference_is e o = exact 64 (e.sent +ℤ e.server) (e.arrived +ℤ e.client) (omega arith) (record { low = low; high = high }) ∙ times
  where
    times : (e.sent +ℤ e.server) -ℤ (e.arrived +ℤ e.client) ≡ true_difference e -ℤ travelled e
    times =
        omega (
          arith,
          integers,
          sum e.sent e.server,
          sum e.arrived e.client,
          minus (e.sent +ℤ e.server) (e.arrived +ℤ e.client),
          minus e.server e.client,
          minus e.arrived e.sent,
          minus (true_difference e) (travelled e),
        )

    low : neg_ℤ (pos (2 ^ 63)) ≤ℤ ((e.sent +ℤ e.server) -ℤ (e.arrived +ℤ e.client))
    low =
        let near = o.near in
        let short = o.short in
        omega (arith, integers, times, neg (pos (2 ^ 63)), size (true_difference e), minus (true_difference e) (travelled e))

    high : ((e.sent +ℤ e.server) -ℤ (e.arrived +ℤ e.client)) <ℤ pos (2 ^ 63)
    high =
        let near = o.near in
        let forth = o.forth in
        omega (arith, integers, times, size (true_difference e), minus e.arrived e.sent, minus (true_difference e) (travelled e))

pub one_way_in_order : (e : OneWay) → Orderly e → InOrder (T3 e since T4 e)
one_way_in_order e o h =
    let near = o.near in
    let short = o.short in
    let forth = o.forth in
    let d = true_difference e -ℤ travelled e in
    let is : nat_abs d ≡ 2 ^ 63 = subst (λ z. nat_abs z ≡ 2 ^ 63) (difference_is e o) h in
    omega (arith, integers, size_is d, size (true_difference e), minus e.arrived e.sent, minus (true_difference e) (travelled e))

module _ (r : Run) (p : Premises ours r) where
  abbrev x : Broadcast
  x = record { settings = r.settings; version = r.version; poll = r.poll; t3 = T3 r.way; buffer = r.buffer }

  abbrev said : Fields
  said = synchronised_fields r.settings (broadcast_message r.version r.poll (T3 r.way))

  octets_are : octets_of (broadcast_fields x) ≡ octets_of said
  unfolding packet_fields
  octets_are = rw p.synchronised

  write_is : the_write ours r ≡ record { answer = answered tt; octets = octets_of (broadcast_fields x) ++ drop 48 r.buffer }
  write_is = done_so broadcast_meets x _ (p.room, (p.version, (p.set, (p.poll, ((λ e. p.orderly.nonzero.0), refl)))))

  packet_is : take 48 (the_write ours r).octets ≡ octets_of said
  packet_is = ap (λ w. take 48 w.octets) write_is ∙ front (broadcast_fields x) (drop 48 r.buffer) ∙ octets_are

  of_packet : fields_of (octets_of said) ≡ typed said
  of_packet =
      packet_fields_lem r.settings p.set (broadcast_message r.version r.poll (T3 r.way)) r.settings.leap 1 r.settings.identifier r.settings.reference
      (broadcast_message r.version r.poll (T3 r.way)).receive (T3 r.way)
      (let v = p.version.1 in omega arith) (omega arith) (let q = p.poll.1 in omega arith) (omega arith)
      (let l = p.set.leap in omega arith) (omega arith) (omega arith) (reading_below r.way.server r.way.sent)

  arrival_is : the_arrival ours r ≡ answered (T3 r.way since T4 r.way)
  arrival_is =
      (λ i. ours.does broadcast_arrival (record { packet = packet_is i; t4 = T4 r.way }))
      ∙ done_so broadcast_arrival_meets (record { packet = octets_of said; t4 = T4 r.way }) (answered ((fields_of (octets_of said)).transmit since T4 r.way))
      (of_48 (octets_of said) (length_octets_of said), (ap (λ f. f.mode) of_packet, (version_in, (leap_not, (stratum_in, (transmit_not, (p.orderly.nonzero.1, (in_order, refl))))))))
      ∙ ap (λ f. answered (f.transmit since T4 r.way)) of_packet
    where
      version_in : (1 ≤ (fields_of (octets_of said)).version) × ((fields_of (octets_of said)).version ≤ 4)
      version_in = subst (λ f. (1 ≤ f.version) × (f.version ≤ 4)) (sym of_packet) p.version

      leap_not : (fields_of (octets_of said)).leap ≢ 3
      leap_not e = let l = p.set.leap in let q = ap (λ f. f.leap) of_packet in omega arith

      stratum_in : (1 ≤ (fields_of (octets_of said)).stratum) × ((fields_of (octets_of said)).stratum ≤ 15)
      stratum_in = subst (λ f. (1 ≤ f.stratum) × (f.stratum ≤ 15)) (sym of_packet) (omega arith)

      in_order : InOrder ((fields_of (octets_of said)).transmit since T4 r.way)
      in_order = subst (λ f. InOrder (f.transmit since T4 r.way)) (sym of_packet) (one_way_in_order r.way p.orderly)

      transmit_not : (fields_of (octets_of said)).transmit ≢ not_available
      transmit_not = subst (λ f. f.transmit ≢ not_available) (sym of_packet) p.orderly.nonzero.0

  concluded : Conclusions ours r
  concluded = record {
    written = ap (λ w. w.answer) write_is;
    result = arrival_is ∙ ap answered (difference_is r.way p.orderly);
  }

pub broadcast_difference : BroadcastDifference ours
broadcast_difference = concluded

-- ---- the premises can be met

-- where times and constants are numbers, these compute
abbrev tests : OneWay → List Bool
tests e =
    le_z e.sent e.arrived
    ∷ le_z (travelled e) (pos longest_trip)
    ∷ not (is_zero (T3 e))
    ∷ not (is_zero (T4 e))
    ∷ ltb (nat_abs (true_difference e)) broadcast_clocks_apart
    ∷ []

met : (e : OneWay) → T (all (tests e)) → Premises ours (run_of e)
met e t =
    let (forth, (short, (t3, (t4, (near, end))))) = each (tests e) t in
    record {
      orderly = record { forth = le_z_yes forth; short = le_z_yes short; nonzero = ((available (T3 e)).from t3, (available (T4 e)).from t4); near = lit< near };
      synchronised = refl;
      set = record { leap = lit≤ tt; precision = (le_z_yes tt, le_z_yes tt) };
      version = (lit≤ tt, lit≤ tt);
      poll = (lit≤ tt, lit≤ tt);
      room = lit≤ tt;
    }

pub one_way_witnesses : OneWayWitnesses
unfolding reading ◌modulo◌
one_way_witnesses = record { across_met = met across tt; across_read = (refl, refl); slowest_met = met slowest tt; fastest_met = met fastest tt }
