-- Exchanges in which wrong programs fail, and what a behaviour that meets demand 3 tells in them.
use Prim.Native.Nat.{ℕ}
use mathlib.Core.Path.{sym, subst}
use mathlib.Core.Logic.{◌≢◌}
use mathlib.Core.Bool.{Bool, true, false, not, ◌&&◌}
use mathlib.Core.List.{List, ◌∷◌, ◌++◌}
use native.Mathlib.Omega.{arith}
use lib.Dec.{T, eqb, leb, le→leb}
use lib.IntN.{ℤ, pos, neg_ℤ, nat_abs, ◌+ℤ◌, ◌-ℤ◌}
use lib.ListN.{take, drop}
use lib.Signed.{le_z}
use mir.Facts.{yes_and}
use Rattle.arithmetic.specs.TwosComplement.{bits}
use Rattle.arithmetic.specs.Octets.{octets}
use Rattle.arithmetic.proofs.Integers.{integers_le}
use Rattle.timestamp.specs.declared.Timestamp.{Timestamp}
use Rattle.offset.specs.Halving.{twice}
use Rattle.client.specs.declared.Client.{Client}
use Rattle.client.specs.Record.{is_waiting}
use Rattle.client.specs.Calls.{Call, arrival, Told, refused, done, accepted, kiss, Outcome}
use Rattle.demands.specs.Form.{refusal}
use Rattle.demands.specs.Measure.{d}
use Rattle.demands.specs.Reply.{Request}
use Rattle.demands.specs.Behaviour.{Behaviour, client, form, ours}
use Rattle.clocks.specs.Exchange.{Exchange, T2, T3, T4, readings, true_difference, Orderly}
use Rattle.demands.specs.Demand3.{the_ask, the_reply, the_arrival, Conclusions, Demand3}
use Rattle.demands.specs.Witnesses.{settings, buffer, run}
use Rattle.demands.proofs.Witnesses.{premises}

-- sent at 5000 and arrived at 5009 by the client's clock
abbrev nine : ℕ → ℕ → ℤ → Exchange
nine received replied server = record { sent = pos 5000; received = pos received; answered = pos replied; arrived = pos 5009; client = pos 0; server = server }

-- the server 1000 units behind, no time on the way out, 2 at the server, 7 on the way back: P + Q is -1000 - 1007, and the bound is met to the unit
abbrev pub slow_back : Exchange
slow_back = nine 5000 5002 (neg_ℤ (pos 1000))

-- 7 on the way out, none on the way back: P + Q is -993 - 1000
abbrev pub slow_out : Exchange
slow_out = nine 5007 5009 (neg_ℤ (pos 1000))

-- the server 999 units behind, 8 on the way back: P + Q is -999 - 1007, both odd
abbrev pub both_odd : Exchange
both_odd = nine 5000 5001 (neg_ℤ (pos 999))

-- the server 1000 units ahead
abbrev pub other_server : Exchange
other_server = nine 5000 5002 (pos 1000)

module _ (e : Exchange) where
  -- the record that waits after our ask, the request, and our server's reply to it
  abbrev pub waiting : Client
  waiting = (the_ask ours (readings e) (run e)).next

  abbrev pub request : Request
  request = record { settings = settings; request = take 48 (the_ask ours (readings e) (run e)).octets; t2 = T2 e; t3 = T3 e; buffer = buffer }

  abbrev packet : List ℕ
  packet = take 48 (the_reply ours (readings e) (run e)).octets

  abbrev pub replied : Client × Call
  replied = (waiting, arrival (record { packet = packet; t4 = T4 e; alternate = true }))

  -- the same reply with these root fields, at t4
  abbrev pub with_root : ℤ → ℕ → Timestamp → Client × Call
  with_root delay dispersion t4 = (waiting, arrival (record { packet = take 4 packet ++ octets 4 (bits 32 delay) ++ octets 4 dispersion ++ drop 12 packet; t4 = t4; alternate = true }))

  -- the same reply with this tail
  abbrev pub with_tail : List ℕ → Client × Call
  with_tail tail = (waiting, arrival (record { packet = packet ++ tail; t4 = T4 e; alternate = true }))

  -- the same reply with stratum 0: a kiss
  abbrev pub with_kiss : Bool → Call
  with_kiss alternate = arrival (record { packet = take 1 packet ++ (0 ∷ drop 2 packet); t4 = T4 e; alternate = alternate })

-- ---- what is seen of an arrival

-- it is accepted with these values
abbrev values : ℤ → ℕ → ℤ → Told → Bool
values o h δ (refused n) = false
values o h δ done = false
values o h δ (accepted o' h' δ') = le_z o o' && le_z o' o && eqb h h' && le_z δ δ' && le_z δ' δ
values o h δ (kiss code row) = false

-- it is not, or the client still waits
abbrev pub tells_other : ℤ → ℕ → ℤ → Outcome → Bool
tells_other o h δ x = not (values o h δ x.result && not (is_waiting x.next.phase))

-- ---- demand 3

module _ (e : Exchange) where
  abbrev delay : ℤ
  delay = d (readings e)

  abbrev pub near : ℤ → ℕ → ℤ → Bool
  near o h δ = le_z (pos (nat_abs (twice o +ℤ pos h -ℤ twice (true_difference e)))) δ

  -- accepted in the bound, with a delay that is not above d and a half of 0 or 1
  abbrev pub in_bound : Told → Bool
  in_bound (refused n) = false
  in_bound done = false
  in_bound (accepted o h δ) = near o h δ && (le_z δ delay && leb h 1)
  in_bound (kiss code row) = false

  module _ (o : Orderly e) (b : Behaviour) (asked : ((form client).shown (the_ask b (readings e) (run e))).kind ≢ refusal) (demand : Demand3 b) where
    pub concluded : Conclusions b (run e)
    concluded = demand (run e) (premises b e o asked)

    pub in_bound_lem : T (in_bound (the_arrival b (readings e) (run e)).result)
    in_bound_lem =
        let c = concluded in
        let same = integers_le {a = delay} {b = delay} (omega arith) in
        subst (λ r. T (in_bound r)) (sym c.reply)
        (yes_and (near c.offset c.half delay) (le_z delay delay && leb c.half 1) c.bound.le (yes_and (le_z delay delay) (leb c.half 1) same.le (le→leb c.half 1 c.half_0_or_1)))
