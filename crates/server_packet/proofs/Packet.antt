-- Where the settings are in range, the packet can be written. Assumes nothing.
use Prim.Native.Nat.{◌≤◌}
use native.Mathlib.Omega.{arith}
use mathlib.Core.Path.{◌≡◌}
use mathlib.Core.Bool.{Bool, true, false, not, cond, ◌||◌}
use borrow.Author.Tests.{le-ltb}
use lib.Dec.{T, ltb}
use lib.IntN.{pos, neg_ℤ}
use lib.Signed.{lt_z}
use mir.Facts.{or_no, ltb_no}
use Rattle.arithmetic.specs.TwosComplement.{Fits}
use Rattle.std.proofs.lemmas.Int.{ints}
use Rattle.packet.specs.Packet.{is_field_too_large}
use Rattle.server_packet.specs.declared.Settings.{Settings}
use Rattle.server_packet.specs.declared.Message.{Message}
use Rattle.server_packet.specs.Packet.{out_of_range, synchronised_fields, unsynchronised_fields, packet_fields}

module _ (s : Settings) (set : T (not (out_of_range s))) where
  in_range : T (not (ltb 2 s.leap)) × T (not (lt_z s.precision (neg_ℤ (pos 32)))) × T (not (lt_z (pos 0) s.precision))
  unfolding out_of_range
  in_range =
      let low = lt_z s.precision (neg_ℤ (pos 32)) in
      let both = or_no (ltb 2 s.leap || low) (lt_z (pos 0) s.precision) set in
      let first = or_no (ltb 2 s.leap) low both.0 in
      (first.0, first.1, both.1)

  leap_le : s.leap ≤ 2
  leap_le = ltb_no in_range.0

  pub precision_fits : Fits 8 s.precision
  precision_fits = record {
    low = omega (arith, ints, in_range.1);
    high = omega (arith, ints, in_range.2);
  }

  pub packet_small : (m : Message) → m.version ≤ 7 → m.mode ≤ 7 → is_field_too_large (packet_fields s m) ≡ false
  unfolding packet_fields
  packet_small m version mode = go s.synchronised
    where
      go : (b : Bool) → is_field_too_large (cond b (synchronised_fields s m) (unsynchronised_fields s m)) ≡ false
      go true = rw (le-ltb 3 s.leap (omega (arith, leap_le)), le-ltb 7 m.version version, le-ltb 7 m.mode mode)
      go false = rw (le-ltb 7 m.version version, le-ltb 7 m.mode mode)
