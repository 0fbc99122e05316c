-- The last return: no test of the table holds. The facts of the tests are found among those that are known, and not by the tests' names.
use Rattle.std.proofs.Common.{rules, ◌≡◌, false, w64, pos, sym, to_z-of_z, SFits}
use lib.Signed.{lt_z}
use Rattle.arithmetic.proofs.Machine.{held}
use Rattle.timestamp.specs.Timestamp.{◌since◌}
use Rattle.timestamp.proofs.Order.{sfits}
use Rattle.offset.specs.Offset.{halves, measured, offset_tests}
use Rattle.offset.proofs.Differences.{local, lt_minus, delay_fits, NoTestHolds, measures}
use Rattle.offset.proofs.measure.Goals as goal

pub returns : goal.returns
unfolding measured offset_tests halves
returns c =
    let trip = local _ _ c.in_ok-trip.ensures.1 in
    let hold = local _ _ c.in_ok-hold.ensures.1 in
    let p = local _ _ c.in_ok-p.ensures.1 in
    let q = local _ _ c.in_ok-q.ensures.1 in
    let sent : lt_z (held w64 c.in_ok-trip.trip) (pos 0) ≡ false = search rules in
    let within : lt_z (pos 68719476736) (held w64 c.in_ok-trip.trip) ≡ false = search rules in
    let answered : lt_z (held w64 c.in_ok-hold.hold) (pos 0) ≡ false = search rules in
    let delay : lt_z (held w64 c.in_ok-trip.trip) (held w64 c.in_ok-hold.hold) ≡ false = search rules in
    let order : lt_z (held w64 c.in_ok-p.p) (held w64 c.in_ok-q.q) ≡ false = search rules in
    let offset : SFits w64 c.halve-offset.result.offset = search rules in
    let sum = rw (p, q) at c.halve-offset.ensures in
    let fits = delay_fits _ _ (sfits _ _) (sfits _ _) (rw trip at sent) (rw hold at answered) in
    let holds_none : NoTestHolds (c.args.t4 since c.args.t1) (c.args.t3 since c.args.t2) (c.args.t2 since c.args.t1) (c.args.t3 since c.args.t4) = record {
      trip_ordered = c.in_ok-trip.ensures.0;
      sent = rw trip at sent;
      within = rw trip at within;
      hold_ordered = c.in_ok-hold.ensures.0;
      answered = rw hold at answered;
      delay = rw (trip, hold, lt_minus) at delay;
      p_ordered = c.in_ok-p.ensures.0;
      q_ordered = c.in_ok-q.ensures.0;
      sides = rw (p, q) at order;
    } in
    rw (trip, hold, to_z-of_z fits, to_z-of_z offset, sum) (sym (measures holds_none))
