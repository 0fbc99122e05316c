-- The closed form of the month of a day.
use Rattle.std.proofs.Common.{◌≡◌, ◌∙◌}
use borrow.Author.Tests.{lt-ltb, le-ltb}
use Rattle.calendar.proofs.Months.{spread, month_of_lem}
use Rattle.calendar.proofs.gregorian.month_on.Goals as goal
use Rattle.calendar.proofs.gregorian.month_on.Goals.{then-k-extra, else-k-extra}

pub returns : goal.returns
returns c =
    let s : c.if-k-extra.spread ≡ spread c.args.extra c.args.k = elim c.if-k-extra.branch [
      | then-k-extra w ↦ w.spread-is ∙ rw (lt-ltb _ _ w.if-k-extra.true)
      | else-k-extra w ↦ w.spread-is ∙ rw (le-ltb _ _ w.if-k-extra.false)
    ] in
    let m = rw (← s) at (month_of_lem c.args.extra c.args.k c.requires.extra c.requires.k) in
    record { is = m.0; first = m.1; last = m.2; begun = m.3; current = m.4 }
