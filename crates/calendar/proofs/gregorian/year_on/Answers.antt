-- The estimate is the year, or the year before it.
use Rattle.calendar.proofs.Years.{year_below, year_above}
use Rattle.calendar.proofs.gregorian.year_on.Goals as goal

pub returns-then-days_before_year-n : goal.returns-then-days_before_year-n
returns-then-days_before_year-n c =
    let y = year_above _ c.requires.from c.requires.to (rw c.days_before_year.ensures.is at c.if-days_before_year-n.true) in
    record { is = y.0; small = y.1; begun = y.2; current = y.3 }

pub returns-else-days_before_year-n : goal.returns-else-days_before_year-n
returns-else-days_before_year-n c =
    let y = year_below _ c.requires.from c.requires.to (rw c.days_before_year.ensures.is at c.if-days_before_year-n.false) in
    record { is = y.0; small = y.1; begun = y.2; current = y.3 }
