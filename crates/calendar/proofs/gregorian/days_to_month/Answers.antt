-- The closed form of the days to a month.
use Rattle.std.proofs.Common.{arith}
use Rattle.calendar.proofs.Months.{days_to_lem}
use Rattle.calendar.proofs.gregorian.days_to_month.Goals as goal

pub overflow_sub-result : goal.overflow_sub-result
overflow_sub-result c = rw (c.days_before_year.ensures.is, c.from-after.ensures) (omega (arith, days_to_lem c.args.year c.args.month c.requires.month))

pub returns-clause-is : goal.returns-clause-is
returns-clause-is c = rw (c.days_before_year.ensures.is, c.from-after.ensures) (omega (arith, days_to_lem c.args.year c.args.month c.requires.month))
