-- Dates for C (docs/C.md).
use Rattle.std.specs.Prelude.{min, Result}
use Rattle.refusals.specs.declared.Refusal.{Refusal}
use Rattle.calendar.specs.declared.Date.{Date}
use Rattle.calendar.specs.Dates.{date}
use Rattle.refusals.specs.Given.{after}

-- ---- the date of a timestamp

-- the seven numbers lent, as a date: they are the answer's, or stay
abbrev pub date_after : Date → Result Date Refusal → Date
date_after = after (λ d. d)

-- ---- the timestamp of a date

-- the date as the inner call takes it: what 8 bits do not hold becomes 255, which 25 refuses
abbrev pub narrowed : Date → Date
narrowed d = date d.year (min d.month 255) (min d.day 255) (min d.hour 255) (min d.minute 255) (min d.second 255) d.fraction
