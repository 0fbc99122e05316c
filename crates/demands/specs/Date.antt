-- The date of a timestamp.
use Rattle.refusals.specs.Given.{Given, refused, answered, numbered}
use Rattle.std.specs.Prelude.{◌≢◌, List, [], ◌∷◌, ℤ, pos}
use Rattle.refusals.specs.declared.Refusal.TheVariants.{TimestampZero}
use Rattle.timestamp.specs.declared.Timestamp.{Timestamp}
use Rattle.timestamp.specs.Timestamp.{fraction_of}
use Rattle.calendar.specs.declared.Date.{Date}
use Rattle.calendar.specs.Dates.{date_at}
use Rattle.calendar.specs.Calendar.{seconds_at, date_of}
use Rattle.demands.specs.Form.{Shown, refused_by, telling, ◌unless◌then◌, does, Form, Implementation}
use Rattle.demands.specs.Common.{not_available}

abbrev values : Date → List ℤ
values d = pos d.year ∷ pos d.month ∷ pos d.day ∷ pos d.hour ∷ pos d.minute ∷ pos d.second ∷ pos d.fraction ∷ []

abbrev pub shown : Given Date → Shown
shown (refused n) = refused_by 7 n
shown (answered d) = telling (values d)

abbrev pub date : Form
date = record {
  Input = Timestamp;
  Outcome = Given Date;
  shown = shown;
  refusing = λ t. refused;
  rules = λ t.
      TimestampZero unless t ≢ not_available then
      does (answered (date_at (seconds_at t) (fraction_of t)));
}

abbrev pub ours : Implementation date
ours t = numbered (date_of t)
