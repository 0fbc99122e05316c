-- The Unix time of a timestamp.
use Rattle.refusals.specs.Given.{Given, refused, answered, numbered}
use Rattle.unix_time.specs.declared.UnixTime.{UnixTime}
use Rattle.std.specs.Prelude.{◌≢◌, [], ◌∷◌, pos}
use Rattle.refusals.specs.declared.Refusal.TheVariants.{TimestampZero}
use Rattle.timestamp.specs.declared.Timestamp.{Timestamp}
use Rattle.unix_time.specs.UnixTime.{unix_time_at, unix_time_of}
use Rattle.demands.specs.Form.{Shown, refused_by, telling, ◌unless◌then◌, does, Form, Implementation}
use Rattle.demands.specs.Common.{not_available}

abbrev pub shown : Given UnixTime → Shown
shown (refused n) = refused_by 2 n
shown (answered u) = telling (u.seconds ∷ pos u.nanoseconds ∷ [])

abbrev pub unix_time : Form
unix_time = record {
  Input = Timestamp;
  Outcome = Given UnixTime;
  shown = shown;
  refusing = λ t. refused;
  rules = λ t.
      TimestampZero unless t ≢ not_available then
      does (answered (unix_time_at t));
}

abbrev pub ours : Implementation unix_time
ours t = numbered (unix_time_of t)
