-- The precision octet of a clock's tick.
use Rattle.std.specs.Prelude.{ℤ}
use Rattle.refusals.specs.Given.{Given, refused, answered, numbered}
use Rattle.std.specs.Prelude.{ℕ, ◌^◌, ◌≤◌, [], ◌∷◌, pos, ◌-ℤ◌}
use Rattle.refusals.specs.declared.Refusal.TheVariants.{TickOutOfRange}
use Rattle.precision.specs.Precision.{least, precision_of}
use Rattle.demands.specs.Form.{Shown, refused_by, telling, ◌unless◌then◌, does, Form, Implementation}

abbrev pub shown : Given ℤ → Shown
shown (refused n) = refused_by 1 n
shown (answered p) = telling (p ∷ [])

abbrev pub precision : Form
precision = record {
  Input = ℕ;
  Outcome = Given ℤ;
  shown = shown;
  refusing = λ tick. refused;
  rules = λ tick.
      TickOutOfRange unless (1 ≤ tick) × (tick ≤ 2 ^ 32) then
      does (answered (pos (least tick 32) -ℤ pos 32));
}

abbrev pub ours : Implementation precision
ours tick = numbered (precision_of tick)
