-- The arithmetic of four timestamps.
use Rattle.refusals.specs.Given.{Given, refused, answered, numbered}
use Rattle.offset.specs.declared.Measurement.{Measurement}
use Rattle.std.specs.Prelude.{◌^◌, [], ◌∷◌, pos, ◌≤ℤ◌}
use Rattle.refusals.specs.declared.Refusal.TheVariants.{ArrivedBeforeSent, ArrivedTooLate, AnsweredBeforeReceived, DelayNegative, FirstBelowSecond, NoOrder}
use Rattle.timestamp.specs.Timestamp.{◌since◌}
use Rattle.offset.specs.Offset.{measured}
pub use Rattle.clocks.specs.Four.{Four, P, Q, d, offset, half}
use Rattle.demands.specs.Form.{Shown, refused_by, telling, Rules, ◌unless◌then◌, does, Form, Implementation}
use Rattle.demands.specs.Common.{InOrder}

-- the rules of the four, and then the rest
abbrev pub four_rules : {O : Type 0} → Four → Rules O → Rules O
four_rules x rest =
    NoOrder unless InOrder (x.t4 since x.t1) then
    ArrivedBeforeSent unless pos 0 ≤ℤ (x.t4 since x.t1) then
    ArrivedTooLate unless (x.t4 since x.t1) ≤ℤ pos (2 ^ 36) then
    NoOrder unless InOrder (x.t3 since x.t2) then
    AnsweredBeforeReceived unless pos 0 ≤ℤ (x.t3 since x.t2) then
    DelayNegative unless pos 0 ≤ℤ d x then
    NoOrder unless InOrder (P x) then
    NoOrder unless InOrder (Q x) then
    FirstBelowSecond unless Q x ≤ℤ P x then
    rest

-- offset, half and delay
abbrev pub shown : Given Measurement → Shown
shown (refused n) = refused_by 3 n
shown (answered m) = telling (m.offset ∷ pos m.half ∷ m.delay ∷ [])

abbrev pub measure : Form
measure = record {
  Input = Four;
  Outcome = Given Measurement;
  shown = shown;
  refusing = λ x. refused;
  rules = λ x. four_rules x (does (answered (record { offset = offset x; half = half x; delay = d x })));
}

abbrev pub ours : Implementation measure
ours x = numbered (measured x.t1 x.t2 x.t3 x.t4)
