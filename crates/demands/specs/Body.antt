-- The body of an extension field: the packet's octets from one index to another, as far as it has them. No call is refused.
use Rattle.std.specs.Prelude.{ℕ, ◌-◌, List}
use Rattle.arithmetic.specs.Octets.{part}
use Rattle.refusals.specs.Given.{Given, refused, answered}
use Rattle.demands.specs.Form.{Shown, refused_by, telling, does, Form, Implementation}
use Rattle.demands.specs.Client.{numbers}

pub record Body : Type 0 where
  pub packet : List ℕ
  pub start : ℕ
  pub end : ℕ

abbrev pub octets_of : Body → List ℕ
octets_of x = part x.start (x.end - x.start) x.packet

-- ours refuses nothing; some other program might
abbrev pub shown : Given (List ℕ) → Shown
shown (refused n) = refused_by 0 n
shown (answered octets) = telling (numbers octets)

abbrev pub body : Form
body = record {
  Input = Body;
  Outcome = Given (List ℕ);
  shown = shown;
  refusing = λ x. refused;
  rules = λ x. does (answered (octets_of x));
}

abbrev pub ours : Implementation body
ours x = answered (octets_of x)
