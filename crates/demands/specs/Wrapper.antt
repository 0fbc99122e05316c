-- A call around another: it first reads what it is given. It refuses that, or hands it on to the inner call, whose outcome is then shown.
use Rattle.std.specs.Prelude.{ℕ, Result, Ok, Err}
use Rattle.refusals.specs.declared.Refusal.{Refusal}
use Rattle.refusals.specs.Numbers.{number}
use Rattle.demands.specs.Form.{Shown, Rules, ◌unless◌then◌, ◌provided◌else◌, does, refuses, Form, Implementation}

pub record Wrapper (F : Form) : Type 1 where
  pub Input : Type 0
  pub Outcome : Type 0
  pub shown : Outcome → Shown
  pub refusing : Input → ℕ → Outcome
  pub read : Input → Result F.Input Refusal
  pub show : Input → F.Outcome → Outcome

-- the same rules, with something made of each outcome
abbrev pub map_rules : {A B : Type 0} → (A → B) → Rules A → Rules B
map_rules f (r unless P then rest) = r unless P then map_rules f rest
map_rules f (a provided P else rest) = f a provided P else map_rules f rest
map_rules f (does a) = does (f a)
map_rules f (refuses r) = refuses r

module _ (F : Form) (W : Wrapper F) where
  abbrev pub rules_of : W.Input → Result F.Input Refusal → Rules W.Outcome
  rules_of i (Err r) = refuses r
  rules_of i (Ok x) = map_rules (W.show i) (F.rules x)

  abbrev pub wrapped : Form
  wrapped = record { Input = W.Input; Outcome = W.Outcome; shown = W.shown; refusing = W.refusing; rules = λ i. rules_of i (W.read i) }

  -- over some program for the inner call
  abbrev pub over : Implementation F → W.Input → Result F.Input Refusal → W.Outcome
  over f i (Err r) = W.refusing i (number r)
  over f i (Ok x) = W.show i (f x)

  abbrev pub through : Implementation F → Implementation wrapped
  through f i = over f i (W.read i)
