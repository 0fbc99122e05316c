-- Which records of a client are legal (docs/RULES.md, "The client"), in plain facts.
use Rattle.std.specs.Prelude.{◌≤◌, ◌≡◌, ◌≢◌, ◌↔◌, false}
use Rattle.client.specs.declared.Client.{Client}
use Rattle.client.specs.declared.Phase.TheVariants.{Waiting}
use Rattle.client.specs.Record.{fresh, illegal}
use Rattle.demands.specs.Common.{not_available, no_token}

pub record Legal (c : Client) : Type 0 where
  pub exponent : (6 ≤ c.exponent) × (c.exponent ≤ 14)
  pub waiting : c.phase ≡ Waiting → (c.t1 ≢ not_available) × (c.token ≢ no_token) × ((1 ≤ c.version) × (c.version ≤ 4))
  pub not_waiting : c.phase ≢ Waiting → (c.t1 ≡ not_available) × (c.token ≡ no_token) × (c.version ≡ 0)
  pub never_asked : c.asked ≡ false → c ≡ fresh

-- it is what the code tests
abbrev pub LegalTested : Type 0
LegalTested = (c : Client) → Legal c ↔ (illegal c ≡ false)
