-- A hall with one server: while no alternate exists, a client that is not stopped never stops, whatever calls are made and whatever they carry.
use Rattle.std.specs.Prelude.{◌≡◌, ◌≢◌, false, List, [], ◌∷◌}
use Rattle.client.specs.declared.Client.{Client}
use Rattle.client.specs.declared.Phase.TheVariants.{Stopped}
use Rattle.client.specs.Calls.{Call, ask, arrival, give_up}
use Rattle.demands.specs.Behaviour.{Behaviour}
use Rattle.demands.specs.Demand3.{after}

abbrev pub NoAlternate : Call → Type 0
NoAlternate (ask x) = Unit {0}
NoAlternate (arrival x) = x.alternate ≡ false
NoAlternate (give_up x) = Unit {0}

abbrev pub NoAlternates : List Call → Type 0
NoAlternates [] = Unit {0}
NoAlternates (x ∷ xs) = NoAlternate x × NoAlternates xs

-- each call gets the record that the call before handed back; the first record may be any, for one that is not legal stays as it is
abbrev pub NeverStops : Behaviour → Type 0
NeverStops b = (c : Client) (xs : List Call) → c.phase ≢ Stopped → NoAlternates xs → (after b c xs).phase ≢ Stopped
