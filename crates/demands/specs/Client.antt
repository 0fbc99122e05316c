-- A call of the client, one form for its three calls.
use Rattle.std.specs.Prelude.{ℕ, List, [], ◌∷◌, ℤ, pos}
use Rattle.arithmetic.specs.Octets.{octets}
use Rattle.client.specs.declared.Client.{Client}
use Rattle.client.specs.Calls as calls
use Rattle.client.specs.Calls.{Call, ask, arrival, give_up, lent, Told, Outcome}
use Rattle.demands.specs.Form.{kiss, Shown, refused_by, telling, Rules, Form, Implementation}
use Rattle.demands.specs.Ask.{ask_rules}
use Rattle.demands.specs.Arrival.{arrival_rules}
use Rattle.demands.specs.GiveUp.{give_up_rules}

-- octets as values
abbrev pub numbers : List ℕ → List ℤ
numbers [] = []
numbers (x ∷ xs) = pos x ∷ numbers xs

-- offset, half, delay, the row of a kiss and its four code octets
abbrev values : ℤ → ℕ → ℤ → (row code : ℕ) → List ℤ
values offset half delay row code = offset ∷ pos half ∷ delay ∷ pos row ∷ numbers (octets 4 code)

abbrev pub shown : Told → Shown
shown (calls.refused n) = refused_by 8 n
shown calls.done = telling (values (pos 0) 0 (pos 0) 0 0)
shown (calls.accepted offset half delay) = telling (values offset half delay 0 0)
shown (calls.kiss code row) = record { kind = kiss; number = 0; values = values (pos 0) 0 (pos 0) row code }

abbrev pub call_rules : Client → Call → Rules Outcome
call_rules c (ask x) = ask_rules c x
call_rules c (arrival x) = arrival_rules c x
call_rules c (give_up x) = give_up_rules c x

abbrev pub client : Form
client = record {
  Input = Client × Call;
  Outcome = Outcome;
  shown = λ o. shown o.result;
  refusing = λ (c, x) n. record { result = calls.refused n; next = c; octets = lent x };
  rules = λ (c, x). call_rules c x;
}

abbrev pub ours : Implementation client
ours (c, x) = calls.step c x
