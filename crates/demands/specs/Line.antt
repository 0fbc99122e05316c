-- A line of a replay, its line feed left out: answered as the call that it carries is, and refused by 64 where it carries none.
use Rattle.std.specs.Prelude.{ℕ, cond, Option, Some, None, Result, Ok, Err, List, [], ◌∷◌, eqb}
use Rattle.refusals.specs.declared.Refusal.{Refusal}
use Rattle.refusals.specs.declared.Refusal.TheVariants.{LineMalformed}
use Rattle.client.specs.declared.Client.{Client}
use Rattle.client.specs.Calls.{Call}
use Rattle.hex_decode.specs.Decoding.{decode}
use Rattle.frames.specs.Frames.{LineAnswer, parsed, answer_octets}
use Rattle.replay_lines.specs.Replay as replay
use Rattle.demands.specs.Form.{refusal, kiss, Shown, telling, Form, Implementation}
use Rattle.demands.specs.Wrapper.{Wrapper, wrapped}
use Rattle.demands.specs.Client.{numbers, client}

abbrev pub carried : Client → Option Call → Result (Client × Call) Refusal
carried c (Some x) = Ok (c, x)
carried c None = Err LineMalformed

-- the first octet is the number, or E0 for a kiss; the others are the values
abbrev pub shown : List ℕ → Shown
shown [] = telling []
shown (n ∷ rest) =
    cond (eqb n 0xE0) (record { kind = kiss; number = 0; values = numbers rest })
    (cond (eqb n 0) (telling (numbers rest))
    (record { kind = refusal; number = n; values = numbers rest }))

abbrev pub carrying : Wrapper client
carrying = record {
  Input = Client × List ℕ;
  Outcome = LineAnswer;
  shown = λ o. shown o.octets;
  refusing = λ (c, line) n. record { client = c; octets = n ∷ [] };
  read = λ (c, line). carried c (parsed (decode line));
  show = λ i o. record { client = o.next; octets = answer_octets o.result o.octets };
}

abbrev pub line : Form
line = wrapped client carrying

abbrev pub ours : Implementation line
ours (c, line) = replay.reply c line
