-- The four octets of the Time Protocol, written into a buffer and read.
use Rattle.refusals.specs.Given.{Given, refused, answered, numbered}
use Rattle.std.specs.Prelude.{ℕ, ◌≤◌, ◌≡◌, List, [], ◌∷◌, ◌++◌, pos, length, drop}
use Rattle.arithmetic.specs.Octets.{big_endian, octets}
use Rattle.refusals.specs.declared.Refusal.TheVariants.{TimeLengthWrong}
use Rattle.time_protocol.specs.TimeProtocol.{write_answer, written, read_answer}
use Rattle.demands.specs.Form.{Shown, refused_by, telling, ◌unless◌then◌, does, Form, Implementation}
use Rattle.demands.specs.Common.{Written}

-- ---- written

pub record CountToWrite : Type 0 where
  pub buffer : List ℕ
  pub count : ℕ

abbrev pub shown_written : Given (Unit {0}) → Shown
shown_written (refused n) = refused_by 0 n
shown_written (answered tt) = telling []

abbrev pub write_count : Form
write_count = record {
  Input = CountToWrite;
  Outcome = Written (Given (Unit {0}));
  shown = λ o. shown_written o.answer;
  refusing = λ x n. record { answer = refused n; octets = x.buffer };
  rules = λ x.
      TimeLengthWrong unless 4 ≤ length x.buffer then
      does (record { answer = answered tt; octets = octets 4 x.count ++ drop 4 x.buffer });
}

abbrev pub ours_write : Implementation write_count
ours_write x = record { answer = numbered (write_answer x.buffer); octets = written x.count x.buffer }

-- ---- read

abbrev pub shown_count : Given ℕ → Shown
shown_count (refused n) = refused_by 1 n
shown_count (answered count) = telling (pos count ∷ [])

abbrev pub read_count : Form
read_count = record {
  Input = List ℕ;
  Outcome = Given ℕ;
  shown = shown_count;
  refusing = λ p. refused;
  rules = λ p.
      TimeLengthWrong unless length p ≡ 4 then
      does (answered (big_endian p));
}

abbrev pub ours_read : Implementation read_count
ours_read p = numbered (read_answer p)
