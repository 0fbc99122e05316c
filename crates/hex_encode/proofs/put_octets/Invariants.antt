-- What is left to put makes of the output what the whole does.
use Rattle.std.proofs.Common.{◌≡◌, ◌+◌, ◌*◌, drop}
use Rattle.std.proofs.lemmas.List.Edits.{sets}
use Rattle.hex_encode.specs.Text.{digits}
use Rattle.hex_encode.proofs.put_octets.Given as goal

abbrev pub invariant-loop-octet : goal.invariant-loop-octet
invariant-loop-octet l = record {
  put : sets l.output l.end (digits (drop l.octet-index l.octets)) ≡ sets l.initial.output l.at (digits l.octets);
  end_at : l.end ≡ l.at + 2 * l.octet-index;
}
