-- One run of stores after another, which fill the array.
use Rattle.std.proofs.Common.{◌≡◌, ◌∙◌, ℕ, List, [], ◌∷◌, ◌++◌, arith}
use Rattle.std.proofs.lemmas.List.Edits.{sets}
use lib.ListN.{length-append}
use Rattle.arithmetic.specs.Octets.{octets}
use Rattle.arithmetic.proofs.Octets.{sets_append, length_octets}
use Rattle.slices.proofs.Slices.{put_room}
use Rattle.firmware_layouts.proofs.Layouts.{filled}
use Rattle.firmware_layouts.proofs.put_answer.Goals as goal

pub returns : goal.returns
returns c =
    let a = c.args in
    let e2 = c.write_be64.ensures ∙ put_room 8 c.put_head.new.b 8 (omega arith) _ in
    let e3 = c.write_be64-2.ensures ∙ put_room 8 c.write_be64.new.b 16 (omega arith) _ in
    let xs : List ℕ = (a.kind ∷ a.half ∷ a.row ∷ 0 ∷ []) ++ octets 4 a.code ++ octets 8 a.offset ++ octets 8 a.delay in
    let stored : c.write_be64-2.new.b ≡ sets a.b.now 0 xs = rw (e3, e2, c.put_head.ensures) (simp (sets_append, length-append, length_octets)) in
    stored ∙ filled a.b.now xs (simp (length-append, length_octets) (omega arith))
