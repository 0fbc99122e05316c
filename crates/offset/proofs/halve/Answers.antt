-- Bit by bit the sum of two numbers is twice what both have, plus what one of them has.
use mir.Facts.{sfits_to_z, to_z-of_z}
use Rattle.offset.specs.Offset.{halves}
use Rattle.offset.proofs.Halving.{shifted, low_bit, one_fits, together, together_fits}
use Rattle.offset.proofs.halve.Goals as goal

pub overflow_add-result : goal.overflow_add-result
overflow_add-result c =
    let f = c.ranges.p in
    let g = c.ranges.q in
    rw (shifted (sfits_to_z (one_fits _ _ f g))) (together_fits _ _ f g)

pub returns : goal.returns
unfolding halves
returns c =
    let f = c.ranges.p in
    let g = c.ranges.q in
    let x = one_fits _ _ f g in
    let (o, h) = together _ _ f g in
    rw (shifted (sfits_to_z x), to_z-of_z (together_fits _ _ f g), low_bit x, o, h)
