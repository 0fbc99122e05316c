-- Each turn tests one image, and puts the record of one of the first eight in its place.
use Rattle.std.proofs.Common.{◌∙◌, sym, arith}
use Rattle.std.proofs.lemmas.List.{length-set}
use Rattle.firmware_layouts.specs.Image.{has_values}
use Rattle.firmware_list.specs.Images.{list_has_values}
use Rattle.firmware_list.proofs.Lists.{read_values, passed, later_images, placed, whole_and_each, all_pass}
use Rattle.firmware_list.proofs.images.load.Goals as goal

pub loop-i-preserved : goal.loop-i-preserved
loop-i-preserved c =
    let inv = c.loop-i.invariant in
    let (values, is) = read_values _ _ (sym c.record_of_values.ensures ∙ c.in-Some-record_of_values.is) in
    let steps = c.in-Some.ensures.steps in
    rw c.put.ensures (record {
      size = steps.0.0 ∙ inv.size;
      rest = later_images _ _ _ _ steps.0.1 inv.size _ _ _ inv.rest steps.2;
      values = passed _ _ _ _ steps.0.1 inv.size has_values _ inv.values values;
      holds = placed _ _ _ _ steps.0.1 inv.size _ _ _ inv.rest steps.2 _ inv.holds inv.eight _ _ steps.1 is;
      eight = length-set _ _ _ ∙ inv.eight;
    })

pub returns-clause-values : goal.returns-clause-values
unfolding list_has_values
returns-clause-values c =
    let inv = c.loop-i.invariant in
    let short = c.in-None.ensures.steps.0.1.0 in
    sym (whole_and_each has_values _ (omega arith) (all_pass _ _ short inv.size has_values _ inv.values))
