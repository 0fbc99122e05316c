-- Each turn tests one image.
use Rattle.std.proofs.Common.{◌∙◌, sym, ap, true, arith}
use Rattle.std.specs.Prelude.{is_some}
use Rattle.firmware_layouts.specs.Image.{is_image}
use Rattle.firmware_list.specs.Images.{is_list}
use Rattle.firmware_list.proofs.Lists.{is_read, passed, whole_and_each, all_pass}
use Rattle.firmware_list.proofs.images.is_list.Goals as goal

pub loop-image-preserved : goal.loop-image-preserved
loop-image-preserved c =
    let inv = c.loop-image.invariant in
    let steps = c.in-Some.ensures.steps in
    record {
      size = steps.0 ∙ inv.size;
      legal = passed _ _ _ _ steps.1 inv.size is_image _ inv.legal (is_read _ true (ap is_some (sym c.read_image.ensures) ∙ c.if-is_none.ensures));
    }

pub returns : goal.returns
unfolding is_list
returns c =
    let inv = c.loop-image.invariant in
    let short = c.in-None.ensures.steps.1.0 in
    sym (whole_and_each is_image _ (omega arith) (all_pass _ _ short inv.size is_image _ inv.legal))
