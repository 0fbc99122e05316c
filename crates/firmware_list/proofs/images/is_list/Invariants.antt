-- The images that have passed are those of legal records.
use Rattle.std.proofs.Common.{◌≡◌}
use Rattle.std.specs.Slice.Iter.{chunks_exact_rest, chunks_exact_size}
use Rattle.firmware_layouts.specs.Image.{is_image}
use Rattle.firmware_list.specs.Images.{count, each_image}
use Rattle.firmware_list.proofs.images.is_list.Given as goal

abbrev pub invariant-loop-image : goal.invariant-loop-image
invariant-loop-image l = let images = l.image-iterator in record {
  size : chunks_exact_size images ≡ 32;
  legal : each_image is_image (count l.list) l.list ≡ each_image is_image (count (chunks_exact_rest images)) (chunks_exact_rest images);
}
