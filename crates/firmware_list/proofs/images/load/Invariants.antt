-- The images before number i have legal values, and the records of the first eight of them are in their places.
use Rattle.std.proofs.Common.{◌≡◌, ◌*◌, length, drop}
use Rattle.std.specs.Slice.Iter.{chunks_exact_rest, chunks_exact_size}
use Rattle.std.specs.Iterator.Adapters.{enumerate_source, enumerate_count}
use Rattle.firmware_layouts.specs.Image.{has_values}
use Rattle.firmware_list.specs.Images.{count, each_image, HoldsFirst}
use Rattle.firmware_list.proofs.images.load.Given as goal

abbrev pub invariant-loop-i : goal.invariant-loop-i
invariant-loop-i l = let i = enumerate_count l.i-iterator in let images = enumerate_source l.i-iterator in record {
  size : chunks_exact_size images ≡ 32;
  rest : chunks_exact_rest images ≡ drop (32 * i) l.list;
  values : each_image has_values (count l.list) l.list ≡ each_image has_values (count (chunks_exact_rest images)) (chunks_exact_rest images);
  holds : HoldsFirst l.records i l.list;
  eight : length l.records ≡ 8;
}
