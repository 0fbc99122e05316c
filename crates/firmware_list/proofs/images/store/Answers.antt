-- The image takes its place, and every other octet stays.
use Rattle.std.proofs.Common.{arith}
use Rattle.firmware_list.proofs.Lists.{put_image, past_end}
use Rattle.firmware_list.proofs.images.store.Goals as goal

pub returns-then-at-list : goal.returns-then-at-list
returns-then-at-list c =
    let a = c.args in
    put_image a.list.now a.at a.client _ (omega arith) c.write_image.ensures

pub returns-else-at-list : goal.returns-else-at-list
returns-else-at-list c = past_end c.args.list.now c.args.at c.args.client (omega arith)
