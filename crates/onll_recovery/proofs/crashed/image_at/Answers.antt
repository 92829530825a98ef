use Rattle.std.specs.Cow.{cow_slice_items}
use Rattle.onll_recovery.proofs.Replays.{image_is}
use Rattle.onll_recovery.proofs.crashed.image_at.Goals as goal

pub returns-clause-image : goal.returns-clause-image
returns-clause-image g c =
    image_is c.args.keep c.args.core.now.threads c.args.thread c.device-device.result.now (cow_slice_items c.in_ok-lines.lines) c.lines-count.result c.requires c.device-device.ensures c.in_ok-lines.ensures.exact c.lines-count.ensures.lines
