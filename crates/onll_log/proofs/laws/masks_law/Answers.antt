use Rattle.onll_log.proofs.MaskBits.{AreMasks-masks}
use Rattle.onll_log.proofs.laws.masks_law.Goals as goal

pub returns : goal.returns
returns c = record { masks = AreMasks-masks }
