use Rattle.onll_merge.proofs.FrameLogs.{merge_to_front}
use Rattle.onll_merge.proofs.frame_logs_law.Goals as goal

pub returns : goal.returns
returns c = record { front = merge_to_front }
