-- What a clerk has of a count's reply counts what the count did.
use Rattle.std.proofs.Common.{◌≡◌, refl}
use Rattle.std.specs.Prelude.{Result, Ok, Err}
use Rattle.onll_shared.specs.declared.calls.UpdateFault.{UpdateFault}
use Rattle.onll_shared.specs.declared.calls.UpdateFault.TheVariants as faults
use Rattle.onll_meter.specs.declared.meter.MeterReply.{MeterReply}
use Rattle.onll_meter.specs.declared.meter.MeterReply.TheVariants.{Counted, AtItsEnd}
use Rattle.onll_meter.specs.Counting.{counted_by, one_counted, total_said}

pub said_counts : (done : Result MeterReply UpdateFault) → one_counted (total_said done) ≡ counted_by done
said_counts (Ok (Counted total)) = refl
said_counts (Ok AtItsEnd) = refl
said_counts (Err faults.NodesFull) = refl
said_counts (Err (faults.LogFull free)) = refl
said_counts (Err (faults.FenceFailed place)) = refl
said_counts (Err (faults.Broken place)) = refl
