-- How shipping ends: never with the usage text, a verdict or the fault of a fence.

use Rattle.std.proofs.Common.{ℕ, List, Result, Ok, Err, sym, subst}
use Rattle.onll_task.specs.declared.ending.Ending.{Ending}
use Rattle.onll_task.proofs.ImageFiles.{reading_images_never}
use Rattle.onll_task.proofs.Jobs.{Never, IsRare}
use Rattle.onll_shipping.specs.declared.ship_fault.ShipFault.{ShipFault}
use Rattle.onll_shipping.specs.ShipJob.{HeadedLog, ready, ship_logs_task, ship_task}

module _ (ending : Ending) (rare : IsRare ending) where
  logs_never : (out : List ℕ) (r : Result (List HeadedLog) ShipFault) → Never ending (ship_logs_task out r).job
  logs_never out (Ok logs) = λ e. subst IsRare (sym e) rare
  logs_never out (Err fault) = λ e. subst IsRare (sym e) rare

  pub ship_never : (logs : List ℕ) (threads : ℕ) (out : List ℕ) → Never ending (ship_task logs threads out).job
  ship_never logs threads out = reading_images_never ending logs threads 0 (λ images. (ship_logs_task out (ready images)).job) (λ images. logs_never out (ready images))
