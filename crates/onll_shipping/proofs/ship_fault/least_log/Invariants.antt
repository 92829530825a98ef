use Rattle.std.proofs.Common.{◌≡◌, drop}
use Rattle.onll_shipping.specs.ShipJob.{least_log, contents_of}
use Rattle.onll_shipping.proofs.ship_fault.least_log.Given as goal

-- none of the logs so far has this flaw
abbrev pub invariant-loop-log : goal.invariant-loop-log
invariant-loop-log l = least_log l.flaw l.log (contents_of (drop l.log l.images)) ≡ least_log l.flaw 0 (contents_of l.images)
