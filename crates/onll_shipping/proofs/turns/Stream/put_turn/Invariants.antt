use Rattle.std.proofs.Common.{◌≡◌, ◌++◌, drop, map}
use Rattle.std.specs.List.{flat_map}
use Rattle.onll_shipping.specs.Turns.{IsCountable, first_entry, after_entry}
use Rattle.onll_shipping.proofs.Putting.{Puts}
use Rattle.onll_shipping.proofs.turns.Stream.put_turn.Given as goal

-- with the logs that are left it is what all logs make of it
abbrev pub invariant-loop-log : goal.invariant-loop-log
invariant-loop-log l = record {
  few : IsCountable l.self;
  puts : Puts l.fn.self l.self (flat_map first_entry (drop l.log-index l.logs)) (flat_map first_entry l.logs);
  left : l.left.items ++ map after_entry (drop l.log-index l.logs) ≡ map after_entry l.logs;
}
