use Rattle.std.proofs.Common.{◌-◌}
use Rattle.onll_shipping.specs.Turns.{IsCountable, put_in_turns}
use Rattle.onll_shipping.proofs.Putting.{Puts}
use Rattle.onll_shipping.proofs.turns.Stream.put_turns.Given as goal

-- with the turns that are left it is what all turns make of it
abbrev pub invariant-loop : goal.invariant-loop
invariant-loop l = record {
  few : IsCountable l.self;
  puts : Puts l.fn.self l.self (put_in_turns (l.fn.turns - l.counter) l.left.items) (put_in_turns l.fn.turns l.fn.logs.items);
}
