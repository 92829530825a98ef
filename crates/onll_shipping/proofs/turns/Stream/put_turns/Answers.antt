use Rattle.std.proofs.Common.{rules, List, ℕ, ◌+◌, ◌-◌, ◌<◌, map, ap, subst, ◌∙◌}
use Rattle.std.specs.List.{flat_map}
use Rattle.onll_shipping.specs.Turns.{HasMore, first_entry, after_entry, put_in_turns}
use Rattle.onll_shipping.proofs.Putting.{puts_more, turns_more}
use Rattle.onll_shipping.proofs.turns.Stream.put_turns.Goals as goal

pub loop-preserved : goal.loop-preserved
loop-preserved c =
    let turns = c.args.turns in let i = c.loop.counter in
    let before : List (List (List ℕ)) = c.loop.left.items in let after : List (List (List ℕ)) = c.in_ok-left.left.items in
    let low : i < turns = search rules in
    let value = c.deref.ensures.value in
    record {
      few = c.in_ok-left.ensures.few;
      puts = puts_more c.args.self.now c.loop.self c.put_turn.new.self (flat_map first_entry before) (put_in_turns (turns - (i + 1)) after) (put_in_turns (turns - i) before) (put_in_turns turns c.args.logs.items)
          (turns_more i turns before after low (c.in_ok-left.ensures.left ∙ ap (map after_entry) value)) c.loop.invariant.puts
          (subst (λ (l : List (List (List ℕ))). HasMore c.loop.self c.put_turn.new.self (flat_map first_entry l)) value c.in_ok-left.ensures.more);
    }
