use Rattle.std.proofs.Common.{ap, sym, ◌∙◌, ◌++◌, ◌-◌, ◌+◌, List, ℕ, arith}
use Rattle.onll_detect.specs.Outcomes.{all_places}
use Rattle.onll_detect.proofs.Tables.{all_more, places_pushed}
use Rattle.onll_detect.proofs.outcomes.all_places.Goals as goal

pub loop-thread-preserved : goal.loop-thread-preserved
loop-thread-preserved c =
    let t = c.loop-thread.thread in
    let rest = all_places (t + 1) (16 - (t + 1)) c.args.nodes.now in
    ap (λ (d : List (List ℕ)). d ++ rest) (places_pushed c.loop-thread.places c.push.new.self _ _ c.in_ok-push.ensures.items c.in_ok-places_of.ensures)
    ∙ sym (all_more t c.args.nodes.now _ (omega arith)) ∙ c.loop-thread.invariant
