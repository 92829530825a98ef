use Rattle.onll_trace.specs.Spots.{IsOf}
use Rattle.onll_shared.proofs.Walking.{WalksOn}
use Rattle.onll_shared.proofs.walk.walk.Given as goal

abbrev pub invariant-loop-post : goal.invariant-loop-post
invariant-loop-post l = record {
  of : IsOf l.trace l.spot;
  on : WalksOn l.initial.spot l.fn.front.place l.spot l.post l.window.items;
}

abbrev pub decreases-loop-post : goal.decreases-loop-post
decreases-loop-post l = l.post.place
