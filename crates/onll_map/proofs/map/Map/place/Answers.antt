use Rattle.std.proofs.Common.{rules}
use Rattle.std.proofs.lemmas.List.Sorted.{answers_always}
use Rattle.onll_map.proofs.Found.{searched}
use Rattle.onll_map.proofs.map.Map.place.Goals as goal

-- the closure gives a pair's key, and the slice is the map's pairs
pub returns : goal.returns
returns c =
    let facts = c.binary_search_by_key.ensures in
    let by_key = facts.position (λ pair. pair.0) (answers_always _ _ _ (λ f a r g called. search rules)) in
    let says = searched _ c.args.key _ (rw c.deref.ensures.value c.self.invariant.0.rising) facts.bound by_key in
    rw (← c.self.view_is, ← c.deref.ensures.value) (record { found = says.found; absent = says.absent })
