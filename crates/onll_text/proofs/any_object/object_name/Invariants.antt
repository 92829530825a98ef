use Rattle.std.proofs.Common.{ℕ, List, ◌≡◌, ◌+◌, map, drop, Bor}
use Rattle.onll_text.specs.declared.any_object.Kind.{Kind}
use Rattle.onll_text.specs.Init.{name_in, object_name}
use Rattle.onll_text.proofs.any_object.object_name.Given as goal

abbrev pub invariant-loop-name : goal.invariant-loop-name
invariant-loop-name l = record {
  left : name_in (map (λ (k : Kind × Bor (List ℕ)). (k.0, k.1.now)) (drop l.name-index l.name-items)) l.next l.code ≡ object_name l.code;
  next : l.next ≡ l.name-index + 1;
}
