use Rattle.std.proofs.Common.{ℕ, List, ◌≡◌, map, drop, Bor}
use Rattle.onll_text.specs.declared.any_object.Kind.{Kind}
use Rattle.onll_text.specs.Init.{kind_in, kind_of}
use Rattle.onll_text.proofs.any_object.read_kind.Given as goal

abbrev pub invariant-loop-kind : goal.invariant-loop-kind
invariant-loop-kind l = kind_in (map (λ (k : Kind × Bor (List ℕ)). (k.0, k.1.now)) (drop l.kind-index l.kind-items)) l.word ≡ kind_of l.word
